-- `calls::spineyarrow_word` meets its contract: by whether there is such a word, and by what the reader answers. Assumes nothing.
use mathlib.Core.Path.{sym, ◌∙◌}
use Rattle.host.proofs.WordAnswers.{of_word, word_none, word_refused, word_done}
use Rattle.host.proofs.calls.spineyarrow_word.Goals as goal

pub returns-then-not-is_word : goal.returns-then-not-is_word
returns-then-not-is_word c =
    word_none _ _ _ _ _ (sym c.is_word.ensures ∙ c.if-not-is_word.true) c.no_word.ensures c.refusal_told.ensures

pub returns-in-Err : goal.returns-in-Err
returns-in-Err c =
    word_refused _ _ _ (sym c.is_word.ensures ∙ c.if-not-is_word.false) (of_word _ _ _ _ c.signed_word-w.ensures c.read_kind-found.ensures) _ _ _
    c.in-Err.is c.refusal_told-in-Err.ensures

pub returns-in-Ok : goal.returns-in-Ok
returns-in-Ok c =
    word_done _ _ _ (sym c.is_word.ensures ∙ c.if-not-is_word.false) (of_word _ _ _ _ c.signed_word-w.ensures c.read_kind-found.ensures) _ _ _
    c.in-Ok.is c.float_at.ensures
