-- `reading::read_words` meets its contract: "2, 3, 4, 5, 11, 10", the first three by the check (`ReadAnswers`). Assumes nothing.
use mathlib.Core.Path.{refl}
use Rattle.words.proofs.ReadAnswers.{refused_read, taken_read}
use Rattle.std.proofs.lemmas.Result.{err_from_is_err_and}
use Rattle.words.proofs.reading.read_words.Goals as goal

pub returns-in_err-check : goal.returns-in_err-check
returns-in_err-check c =
    let p = err_from_is_err_and c.from_residual.result c.from_residual.ensures.1 in
    rw (p.1, p.2) (refused_read _ _ _ _ _ refl c.check.ensures _ c.in_err-check.was)

pub returns : goal.returns
returns c =
    taken_read _ _ _ _ _ refl c.check.ensures _ _ c.in_ok-check.was
    (λ i. (c.type_inv.s i).fits) c.read_whole.ensures
