-- `calls::spineyarrow_immediate` meets its contract: the lengths, the four strings, the record. Assumes nothing.
use mathlib.Core.Path.{sym, ◌∙◌}
use Rattle.host.proofs.FourStrings.{record_refused, record_done}
use Rattle.host.proofs.calls.spineyarrow_immediate.Goals as goal

pub returns-in-Err : goal.returns-in-Err
returns-in-Err c =
    record_refused _ _ _ _ _ _ _ (sym c.are_strings.ensures ∙ c.if-not-are_strings.false) c.read_four-read.ensures _ _
    c.in-Err.is c.refusal_told-in-Err.ensures

pub returns-in-Ok : goal.returns-in-Ok
returns-in-Ok c =
    record_done _ _ _ _ _ _ _ (sym c.are_strings.ensures ∙ c.if-not-are_strings.false) c.read_four-read.ensures _ _ _
    c.in-Ok.is c.record_words.ensures c.record_numbers.ensures
