-- `asking::put_new` meets its contract: the record last written, or another, which is remembered (`Telling`). Assumes nothing.
use Rattle.navfile.proofs.Telling.{told_before, told_new}
use Rattle.navfile.proofs.asking.put_new.Goals as goal

pub returns-then-quarter-written : goal.returns-then-quarter-written
returns-then-quarter-written c = told_before _ _ _ _ _ _ c.if-quarter-written.true

pub returns : goal.returns
returns c = told_new _ _ _ _ _ _ c.if-quarter-written.false c.put.ensures
