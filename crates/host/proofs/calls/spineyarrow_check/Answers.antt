-- `calls::spineyarrow_check` meets its contract: the check's own, in one number. Assumes nothing.
use Rattle.host.proofs.Values.{check_told}
use Rattle.host.proofs.calls.spineyarrow_check.Goals as goal

pub returns : goal.returns
returns c = check_told _ _ _ _ _ c.check.ensures c.checked_told.ensures
