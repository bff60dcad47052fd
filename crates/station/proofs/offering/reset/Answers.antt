-- `offering::reset` meets its contract. Assumes nothing.
use Rattle.station.proofs.Served.{opened, shut}
use Rattle.station.proofs.AfterReset.{reset_shut, reset_open}
use Rattle.station.proofs.offering.reset.Goals as goal

pub returns-in-Err : goal.returns-in-Err
returns-in-Err c = let a = c.args in reset_shut a.st a.card a.channel _ (shut a.card a.channel c.enter-gate.ensures c.in-Err.is)

pub returns-in-Ok : goal.returns-in-Ok
returns-in-Ok c =
    let a = c.args in
    reset_open a.st a.card a.channel _ _ (opened a.card a.channel c.enter-gate.ensures c.in-Ok.is) c.empty_row-row.ensures
