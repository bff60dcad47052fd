-- `entering::gate_number` meets its contract. Assumes nothing.
use Rattle.station.proofs.Served.{opened, number_open}
use Rattle.station.proofs.entering.gate_number.Goals as goal

pub returns-in-Ok : goal.returns-in-Ok
returns-in-Ok c = let a = c.args in number_open a.card a.channel (opened a.card a.channel c.enter-gate.ensures c.in-Ok.is).0
