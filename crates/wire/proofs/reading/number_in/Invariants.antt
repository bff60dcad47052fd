-- `reading::number_in` meets its contract. The invariant: x is the number of the bytes passed (`Read`). Assumes nothing.
use Rattle.wire.proofs.Numbers.{Read}
use Rattle.wire.proofs.reading.number_in.Given as goal

abbrev pub invariant-loop-b : goal.invariant-loop-b
invariant-loop-b l = Read l.s l.b-index l.x
