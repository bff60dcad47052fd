-- `writing::add_at` meets its contract: the sum stands in the bytes from i on and in the carry (`Carrying`). Assumes nothing.
use Rattle.words.proofs.Carrying.{Carrying}
use Rattle.words.proofs.writing.add_at.Given as goal

abbrev pub invariant-loop-i : goal.invariant-loop-i
invariant-loop-i l = Carrying l.initial.out l.at l.v l.out l.i l.carry
