-- `writing::put_number` meets its contract. The invariant: the places from i on are written (`Put`). Assumes nothing.
use lib.ListN.{length}
use Rattle.wire.proofs.Numbers.{Put}
use Rattle.wire.proofs.writing.put_number.Given as goal

abbrev pub invariant-loop-i : goal.invariant-loop-i
invariant-loop-i l = Put (length l.initial.out) l.x l.out l.i l.rest
