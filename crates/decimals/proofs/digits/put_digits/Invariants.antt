-- `digits::put_digits` meets its contract. The invariant: the places from i on are written (`Put`). Assumes nothing.
use lib.ListN.{length}
use Rattle.decimals.proofs.Letters.{Put}
use Rattle.decimals.proofs.digits.put_digits.Given as goal

abbrev pub invariant-loop-i : goal.invariant-loop-i
invariant-loop-i l = Put (length l.initial.out) l.n l.out l.i l.m
