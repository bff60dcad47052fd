-- `telling::copy_all` meets its contract: before place i the output is the first i of what is made and then its own, and its length is as it was.
-- Assumes nothing.
use mathlib.Core.Path.{◌≡◌}
use mathlib.Core.List.{◌++◌}
use Prim.Native.Nat.{◌≤◌}
use lib.ListN.{length, take, drop}
use Rattle.lent_queries.proofs.telling.copy_all.Given as goal

abbrev pub invariant-loop-i : goal.invariant-loop-i
invariant-loop-i l = (l.i ≤ length l.made) × ((l.out ≡ take l.i l.made ++ drop l.i l.initial.out) × (length l.out ≡ length l.initial.out))
