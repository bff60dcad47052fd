-- `salvaging::salvage` meets its contract: what holds at the head of its loop is `State`, and each way through it is a step or an end of that. The measure is the
-- number of bytes that are left.
-- Assumes nothing.
use Prim.Native.Nat.{◌-◌}
use lib.ListN.{length}
use Rattle.salvage.proofs.State.{State}
use Rattle.salvage.proofs.salvaging.salvage.Given as goal

abbrev pub invariant-loop-at : goal.invariant-loop-at
invariant-loop-at l = State l.file l.initial.out l.initial.list l.out l.list l.at l.w l.k

abbrev pub decreases-loop-at : goal.decreases-loop-at
decreases-loop-at l = length l.file - l.at
