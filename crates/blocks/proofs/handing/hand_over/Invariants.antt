-- `handing::hand_over` meets its contract. The loop's invariant: the calls from the place on, made on the station as it is now, lead to the station that is
-- promised, and the reading from there ends as the block does. The measure is how many bytes are left. Assumes nothing.
use Prim.Native.Nat.{◌-◌}
use lib.ListN.{length}
use Rattle.blocks.proofs.Steps.{SoFar}
use Rattle.blocks.proofs.handing.hand_over.Given as goal

abbrev pub invariant-loop-taken : goal.invariant-loop-taken
invariant-loop-taken l = SoFar l.initial.next l.card l.block l.next l.at

abbrev pub decreases-loop-taken : goal.decreases-loop-taken
decreases-loop-taken l = length l.block - l.at
