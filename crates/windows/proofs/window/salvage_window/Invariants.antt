-- `window::salvage_window` meets its contract: steps up to the goal, and the end of the last window (`Turning`). The measure is what is left of the window.
-- Assumes nothing.
use Prim.Native.Nat.{◌-◌}
use lib.ListN.{length}
use Rattle.windows.proofs.Turning.{Sofar}
use Rattle.windows.proofs.window.salvage_window.Given as goal

abbrev pub invariant-loop-turn : goal.invariant-loop-turn
invariant-loop-turn l = Sofar l.wanted l.window l.last l.first l.initial.turn.stands l.initial.out l.turn l.out

abbrev pub decreases-loop-turn : goal.decreases-loop-turn
decreases-loop-turn l = length l.window - l.turn.passed
