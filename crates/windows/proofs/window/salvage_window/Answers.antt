-- `window::salvage_window` meets its contract: steps up to the goal, and the end of the last window (`Turning`). The measure is what is left of the window.
-- Assumes nothing.
use Prim.Native.Nat.{◌<◌}
use native.Mathlib.Omega.{arith}
use mathlib.Core.Logic.{inl, inr}
use lib.ListN.{length}
use Rattle.windows.specs.Window.{goal_of}
use Rattle.windows.proofs.Turning.{Left, begin, again, closed}
use Rattle.windows.proofs.window.salvage_window.Goals as goal
use Rattle.windows.proofs.window.salvage_window.Goals.{then-loop-turn-test+else-out-turn-ge-SPARE, else-loop-turn-test}

-- a step is made before the goal
ahead : (c : goal.After-slice_known-in-loop-turn-1)
    → c.loop-turn.turn.passed < goal_of c.args.last (length c.args.window.now)
ahead c = omega (arith, c.loop-turn-test.true, c.goal_of-goal.ensures)

-- and the loop is left at the goal, or for want of room
left : (c : goal.After-slice_known-then-last-1)
    → Left c.args.last c.args.window.now c.loop-turn.turn c.loop-turn.out
left c =
    elim c.loop-turn-test.branch [
      | then-loop-turn-test+else-out-turn-ge-SPARE w ↦ inr (omega (arith, w.if-out-turn-ge-SPARE.false))
      | else-loop-turn-test w ↦ inl (omega (arith, w.loop-turn-test.false, c.goal_of-goal.ensures))
    ]

pub loop-turn-init : goal.loop-turn-init
loop-turn-init c = begin c.requires.1

pub loop-turn-preserved : goal.loop-turn-preserved
loop-turn-preserved c =
    again c.loop-turn.invariant (c.step-next.ensures _ (ahead c))

pub returns-then-last : goal.returns-then-last
returns-then-last c =
    closed c.loop-turn.invariant c.if-last.true (left c) c.close.ensures
