-- `handing::hand_over` meets its contract. The loop's invariant: the calls from the place on, made on the station as it is now, lead to the station that is
-- promised, and the reading from there ends as the block does. The measure is how many bytes are left. Assumes nothing.
use mathlib.Core.Path.{sym, ◌∙◌}
use native.Mathlib.Omega.{arith}
use Rattle.blocks.proofs.Steps.{moves, last_stays, goes_on, so_far_more, so_far_all}
use Rattle.blocks.proofs.handing.hand_over.Goals as goal

pub returns-then-is_last : goal.returns-then-is_last
returns-then-is_last c =
    so_far_all c.loop-taken.invariant c.take_field-taken.ensures (last_stays c.take_field-taken.ensures (sym c.is_last.ensures ∙ c.if-is_last.true))
    c.ended_by.ensures

pub loop-taken-smaller : goal.loop-taken-smaller
loop-taken-smaller c =
    let m = moves c.take_field-taken.ensures (goes_on c.take_field-taken.ensures (sym c.is_last.ensures ∙ c.if-is_last.false)) in
    omega (arith, m.forward, m.within)

pub loop-taken-preserved : goal.loop-taken-preserved
loop-taken-preserved c =
    so_far_more c.loop-taken.invariant c.take_field-taken.ensures (goes_on c.take_field-taken.ensures (sym c.is_last.ensures ∙ c.if-is_last.false))
