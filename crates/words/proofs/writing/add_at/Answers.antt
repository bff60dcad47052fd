-- `writing::add_at` meets its contract: the sum stands in the bytes from i on and in the carry (`Carrying`). Assumes nothing.
use mathlib.Core.Path.{◌≡◌}
use native.Mathlib.Omega.{arith}
use Rattle.words.proofs.Carrying.{carry_start, carry_step, carry_none, carry_end}
use Rattle.words.proofs.writing.add_at.Goals as goal

pub loop-i-init : goal.loop-i-init
loop-i-init c = carry_start _ _ _ c.requires.out_len (λ i. (c.type_inv.out i).fits) c.requires.at_bound.0 c.requires.at_bound.1

pub returns-then-carry-eq0 : goal.returns-then-carry-eq0
returns-then-carry-eq0 c = let l = c.loop-i in carry_none _ _ _ _ l.i l.carry c.if-carry-eq0.true l.invariant

pub loop-i-preserved : goal.loop-i-preserved
loop-i-preserved c = rw c.wide.ensures.0 (carry_step _ _ _ _ _ _ c.loop-i-test.true c.loop-i.invariant)

pub returns : goal.returns
returns c =
    let l = c.loop-i in
    let z : l.i ≡ 0 = omega arith in
    carry_end _ _ _ _ l.carry (rw z at l.invariant)
