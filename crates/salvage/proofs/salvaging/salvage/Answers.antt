-- `salvaging::salvage` meets its contract: what holds at the head of its loop is `State`, and each way through it is a step or an end of that. The measure is the
-- number of bytes that are left.
-- Assumes nothing.
use native.Mathlib.Omega.{arith}
use mathlib.Core.Path.{◌∙◌, sym}
use Rattle.salvage.proofs.Places.{next_in}
use Rattle.salvage.proofs.Items.{field_in}
use Rattle.salvage.proofs.State.{begin, keep, skip, no_stretch, no_room_lem}
use Rattle.salvage.proofs.salvaging.salvage.Goals as goal

pub loop-at-init : goal.loop-at-init
loop-at-init c = begin _ _ _

pub returns-then-list-k : goal.returns-then-list-k
returns-then-list-k c =
    no_stretch c.loop-at.invariant c.loop-at-test.true (sym c.size_at-n.ensures ∙ c.if-n-eq0.true) c.if-list-k.true

pub overflow_sub-q : goal.overflow_sub-q
overflow_sub-q c =
    omega (arith, (next_in c.args.file.now c.loop-at.at c.loop-at-test.true).0, c.next_place-q.ensures)

pub loop-at-smaller-then-n-eq0 : goal.loop-at-smaller-then-n-eq0
loop-at-smaller-then-n-eq0 c =
    let n = next_in c.args.file.now c.loop-at.at c.loop-at-test.true in
    omega (arith, n.0, n.1, c.next_place-q.ensures)

pub loop-at-preserved-then-n-eq0 : goal.loop-at-preserved-then-n-eq0
loop-at-preserved-then-n-eq0 c =
    skip c.loop-at.invariant _ _ c.loop-at-test.true (sym c.size_at-n.ensures ∙ c.if-n-eq0.true)
    c.next_place-q.ensures c.if-list-k.false c.put_stretch.ensures

pub returns-then-out-w : goal.returns-then-out-w
returns-then-out-w c =
    no_room_lem c.loop-at.invariant _ c.loop-at-test.true c.size_at-n.ensures c.if-n-eq0.false c.if-out-w.true

pub put_field-requires : goal.put_field-requires
put_field-requires c =
    (field_in c.args.file.now c.loop-at.at c.size_at-n.result c.size_at-n.ensures c.if-n-eq0.false, omega (arith, c.if-out-w.false, c.loop-at.invariant.w_in, c.loop-at.invariant.out_len))

pub loop-at-preserved : goal.loop-at-preserved
loop-at-preserved c =
    keep c.loop-at.invariant _ _ c.loop-at-test.true c.size_at-n.ensures c.if-n-eq0.false c.if-out-w.false c.put_field.ensures
