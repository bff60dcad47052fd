-- `coding::to_relative` meets its contract, return by return.
-- Assumes nothing.
use mathlib.Core.Path.{◌≡◌, sym, ◌∙◌}
use mathlib.Core.Bool.{false}
use Rattle.strings.specs.Number.{misshapen}
use Rattle.strings.proofs.Shape.{shaped, shape_told}
use Rattle.relative.proofs.RelativeCode.{write_no_room, write_no_shape, last_refuses, last_takes}
use borrow.Author.Rules.{rules}
use borrow.Author.Tests.{eq-eqb, ne_eqb}
use Rattle.relative.proofs.coding.to_relative.Goals as goal

shape_ok : (c : goal.Else-not-well_shaped) → misshapen c.args.s.now ≡ false
shape_ok c = shape_told c.well_shaped.ensures c.if-not-well_shaped.false

shape_ok-2 : (c : goal.Then-bit-eq1) → misshapen c.args.s.now ≡ false
shape_ok-2 c = shape_told c.well_shaped.ensures c.if-not-well_shaped.false

shape_ok-3 : (c : goal.After-slice_known-3-1) → misshapen c.args.s.now ≡ false
shape_ok-3 c = shape_told c.well_shaped.ensures c.if-not-well_shaped.false

pub copy_from_slice-requires : goal.copy_from_slice-requires
copy_from_slice-requires c = c.if-out-ne11.false ∙ sym (shaped c.args.s.now (shape_told c.well_shaped.ensures c.if-not-well_shaped.false)).0

pub returns-then-out-ne11 : goal.returns-then-out-ne11
returns-then-out-ne11 c = write_no_room _ _ c.if-out-ne11.true

pub returns-then-not-well_shaped : goal.returns-then-not-well_shaped
returns-then-not-well_shaped c = write_no_shape _ _ c.if-out-ne11.false (shape_told c.well_shaped.ensures c.if-not-well_shaped.true)

pub bit-requires : goal.bit-requires
bit-requires c = ((shaped _ (shape_ok c)).0, search rules)

pub returns-then-bit-eq1 : goal.returns-then-bit-eq1
returns-then-bit-eq1 c =
    last_refuses c.args.s.now c.args.out.now c.if-out-ne11.false (shape_ok-2 c) (eq-eqb _ _ (sym c.bit.ensures ∙ c.if-bit-eq1.true))

pub returns : goal.returns
returns c =
    let e = c.copy_from_slice.ensures.after in
    rw (c.send_symbols.ensures, e)
    (last_takes c.args.s.now c.args.out.now c.if-out-ne11.false (shape_ok-3 c) (ne_eqb _ _ (λ q. c.if-bit-eq1.false (c.bit.ensures ∙ q))))
