-- `checking::check` meets its contract, return by return. Assumes nothing.
use mathlib.Core.Path.{◌≡◌, ◌∙◌, sym}
use mathlib.Core.Bool.{false}
use Rattle.strings.specs.Number.{misshapen}
use Rattle.strings.proofs.Shape.{shaped, shape_told}
use Rattle.strings.proofs.CheckAnswers.{check_no_room, check_no_shape, check_damaged}
use Rattle.std.proofs.lemmas.Result.{err_from_is_err_and}
use Rattle.strings.proofs.checking.check.Goals as goal

-- past the tests of room and shape
shape : (c : goal.Else-not-well_shaped) → misshapen c.args.s.now ≡ false
shape c = shape_told c.well_shaped.ensures c.if-not-well_shaped.false

pub returns-then-out-ne11 : goal.returns-then-out-ne11
returns-then-out-ne11 c = check_no_room _ _ c.if-out-ne11.true

pub returns-then-not-well_shaped : goal.returns-then-not-well_shaped
returns-then-not-well_shaped c = check_no_shape _ _ c.if-out-ne11.false (shape_told c.well_shaped.ensures c.if-not-well_shaped.true)

pub examine-requires : goal.examine-requires
examine-requires c = (shaped _ (shape c)).0

pub returns-in_err-v : goal.returns-in_err-v
returns-in_err-v c =
    let p = err_from_is_err_and c.from_residual.result c.from_residual.ensures.1 in
    rw (p.1, p.2) (check_damaged _ _ c.if-out-ne11.false (shape_told c.well_shaped.ensures c.if-not-well_shaped.false) _ (sym c.examine.ensures ∙ c.in_err-v.was))
