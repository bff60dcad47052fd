-- `coding::from_relative` meets its contract, return by return.
-- Assumes nothing.
use Rattle.strings.proofs.Shape.{shaped, shape_told}
use Rattle.relative.proofs.RelativeCode.{read_no_room, read_no_shape, reads}
use Rattle.relative.proofs.coding.from_relative.Goals as goal

pub returns-then-out-ne11 : goal.returns-then-out-ne11
returns-then-out-ne11 c = read_no_room _ _ c.if-out-ne11.true

pub returns-then-not-well_shaped : goal.returns-then-not-well_shaped
returns-then-not-well_shaped c = read_no_shape _ _ c.if-out-ne11.false (shape_told c.well_shaped.ensures c.if-not-well_shaped.true)

pub polarity_in-requires : goal.polarity_in-requires
polarity_in-requires c =
    (shaped _ (shape_told c.well_shaped.ensures c.if-not-well_shaped.false)).0

pub returns : goal.returns
returns c =
    rw (c.polarity_in.ensures, c.read_symbols.ensures)
    (reads _ _ c.if-out-ne11.false (shape_told c.well_shaped.ensures c.if-not-well_shaped.false))
