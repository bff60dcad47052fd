-- `writing::put_stretch` meets its contract: nothing, or a line (`Written`). Assumes nothing.
use Prim.Native.Nat.{◌≤◌}
use native.Mathlib.Omega.{arith}
use mathlib.Core.List.{[], ◌∷◌}
use lib.ListN.{length}
use mir.Syntax.{w64}
use mir.Val.{Fits}
use Rattle.digits.specs.Text.{row}
use Rattle.windows.proofs.Written.{line_long}
use borrow.Author.Rules.{rules}
use Rattle.windows.proofs.writing.put_stretch.Goals as goal

-- the line is no longer than there is room
long : (c : goal.After-put_numbers-arg-in-Stretches-1) → length (row (c.args.first ∷ c.args.count ∷ [])) ≤ 42
long c =
    let f : Fits w64 c.args.first = search rules in
    let k : Fits w64 c.args.count = search rules in
    line_long c.args.first c.args.count f.fits k.fits

-- the line is no longer than there is room
long-2 : (c : goal.After-slice_known-in-Stretches-1) → length (row (c.args.first ∷ c.args.count ∷ [])) ≤ 42
long-2 c =
    let f : Fits w64 c.args.first = search rules in
    let k : Fits w64 c.args.count = search rules in
    line_long c.args.first c.args.count f.fits k.fits

pub put_numbers-requires : goal.put_numbers-requires
put_numbers-requires c =
    (omega (arith, c.requires, long c), omega arith)

pub returns-in-Stretches : goal.returns-in-Stretches
returns-in-Stretches c =
    let p = c.put_numbers.ensures in
    rw c.in-Stretches.is (p, omega (arith, p.past, long-2 c))
