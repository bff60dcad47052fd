-- `scaling::scaled` meets its contract: a 32-bit integer has fewer than 53 digits. Assumes nothing.
use Prim.Native.Nat.{ℕ}
use native.Mathlib.Omega.{arith}
use lib.IntN.{pos}
use lib.Signed.{nat_abs-le}
use mir.Syntax.{w32}
use mir.ValLaws.{to_z-of_z}
use Rattle.scaled.specs.Scaled.{scaled_of}
use Rattle.scaled.proofs.Product.{product_is, is_number_lem}
use Rattle.scaled.proofs.scaling.scaled.Goals as goal

pub returns : goal.returns
unfolding scaled_of
returns c =
    let a = c.args in
    let f = c.ranges.raw in
    let u : ℕ = a.unit in
    rw (to_z-of_z w32 a.raw f)
    (product_is a.raw u c.power.result (omega (arith, nat_abs-le a.raw f.sfits)) (omega arith) (rw c.power.ensures (is_number_lem (pos 1) u)))
