-- A word that is not below zero, cast to a number without a sign. Assumes nothing.
use mathlib.Core.Path.{◌≡◌, ap, sym, ◌∙◌}
use Prim.Native.Nat.{ℕ, ◌≤◌}
use native.Mathlib.Omega.{arith}
use lib.Dec.{T, lit≤}
use lib.IntN.{ℤ, pos, nat_abs}
use lib.Signed.{non_neg}
use mir.Syntax.{w32}
use mir.Val.{Fits, to_z, of_z}
use mir.ValLaws.{to_z_pos}
use Rattle.rinex.specs.Times.{InFourYears, frame_time}
use Rattle.rinex.specs.Record.{From}

-- what the machine reads back
abbrev z32 : ℤ → ℤ
z32 z = to_z w32 (of_z w32 z)

-- a time of day stays as it is
pub kept : (z : ℤ) (tk : ℕ) → z ≡ pos (frame_time tk) → z32 z ≡ z
kept z tk e = ap z32 e ∙ to_z_pos w32 (frame_time tk) (omega arith) ∙ sym e

module _ {least most : ℕ} (z : ℤ) (f : From least most z) (small : most ≤ 2147483647) where
  back : z32 z ≡ pos f.number
  back = ap z32 f.is ∙ to_z_pos w32 f.number (omega (arith, f.not_more))

  pub cast_fits : T (non_neg (z32 z)) × Fits w32 (nat_abs (z32 z))
  cast_fits = rw back (tt, record { fits = omega (arith, f.not_more) })

  pub cast_is : nat_abs (z32 z) ≡ f.number
  cast_is = ap nat_abs back

  pub same : nat_abs (z32 z) ≡ nat_abs z
  same = cast_is ∙ ap nat_abs (sym f.is)

pub in_four_years : (n4 nt tb : ℤ) → From 1 21 n4 → From 1 1461 nt → From 0 95 tb → InFourYears (nat_abs (z32 n4)) (nat_abs (z32 nt)) (nat_abs (z32 tb))
in_four_years n4 nt tb a b c =
    let p = cast_is n4 a (lit≤ tt) in
    let q = cast_is nt b (lit≤ tt) in
    let r = cast_is tb c (lit≤ tt) in
    record {
      n4_least = omega (arith, a.not_less);
      n4_most = omega (arith, a.not_more);
      nt_least = omega (arith, b.not_less);
      nt_most = omega (arith, b.not_more);
      tb_most = omega (arith, c.not_more);
    }
