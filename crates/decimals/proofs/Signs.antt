-- The sign and the size of a 32-bit integer, as code at 64 bits computes them. Assumes nothing.
use mathlib.Core.Path.{◌≡◌, refl, sym, ap, ◌∙◌, subst}
use mathlib.Core.Bool.{true, false, true≢false}
use Prim.Native.Nat.{zero, suc}
use native.Mathlib.Omega.{arith}
use lib.Dec.{T}
use borrow.Author.Tests.{ltb-true, le-ltb, lt-ltb}
use lib.IntN.{ℤ, pos, negsuc, neg_ℤ, nat_abs, ◌-ℤ◌, +ℤ_idl}
use lib.Signed.{lt_z, non_neg}
use mir.Syntax.{w32, w64}
use mir.Val.{Fits, SFits, to_z, of_z}
use mir.ValLaws.{to_z-of_z}
use Rattle.decimals.specs.Decimal.{below0}

pub wider : (z : ℤ) → SFits w32 z → SFits w64 z
wider z s = record { sfits = omega (arith, s.sfits) }

turned : (z : ℤ) → SFits w32 z → SFits w64 (neg_ℤ z)
turned (pos zero) s = record { sfits = lib.Dec.lit< tt }
turned (pos (suc n)) s = record { sfits = omega (arith, s.sfits) }
turned (negsuc n) s = record { sfits = omega (arith, s.sfits) }

abbrev z32 : ℤ → ℤ
z32 z = to_z w32 (of_z w32 z)

abbrev z64 : ℤ → ℤ
z64 z = to_z w64 (of_z w64 z)

back : (z : ℤ) → SFits w32 z → pos 0 -ℤ z64 (z32 z) ≡ neg_ℤ z
back z s = ap (λ (y : ℤ). pos 0 -ℤ z64 y) (to_z-of_z w32 z s) ∙ ap (λ (y : ℤ). pos 0 -ℤ y) (to_z-of_z w64 z (wider z s)) ∙ +ℤ_idl (neg_ℤ z)

pub cast_fits : (z : ℤ) → SFits w32 z → SFits w64 (z32 z)
cast_fits z s = subst (λ (y : ℤ). SFits w64 y) (sym (to_z-of_z w32 z s)) (wider z s)

pub sub_fits : (z : ℤ) → SFits w32 z → SFits w64 (pos 0 -ℤ z64 (z32 z))
sub_fits z s = subst (λ (y : ℤ). SFits w64 y) (sym (back z s)) (turned z s)

pub turned_is : (z : ℤ) → SFits w32 z → z64 (pos 0 -ℤ z64 (z32 z)) ≡ neg_ℤ z
turned_is z s = ap z64 (back z s) ∙ to_z-of_z w64 (neg_ℤ z) (turned z s)

pub size_neg : (z : ℤ) → nat_abs (neg_ℤ z) ≡ nat_abs z
size_neg (pos zero) = refl
size_neg (pos (suc n)) = refl
size_neg (negsuc n) = refl

pub size_fits : (z : ℤ) → SFits w32 z → Fits w32 (nat_abs z)
size_fits (pos n) s = record { fits = omega (arith, s.sfits) }
size_fits (negsuc n) s = record { fits = omega (arith, s.sfits) }

up : (z : ℤ) → lt_z z (pos 0) ≡ true → T (non_neg (neg_ℤ z))
up (pos n) h = absurd (omega (arith, ltb-true n 0 h))
up (negsuc n) h = tt

not_below : (z : ℤ) → lt_z z (pos 0) ≡ false → T (non_neg z)
not_below (pos n) h = tt
not_below (negsuc n) h = absurd (true≢false h)

pub below_cast : (z : ℤ) → SFits w32 z → lt_z (z32 z) (pos 0) ≡ true → T (non_neg (z64 (pos 0 -ℤ z64 (z32 z)))) × Fits w32 (nat_abs (z64 (pos 0 -ℤ z64 (z32 z))))
below_cast z s h = rw (turned_is z s) (up z (rw (to_z-of_z w32 z s) at h), rw (size_neg z) (size_fits z s))

pub above_cast : (z : ℤ) → SFits w32 z → lt_z (z32 z) (pos 0) ≡ false → T (non_neg (z32 z)) × Fits w32 (nat_abs (z32 z))
above_cast z s h = rw (to_z-of_z w32 z s) (not_below z (rw (to_z-of_z w32 z s) at h), size_fits z s)

pub size_turned : (z : ℤ) → SFits w32 z → nat_abs (z64 (pos 0 -ℤ z64 (z32 z))) ≡ nat_abs z
size_turned z s = ap nat_abs (turned_is z s) ∙ size_neg z

-- ---- the sign
pub is_below_lem : (z : ℤ) → lt_z z (pos 0) ≡ below0 z
is_below_lem (pos n) = le-ltb n 0 (omega arith)
is_below_lem (negsuc n) = refl

pub is_above : (z : ℤ) → lt_z (pos 0) z ≡ below0 (neg_ℤ z)
is_above (pos zero) = refl
is_above (pos (suc n)) = lt-ltb 0 (suc n) (omega arith)
is_above (negsuc n) = refl
