-- The text of a number is the only one that is right: it is the number, rounded once to nearest, ties to even, with one digit before the point that is not 0.
-- Assumes nothing.
use mathlib.Core.Path.{◌≡◌, refl, sym, subst}
use mathlib.Core.Bool.{Bool}
use mathlib.Core.List.{List}
use mathlib.Core.Logic.{◌↔◌}
use Prim.Native.Nat.{ℕ, zero, suc, ◌*◌, ◌^◌, ◌≤◌, ◌<◌}
use native.Mathlib.Nat.{zero-lt-suc}
use native.Mathlib.Omega.{arith}
use lib.IntN.{nat_abs}
use lib.ListN.{length, get_or}
use Rattle.decimals.specs.Decimal.{Nearest, IsRounded, IsSigned, below0, zero_text, text_of, scale_of, figures_of, signed_of}
use Rattle.decimals.specs.Theorems.{Exactly, Nineteen, FirstDigit}
use Rattle.decimals.proofs.Scales.{scale_once}
use Rattle.decimals.proofs.ToNearest.{right, n_near, n_low, nearest_once, scale_le}
use Rattle.decimals.proofs.Carry.{below_ten, power_least, power_most}

module _ (neg : Bool) (a b : ℕ) (A : 0 < a) (small : a < 1000000000000) (B : 0 < b) (big : b < 20000000000000) where
  is_one : IsRounded neg a b (text_of neg (figures_of a b) (scale_of a b))
  is_one = record {
    figures = figures_of a b;
    place = scale_of a b;
    scale = right a b A small B (omega arith);
    near = n_near a b A small B (omega arith);
    not_zero = n_low a b A small B (omega arith);
    one_digit = below_ten a b A small B big;
    two_digits = omega (arith, scale_le a b);
    text = refl;
  }

  no_other : (t : List ℕ) → IsRounded neg a b t → t ≡ text_of neg (figures_of a b) (scale_of a b)
  no_other t u =
      let k : u.place ≡ scale_of a b = scale_once a b u.place (scale_of a b) u.scale (right a b A small B (omega arith)) in
      let near : Nearest (a * 10 ^ scale_of a b) b u.figures = subst (λ (z : ℕ). Nearest (a * 10 ^ z) b u.figures) k u.near in
      let n : u.figures ≡ figures_of a b = nearest_once (a * 10 ^ scale_of a b) b u.figures (figures_of a b) B near (n_near a b A small B (omega arith)) in
      cc u.text

signed : (neg : Bool) (a p : ℕ) (t : List ℕ) → a < 2 ^ 32 → p ≤ 44 → IsSigned neg a (2 ^ p) t ↔ (t ≡ signed_of neg a p)
unfolding signed_of
signed neg zero p t h g = (λ e. e, λ e. e)
signed neg (suc m) p t h g =
    let A = zero-lt-suc m in
    let S : suc m < 1000000000000 = omega (arith, h) in (
      no_other neg (suc m) (2 ^ p) A S (power_least p) (power_most p g) t,
      λ e. subst (λ (l : List ℕ). IsRounded neg (suc m) (2 ^ p) l) (sym e) (is_one neg (suc m) (2 ^ p) A S (power_least p) (power_most p g)),
    )

pub exactly : Exactly
exactly raw p t h g = signed (below0 raw) (nat_abs raw) p t h g

-- ---- by the size, as the code asks it
pub at_zero : (neg : Bool) (a p : ℕ) → a ≡ 0 → zero_text ≡ signed_of neg a p
unfolding signed_of
at_zero neg zero p e = refl
at_zero neg (suc m) p e = absurd (omega arith)

pub at_other : (neg : Bool) (a p : ℕ) → (a ≡ 0 → ⊥) → text_of neg (figures_of a (2 ^ p)) (scale_of a (2 ^ p)) ≡ signed_of neg a p
unfolding signed_of
at_other neg zero p e = absurd (e refl)
at_other neg (suc m) p e = refl

-- ---- its characters
text_long : (neg : Bool) (n k : ℕ) → length (text_of neg n k) ≡ 19
unfolding text_of
text_long neg n k = refl

zero_long : length zero_text ≡ 19
unfolding text_of
zero_long = refl

signed_long : (neg : Bool) (a p : ℕ) → length (signed_of neg a p) ≡ 19
unfolding signed_of
signed_long neg zero p = zero_long
signed_long neg (suc m) p = text_long neg (figures_of (suc m) (2 ^ p)) (scale_of (suc m) (2 ^ p))

pub nineteen : Nineteen
nineteen raw p = signed_long (below0 raw) (nat_abs raw) p

-- the character before the point
abbrev IsOneToNine : List ℕ → Type 0
IsOneToNine t = (49 ≤ get_or t 1 0) × (get_or t 1 0 ≤ 57)

leading : (neg : Bool) (n k : ℕ) → 1000000000000 ≤ n → n < 10000000000000 → IsOneToNine (text_of neg n k)
unfolding text_of
leading neg n k l h = omega arith

first : (neg : Bool) (a p : ℕ) → 0 < a → a < 2 ^ 32 → p ≤ 44 → IsOneToNine (signed_of neg a p)
unfolding signed_of
first neg zero p A h g = absurd (omega arith)
first neg (suc m) p A h g =
    let b = 2 ^ p in
    let B = power_least p in
    let big = power_most p g in
    let low = n_low (suc m) b A (omega (arith, h)) B (omega (arith, big)) in
    leading neg (figures_of (suc m) b) (scale_of (suc m) b) low (below_ten (suc m) b A (omega (arith, h)) B big)

pub first_digit : FirstDigit
first_digit raw p A h g = first (below0 raw) (nat_abs raw) p A h g
