-- Numbers in two parts, a high one and a low one: how they compare, and a word cut in two.
-- Assumes nothing.
use mathlib.Core.Path.{◌≡◌, refl, sym, ap, ap₂, ◌∙◌}
use mathlib.Core.Bool.{Bool, true, false, ◌&&◌, ◌||◌}
use Prim.Native.Nat.{ℕ, suc, ◌+◌, ◌-◌, ◌*◌, ◌/◌, ◌%◌, ◌^◌, ◌≤◌, ◌<◌}
use native.Mathlib.Nat.{mul-le-mul_right, suc-mul}
use native.Mathlib.Omega.{arith}
use borrow.Author.Tests.{lt-ltb, le-ltb, eq-eqb, ne_eqb, ltb-true, ltb-false, eqb-true, eqb-false}
use lib.Arith.{lt_of_le-ne}
use lib.Dec.{eqb, ltb}
use lib.Pow.{high, low as low_part}
use Rattle.strings.specs.Pick.{pick}
use Rattle.strings.specs.Number.{word_of}
use Rattle.strings.proofs.WordOf.{word_lt, word_cut}

-- ---- comparing by a first number, then by the rest
-- the definition's "below, or equal and the rest is below" is the code's "where they differ, by them; else by the rest"
pub first_differs : (x y : ℕ) (r : Bool) → (ltb x y || (eqb x y && r)) ≡ pick (eqb x y) r (ltb x y)
first_differs x y r = by (eqb x y) (ltb x y) refl refl
  where
    by : (t u : Bool) → eqb x y ≡ t → ltb x y ≡ u → (u || (t && r)) ≡ pick t r u
    by true true e l = let i : x ≡ y = eqb-true x y e in let j : x < y = ltb-true x y l in absurd (omega arith)
    by true false e l = refl
    by false true e l = refl
    by false false e l = refl

-- where the last numbers are equal, neither is below
pub last_equal : (x y : ℕ) → ltb x y ≡ pick (eqb x y) false (ltb x y)
last_equal x y = by (eqb x y) refl
  where
    by : (t : Bool) → eqb x y ≡ t → ltb x y ≡ pick t false (ltb x y)
    by true e = le-ltb x y (omega (arith, eqb-true x y e))
    by false e = refl

-- ---- two numbers in two parts compare as their parts: p is above both low parts
module _ (p a b c d : ℕ) (hb : b < p) (hd : d < p) where
  over : a < c → a * p + b < c * p + d
  over h =
      let m : suc a * p ≤ c * p = mul-le-mul_right p h in
      omega (arith, suc-mul a p)

  under : c < a → c * p + d < a * p + b
  under h =
      let m : suc c * p ≤ a * p = mul-le-mul_right p h in
      omega (arith, suc-mul c p)

  pub two_parts : (r : Bool) → pick (eqb (a * p + b) (c * p + d)) r (ltb (a * p + b) (c * p + d)) ≡ pick (eqb a c) (pick (eqb b d) r (ltb b d)) (ltb a c)
  two_parts r = by (eqb a c) (eqb b d) (ltb a c) (ltb b d) refl refl refl refl
    where
      by : (t u v w : Bool) → eqb a c ≡ t → eqb b d ≡ u → ltb a c ≡ v → ltb b d ≡ w
          → pick (eqb (a * p + b) (c * p + d)) r (ltb (a * p + b) (c * p + d)) ≡ pick t (pick u r w) v
      by true true v w e f g h =
          simp (eq-eqb (a * p + b) (c * p + d) (ap₂ (λ (x y : ℕ). x * p + y) (eqb-true a c e) (eqb-true b d f)))
      by true false v true e f g h =
          let i : a * p ≡ c * p = ap (λ (x : ℕ). x * p) (eqb-true a c e) in
          let l : b < d = ltb-true b d h in
          simp (ne_eqb (a * p + b) (c * p + d) (λ q. omega arith), lt-ltb (a * p + b) (c * p + d) (omega arith))
      by true false v false e f g h =
          let i : a * p ≡ c * p = ap (λ (x : ℕ). x * p) (eqb-true a c e) in
          let l : d < b = lt_of_le-ne (ltb-false b d h) (λ q. eqb-false b d f (sym q)) in
          simp (ne_eqb (a * p + b) (c * p + d) (λ q. omega arith), le-ltb (a * p + b) (c * p + d) (omega arith))
      by false u true w e f g h =
          let l = over (ltb-true a c g) in
          simp (ne_eqb (a * p + b) (c * p + d) (λ q. omega arith), lt-ltb (a * p + b) (c * p + d) (omega arith))
      by false u false w e f g h =
          let l = under (lt_of_le-ne (ltb-false a c g) (λ q. eqb-false a c e (sym q))) in
          simp (ne_eqb (a * p + b) (c * p + d) (λ q. omega arith), le-ltb (a * p + b) (c * p + d) (omega arith))

-- ---- a word cut in two: its two parts are words
module _ (n top mid low : ℕ) (h : 1 ≤ low) (l : low ≤ mid + 1) (u : mid ≤ top) where
  pub word_high : word_of n top low / 2 ^ (mid + 1 - low) ≡ word_of n top (mid + 1)
  word_high = ap (λ (x : ℕ). x / 2 ^ (mid + 1 - low)) (word_cut n top mid low h l u) ∙ high (word_of n top (mid + 1)) (mid + 1 - low) (word_lt n mid low)

  pub word_low : word_of n top low % 2 ^ (mid + 1 - low) ≡ word_of n mid low
  word_low = ap (λ (x : ℕ). x % 2 ^ (mid + 1 - low)) (word_cut n top mid low h l u) ∙ low_part (word_of n top (mid + 1)) (mid + 1 - low) (word_lt n mid low)

-- an entry's half, the bits from 80 down to low: its part above 64 bits, and its 64 low bits in two words, as the code reads them
module _ (n low : ℕ) (h : 1 ≤ low) (u : low ≤ 17) where
  -- the places, as `word_cut` names them
  wide : low + 63 + 1 - low ≡ 64
  wide = omega arith

  narrow : low + 31 + 1 - low ≡ 32
  narrow = omega arith

  above : low + 63 + 1 ≡ low + 64
  above = omega arith

  middle : low + 31 + 1 ≡ low + 32
  middle = omega arith

  pub half_high : word_of n 80 low / 2 ^ 64 ≡ word_of n 80 (low + 64)
  half_high =
      ap (λ (k : ℕ). word_of n 80 low / 2 ^ k) (sym wide) ∙ word_high n 80 (low + 63) low h (omega arith) (omega arith) ∙ ap (word_of n 80) above

  pub half_low : word_of n 80 low % 2 ^ 64 ≡ word_of n (low + 63) (low + 32) * 2 ^ 32 + word_of n (low + 31) low
  half_low =
      ap (λ (k : ℕ). word_of n 80 low % 2 ^ k) (sym wide) ∙ word_low n 80 (low + 63) low h (omega arith) (omega arith)
      ∙ word_cut n (low + 63) (low + 31) low h (omega arith) (omega arith)
      ∙ ap₂ (λ (j k : ℕ). word_of n (low + 63) j * 2 ^ k + word_of n (low + 31) low) middle narrow
