-- The numbers of a navigation file (request 11): "Numbers have one digit before the point and twelve after, rounded to nearest, ties to even, from the exact
-- scaled integer; zero has no minus". The exact number is raw / 2 ^ p. All is said with whole numbers: for the right k, 10 ^ k times the number lies from
-- 10 ^ 12 up to below 10 ^ 13, so that its thirteen figures stand before the point, and 12 - k is the exponent.
-- Assumes nothing.
use Prim.Native.Nat.{ℕ, zero, suc, ◌+◌, ◌-◌, ◌*◌, ◌/◌, ◌%◌, ◌^◌, ◌≤◌, ◌<◌, compare, Ordering}
use Rattle.std.specs.Prelude.{Bool, true, false, cond, List, [], ◌∷◌, ◌++◌, ◌⊎◌, ◌≡◌, leb, ℤ, pos, negsuc, nat_abs}

-- ---- what is asked of the figures
-- k is right for a / b: 10 ^ 12 ≤ a / b * 10 ^ k < 10 ^ 13
pub record Scale (a b k : ℕ) : Type 0 where
  pub low : 1000000000000 * b ≤ a * 10 ^ k
  pub high : a * 10 ^ k < 10000000000000 * b

-- n is x / b "rounded to nearest, ties to even": no more than a half away, and even where it is a half away
pub record Nearest (x b n : ℕ) : Type 0 where
  pub below : 2 * (n * b) ≤ 2 * x + b
  pub above : 2 * x ≤ 2 * (n * b) + b
  pub even : (2 * (n * b) ≡ 2 * x + b) ⊎ (2 * x ≡ 2 * (n * b) + b) → n % 2 ≡ 0

-- ---- the characters
-- the last d decimal digits of n, the highest first
abbrev pub digits_of : ℕ → ℕ → List ℕ
digits_of zero n = []
digits_of (suc d) n = (48 + n / 10 ^ d % 10) ∷ digits_of d n

-- nineteen of them for n * 10 ^ -k: a minus or a blank, "one digit before the point and twelve after", D, the sign of the exponent 12 - k, and its two digits
unfoldable pub text_of : Bool → ℕ → ℕ → List ℕ
text_of neg n k = cond neg 45 32 ∷ (digits_of 1 (n / 1000000000000) ++ (46 ∷ (digits_of 12 n ++ (68 ∷ cond (leb k 12) 43 45 ∷ digits_of 2 (12 - k + (k - 12))))))

-- ---- what is asked of the text
-- t is a / b, which is not 0, with a sign: rounded once, one digit before the point that is not 0, and an exponent that two digits hold
pub record IsRounded (neg : Bool) (a b : ℕ) (t : List ℕ) : Type 0 where
  pub figures : ℕ
  pub place : ℕ
  pub scale : Scale a b place
  pub near : Nearest (a * 10 ^ place) b figures
  pub not_zero : 1000000000000 ≤ figures
  pub one_digit : figures < 10000000000000
  pub two_digits : 12 - place + (place - 12) < 100
  pub text : t ≡ text_of neg figures place

-- "zero has no minus"
abbrev pub zero_text : List ℕ
zero_text = text_of false 0 12

abbrev pub IsSigned : Bool → ℕ → ℕ → List ℕ → Type 0
IsSigned neg zero b t = t ≡ zero_text
IsSigned neg (suc m) b t = IsRounded neg (suc m) b t

-- 0 is not below zero
abbrev pub below0 : ℤ → Bool
below0 (pos n) = false
below0 (negsuc n) = true

-- t is the text of the number raw / 2 ^ p
abbrev pub IsDecimal : ℤ → ℕ → List ℕ → Type 0
IsDecimal raw p t = IsSigned (below0 raw) (nat_abs raw) (2 ^ p) t

-- ---- the one text that it is
-- how often x is multiplied by ten before it reaches g, up to f times
abbrev pub climbs : ℕ → ℕ → ℕ → ℕ
climbs zero x g = 0
climbs (suc f) x g = cond (leb g x) 0 (suc (climbs f (x * 10) g))

unfoldable pub scale_of : ℕ → ℕ → ℕ
scale_of a b = climbs 31 a (1000000000000 * b)

-- q and a rest, by how twice the rest compares with one: a half goes to the even number
abbrev pub to_nearest : ℕ → Ordering → ℕ
to_nearest q Ordering.lt = q
to_nearest q Ordering.eq = q + q % 2
to_nearest q Ordering.gt = q + 1

abbrev pub rounded : ℕ → ℕ → ℕ
rounded x b = to_nearest (x / b) (compare (x % b * 2) b)

unfoldable pub figures_of : ℕ → ℕ → ℕ
figures_of a b = rounded (a * 10 ^ scale_of a b) b

unfoldable pub signed_of : Bool → ℕ → ℕ → List ℕ
signed_of neg zero p = zero_text
signed_of neg (suc m) p = text_of neg (figures_of (suc m) (2 ^ p)) (scale_of (suc m) (2 ^ p))

abbrev pub decimal_of : ℤ → ℕ → List ℕ
decimal_of raw p = signed_of (below0 raw) (nat_abs raw) p
