-- What is proved of the text of a number (proofs/Scales.antt, proofs/ToNearest.antt, proofs/Carry.antt, proofs/Exactly.antt).
-- Assumes nothing.
use Rattle.std.specs.Prelude.{ℕ, ◌^◌, ◌≤◌, ◌<◌, List, ◌↔◌, ◌≡◌, ℤ, nat_abs, length, get_or}
use Rattle.decimals.specs.Decimal.{Scale, Nearest, IsDecimal, figures_of, decimal_of}

-- the scale and the figures are the only ones that fit: proved as `scale_once` and `nearest_once`
abbrev pub OneScale : Type 0
OneScale = (a b j k : ℕ) → Scale a b j → Scale a b k → j ≡ k

abbrev pub OneNearest : Type 0
OneNearest = (x b n m : ℕ) → 0 < b → Nearest x b n → Nearest x b m → n ≡ m

-- no carry can occur: nothing rounds up to 10. Proved as `no_carry`
abbrev pub NoCarry : Type 0
NoCarry = (a p : ℕ) → 0 < a → a < 2 ^ 32 → p ≤ 44 → figures_of a (2 ^ p) < 10000000000000

-- of every word of 32 bits and every unit to 2 ^ -44, exactly this text is right: it is one, and there is no other. Proved as `exactly`
abbrev pub Exactly : Type 0
Exactly = (raw : ℤ) (p : ℕ) (t : List ℕ) → nat_abs raw < 2 ^ 32 → p ≤ 44 → IsDecimal raw p t ↔ (t ≡ decimal_of raw p)

-- it has nineteen characters, and the digit before the point is 1 to 9, but for zero: proved as `nineteen` and `first_digit`
abbrev pub Nineteen : Type 0
Nineteen = (raw : ℤ) (p : ℕ) → length (decimal_of raw p) ≡ 19

abbrev pub FirstDigit : Type 0
FirstDigit = (raw : ℤ) (p : ℕ) → 0 < nat_abs raw → nat_abs raw < 2 ^ 32 → p ≤ 44 → (49 ≤ get_or (decimal_of raw p) 1 0) × (get_or (decimal_of raw p) 1 0 ≤ 57)
