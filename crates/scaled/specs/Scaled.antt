-- "each signed word as a float: the raw number times the unit .. exactly, without rounding" (request 7): the float is the number raw / 2 ^ unit itself, and
-- not the nearest float to it. What is proved of it is in proofs/Exactly.antt.
-- Assumes nothing.
use Rattle.std.specs.Prelude.{ℕ, ◌-◌, ◌^◌, ◌≤◌, ◌<◌, Bool, true, false, ◌≡◌, T, ℤ, pos, negsuc, nat_abs, Float}
use Rattle.std.specs.Float.{fin, binary64}
use Rattle.std.specs.Float.Ieee.{odd, fits}
use Rattle.std.specs.Float.Ieee.Exact.{HasValue}

-- 0 is not below zero
abbrev pub below0 : ℤ → Bool
below0 (pos n) = false
below0 (negsuc n) = true

-- x is finite, has raw's sign, and its size times 2 ^ unit is raw's size
abbrev pub IsScaled : ℤ → ℕ → Float → Type 0
IsScaled raw unit x = HasValue x (below0 raw) (nat_abs raw) (2 ^ unit)

-- the float: raw's size / 2 ^ unit with raw's sign, written with an odd numerator as every float of the logic is
unfoldable pub scaled_of : ℤ → ℕ → Float
scaled_of raw unit = odd 53 (below0 raw) (nat_abs raw) 0 unit

-- 2 ^ -unit is one of the floats that have all their digits
abbrev pub IsSmall : ℕ → Type 0
IsSmall unit = unit ≤ 1022

-- ---- "Prove it once over width and unit, for all words to 32 bits and units 2^-5 to 2^-40"
-- a signed word of w bits holds raw: "A signed word of w bits runs from -(2^(w-1)-1) to 2^(w-1)-1"
abbrev pub Holds : ℕ → ℤ → Type 0
Holds w raw = nat_abs raw < 2 ^ (w - 1)

-- "Each float equals the scaled word exactly": it is a float of 64 bits, it is the number, and no other float is
pub record Exact (raw : ℤ) (unit : ℕ) : Type 0 where
  pub float : T (fits binary64 (scaled_of raw unit))
  pub number : IsScaled raw unit (scaled_of raw unit)
  pub only : (x : Float) → T (fits binary64 x) → IsScaled raw unit x → x ≡ scaled_of raw unit

-- proved as `exact`
abbrev pub EveryWord : Type 0
EveryWord = (w unit : ℕ) (raw : ℤ) → w ≤ 32 → 5 ≤ unit → unit ≤ 40 → Holds w raw → Exact raw unit

-- plus zero; proved as `plus_zero`
abbrev pub ZeroIsPlus : Type 0
ZeroIsPlus = (unit : ℕ) → scaled_of (pos 0) unit ≡ fin false 0 (pos 0)
