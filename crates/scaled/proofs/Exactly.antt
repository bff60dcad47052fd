-- Every word to 32 bits at every unit from 2 ^ -5 to 2 ^ -40 (specs/Scaled.antt): one proof over width and unit (exact), and 0 gives plus zero (plus-zero).
-- Assumes nothing.
use mathlib.Core.Path.{refl}
use Prim.Native.Nat.{ℕ, ◌-◌, ◌^◌, ◌≤◌, ◌<◌}
use native.Mathlib.Nat.{lt_of_lt_of_le}
use native.Mathlib.Omega.{arith}
use lib.IntN.{nat_abs}
use lib.Pow.{pow_mono, pow_pos}
use lib.Ieee.{binary64}
use Rattle.scaled.specs.Scaled.{below0, scaled_of, EveryWord, ZeroIsPlus}
use Rattle.scaled.proofs.Once.{one_float}
use Rattle.scaled.proofs.Product.{is_number_lem, is_float}

-- a word to 32 bits has fewer than 53 digits
few : (w a : ℕ) → w ≤ 32 → a < 2 ^ (w - 1) → a < 2 ^ 53
few w a h l = lt_of_lt_of_le l (pow_mono {i = w - 1} {j = 53} (omega arith))

pub exact : EveryWord
unfolding scaled_of
exact w unit raw h l u d =
    let f = is_float raw unit (few w (nat_abs raw) h d) (omega arith) in
    let n = is_number_lem raw unit in
    record {
      float = f;
      number = n;
      only = λ x g v. one_float binary64 x (scaled_of raw unit) (below0 raw) (nat_abs raw) (2 ^ unit) (pow_pos unit) g f v n;
    }

pub plus_zero : ZeroIsPlus
unfolding scaled_of lib.Ieee.odd
plus_zero unit = refl
