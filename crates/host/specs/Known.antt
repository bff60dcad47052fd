-- Known floats of words in the bits of a string: "x raw 67,108,863 is 32767.99951171875 km", its negative, and a minus zero. x is word 3, bits 35 to 9 of string 1. Computed.
-- Assumes nothing.
use Rattle.std.specs.Prelude.{ℕ, ◌-◌, ◌*◌, ◌^◌, false, ◌≡◌, refl}
use lib.Ieee.{binary64, to_bits}
use Rattle.std.specs.Float.Ieee.Exact.{HasValue}
use Rattle.strings.specs.Number.{word_of}
use Rattle.layout.specs.Layout.{layout}
use Rattle.scaled.specs.Scaled.{scaled_of}
use Rattle.scaled.specs.Units.{units}
use Rattle.host.specs.Host.{float_in}

-- a string that has only these 27 bits in x
abbrev x_only : ℕ → ℕ
x_only bits = bits * 2 ^ 8

pub record Known : Type 0 where
  pub top : HasValue (float_in (x_only (2 ^ 26 - 1)) 3) false 3276799951171875 (10 ^ 11)
  pub top_bits : to_bits binary64 (float_in (x_only (2 ^ 26 - 1)) 3) ≡ 0x40DF_FFFF_F800_0000
  pub bottom_bits : to_bits binary64 (float_in (x_only (2 ^ 27 - 1)) 3) ≡ 0xC0DF_FFFF_F800_0000
  pub minus_zero_bits : to_bits binary64 (float_in (x_only (2 ^ 26)) 3) ≡ 0

pub known : Known
unfolding units layout word_of scaled_of lib.Ieee.odd lib.Count.count_trailing_zeros to_bits lib.Ieee.size lib.Ieee.span lib.Ieee.climb
known = record { top = (refl, refl); top_bits = refl; bottom_bits = refl; minus_zero_bits = refl }
