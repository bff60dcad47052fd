-- The units as Tables 4.5 and 4.9 of the ICD print them ("Scale factor"): raw 1 of each of the 22 words; and the request's own example. Computed.
-- Assumes nothing.
use Rattle.std.specs.Prelude.{ℕ, ◌^◌, false, ◌≡◌, refl, pos, negsuc}
use lib.Ieee.{binary64, to_bits}
use Rattle.std.specs.Float.Ieee.Exact.{HasValue}
use Rattle.scaled.specs.Scaled.{scaled_of}
use Rattle.scaled.specs.Units.{units, unit_at}

-- raw 1 of the word of a number is the number 2 ^ -p
abbrev IsUnit : ℕ → ℕ → Type 0
IsUnit number p = HasValue (scaled_of (pos 1) (unit_at number)) false 1 (2 ^ p)

pub record Known : Type 0 where
  -- Table 4.5, in its order
  pub gamma : IsUnit 7 40
  pub tau : IsUnit 11 30
  pub x_y_z : IsUnit 3 11 × (IsUnit 6 11 × IsUnit 10 11)
  pub velocities : IsUnit 1 20 × (IsUnit 4 20 × IsUnit 8 20)
  pub accelerations : IsUnit 2 30 × (IsUnit 5 30 × IsUnit 9 30)
  pub delta_tau : IsUnit 12 30
  -- Table 4.9, in its order; tau c has 32 bits by Note 4
  pub tau_c : IsUnit 13 31
  pub tau_GPS : IsUnit 14 30
  pub lambda : IsUnit 16 20
  pub delta_i : IsUnit 17 20
  pub delta_T : IsUnit 19 9
  pub delta_T_rate : IsUnit 20 14
  pub omega_A : IsUnit 18 15
  pub B1 : IsUnit 21 10
  pub B2 : IsUnit 22 16
  pub tau_A : IsUnit 15 18
  -- "x raw 67,108,863 is 32767.99951171875 km", and the bits of that number in C's double; and its negative
  pub x_top : HasValue (scaled_of (pos 67108863) (unit_at 3)) false 3276799951171875 (10 ^ 11)
  pub x_top_bits : to_bits binary64 (scaled_of (pos 67108863) (unit_at 3)) ≡ 0x40DF_FFFF_F800_0000
  pub x_bottom_bits : to_bits binary64 (scaled_of (negsuc 67108862) (unit_at 3)) ≡ 0xC0DF_FFFF_F800_0000
  -- plus zero is all bits 0
  pub zero_bits : to_bits binary64 (scaled_of (pos 0) (unit_at 3)) ≡ 0

pub known : Known
unfolding units scaled_of lib.Ieee.odd lib.Count.count_trailing_zeros to_bits lib.Ieee.size lib.Ieee.span lib.Ieee.climb
known =
    record {
      gamma = (refl, refl);
      tau = (refl, refl);
      x_y_z = ((refl, refl), ((refl, refl), (refl, refl)));
      velocities = ((refl, refl), ((refl, refl), (refl, refl)));
      accelerations = ((refl, refl), ((refl, refl), (refl, refl)));
      delta_tau = (refl, refl);
      tau_c = (refl, refl);
      tau_GPS = (refl, refl);
      lambda = (refl, refl);
      delta_i = (refl, refl);
      delta_T = (refl, refl);
      delta_T_rate = (refl, refl);
      omega_A = (refl, refl);
      B1 = (refl, refl);
      B2 = (refl, refl);
      tau_A = (refl, refl);
      x_top = (refl, refl);
      x_top_bits = refl;
      x_bottom_bits = refl;
      zero_bits = refl;
    }
