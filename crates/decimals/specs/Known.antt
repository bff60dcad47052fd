-- Worked examples, computed: ties among them, where the even digit is taken.
-- Assumes nothing.
use Rattle.std.specs.Prelude.{◌≡◌, refl, pos, negsuc}
use Rattle.decimals.specs.Codes.{codes}
use Rattle.decimals.specs.Decimal.{text_of, scale_of, figures_of, signed_of, decimal_of}

pub record Known : Type 0 where
  -- zero, at any unit
  pub no_minus : decimal_of (pos 0) 11 ≡ codes " 0.000000000000D+00"
  -- the greatest x, 2 ^ -11 km, and the least
  pub x_top : decimal_of (pos 67108863) 11 ≡ codes " 3.276799951172D+04"
  pub x_bottom : decimal_of (negsuc 67108862) 11 ≡ codes "-3.276799951172D+04"
  -- ties: 10000 + 1/512 goes down to the even digit, 10000 + 3/512 up, and -2 ^ -20 down
  pub tie_down : decimal_of (pos 20480004) 11 ≡ codes " 1.000000195312D+04"
  pub tie_up : decimal_of (pos 20480012) 11 ≡ codes " 1.000000585938D+04"
  pub tie_minus : decimal_of (negsuc 0) 20 ≡ codes "-9.536743164062D-07"
  -- gamma, 2 ^ -40: one unit, and the least
  pub gamma_one : decimal_of (pos 1) 40 ≡ codes " 9.094947017729D-13"
  pub gamma_bottom : decimal_of (negsuc 1022) 40 ≡ codes "-9.304130799137D-10"
  -- tau, 2 ^ -30 s: one unit, the greatest, and raw -175584
  pub tau_one : decimal_of (pos 1) 30 ≡ codes " 9.313225746155D-10"
  pub tau_top : decimal_of (pos 2097151) 30 ≡ codes " 1.953124068677D-03"
  pub tau_known : decimal_of (negsuc 175583) 30 ≡ codes "-1.635253429413D-04"
  -- the greatest velocity, 2 ^ -20 km/s; the greatest acceleration, 2 ^ -30 km/s^2
  pub velocity_top : decimal_of (pos 8388607) 20 ≡ codes " 7.999999046326D+00"
  pub acceleration_top : decimal_of (pos 15) 30 ≡ codes " 1.396983861923D-08"
  -- whole numbers: a second of the day, a carrier number, one, ten, and the ends of an i32
  pub whole : decimal_of (pos 86399) 0 ≡ codes " 8.639900000000D+04"
  pub carrier : decimal_of (negsuc 6) 0 ≡ codes "-7.000000000000D+00"
  pub one : decimal_of (pos 1) 0 ≡ codes " 1.000000000000D+00"
  pub ten : decimal_of (pos 10) 0 ≡ codes " 1.000000000000D+01"
  pub greatest : decimal_of (pos 2147483647) 0 ≡ codes " 2.147483647000D+09"
  pub least : decimal_of (negsuc 2147483647) 0 ≡ codes "-2.147483648000D+09"
  -- the finest unit
  pub finest : decimal_of (negsuc 2147483647) 44 ≡ codes "-1.220703125000D-04"

pub known : Known
unfolding text_of scale_of figures_of signed_of
known =
    record {
      no_minus = refl;
      x_top = refl;
      x_bottom = refl;
      tie_down = refl;
      tie_up = refl;
      tie_minus = refl;
      gamma_one = refl;
      gamma_bottom = refl;
      tau_one = refl;
      tau_top = refl;
      tau_known = refl;
      velocity_top = refl;
      acceleration_top = refl;
      whole = refl;
      carrier = refl;
      one = refl;
      ten = refl;
      greatest = refl;
      least = refl;
      finest = refl;
    }
