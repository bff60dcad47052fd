-- One sky, computed to some of its strings; and that it meets the premise of the theorem. Its day is 8766, l is 1 but in string 3 and 7 in the entries, where
-- it is not looked at; tb is 1, B1 is -1, and entry k has nA k and omega k; every other word is 0.
-- Assumes nothing.
use Rattle.std.specs.Prelude.{ℕ, ◌+◌, ◌*◌, ◌^◌, true, List, map, ◌≡◌, refl, pos, negsuc, length, Ok}
use Rattle.strings.specs.Number.{bytes_of_string}
use Rattle.strings.specs.Hamming.{position, sum_c, sum_all, syndrome, sums_made, encode}
use Rattle.strings.specs.Table413.{◌to◌}
use Rattle.relative.specs.Relative.{write_relative}
use Rattle.records.specs.Records.{list_of}
use Rattle.layout.specs.Layout.{layout}
use Rattle.words.specs.Values.{data_of}
use Rattle.words.specs.Calls.{string_of}
use Rattle.channel.specs.Witness.{whole, one, six1}
use Rattle.superframe.specs.declared.AlmanacWords.{AlmanacWords}
use Rattle.superframe.specs.declared.Sky.{Sky}
use Rattle.superframe.specs.Sky.{record_in, sky_string}
use Rattle.sky.specs.Line.{relative_bytes, sky_lines}
use Rattle.sky.specs.Calls.{MakesSky}
use Rattle.station.specs.Station.{is_served}
use Rattle.station.specs.History.{station_of}
use Rattle.heard.specs.SkyHeard.{line_calls, SkyLeaves}

abbrev pub some_entry : ℕ → AlmanacWords
some_entry k =
    record {
      even = record { c = pos 0; ma = pos 0; na = pos k; taua = pos 0; lambda = pos 0; di = pos 0; epsilon = pos 0 };
      odd = record { omega = pos k; tlambda = pos 0; dt = pos 0; dtrate = pos 0; h = pos 0; l = pos 7 };
    }

unfoldable pub some_sky : Sky
some_sky =
    record {
      words = record {
        one = record { p1 = pos 0; tk = pos 0; xvel = pos 0; xacc = pos 0; x = pos 0 };
        two = record { b = pos 0; p2 = pos 0; tb = pos 1; yvel = pos 0; yacc = pos 0; y = pos 0 };
        three = record { p3 = pos 0; gamma = pos 0; p = pos 0; l = pos 0; zvel = pos 0; zacc = pos 0; z = pos 0 };
        four = record { tau = pos 0; dtau = pos 0; e = pos 0; p4 = pos 0; ft = pos 0; nt = pos 0; n = pos 0; m = pos 0 };
      };
      five = record { na = pos 1461; tauc = pos 0; n4 = pos 6; taugps = pos 0; l = pos 1 };
      fourteen = record { b1 = negsuc 0; b2 = pos 0; kp = pos 0 };
      entries = map some_entry (1 to 24);
    }

pub record Witness : Type 0 where
  -- string 1 of the first frame and of the last; string 3, without l; string 5
  pub first : relative_bytes (sky_string some_sky 1) ≡ one
  pub first_again : sky_string some_sky 61 ≡ whole 1 0
  pub third : sky_string some_sky 3 ≡ whole 3 0
  pub fifth : sky_string some_sky 5 ≡ whole 5 (1461 * 2 ^ 61 + 6 * 2 ^ 23 + 1)
  -- the first pair of frame 1, with l of string 5; the fifth of frame 4; the first and the last of frame 5
  pub sixth : relative_bytes (sky_string some_sky 6) ≡ six1
  pub seventh : sky_string some_sky 7 ≡ whole 7 (1 * 2 ^ 56 + 1)
  pub twenty : sky_string some_sky 59 ≡ whole 14 (20 * 2 ^ 64)
  pub twenty_odd : sky_string some_sky 60 ≡ whole 15 (20 * 2 ^ 56 + 1)
  pub twenty_one : sky_string some_sky 66 ≡ whole 6 (21 * 2 ^ 64)
  pub twenty_four : sky_string some_sky 72 ≡ whole 12 (24 * 2 ^ 64)
  -- B1 in string 14 of frame 5, and string 15 zero but its l
  pub fourteen : sky_string some_sky 74 ≡ whole 14 (1025 * 2 ^ 61)
  pub fifteen : sky_string some_sky 75 ≡ whole 15 1

pub witness : Witness
unfolding some_sky record_in relative_bytes sky_string whole one six1 string_of encode sums_made sum_all syndrome sum_c position data_of layout list_of bytes_of_string write_relative
witness =
    record {
      first = refl;
      first_again = refl;
      third = refl;
      fifth = refl;
      sixth = refl;
      seventh = refl;
      twenty = refl;
      twenty_odd = refl;
      twenty_one = refl;
      twenty_four = refl;
      fourteen = refl;
      fifteen = refl;
    }

-- it is not refused, and a station that hears it holds it: one that makes the calls is there. Proved as `some_heard` in `proofs/SomeSky.antt`
pub record SomeHeard : Type 0 where
  pub made : (out : List ℕ) → length out ≡ 15000 → MakesSky some_sky out (Ok tt) (sky_lines some_sky)
  pub holds : (card c e : ℕ) → is_served card c ≡ true → SkyLeaves some_sky c e (station_of (line_calls (sky_lines some_sky) card c e 75))
