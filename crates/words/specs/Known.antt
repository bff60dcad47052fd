-- The known words of the paper ("Known strings and edges"), computed from the definitions.
-- Assumes nothing.
use Rattle.std.specs.Prelude.{◌≡◌, refl, false, pos, negsuc}
use Rattle.strings.specs.Number.{number_of, padding_of, misshapen, word_of}
use Rattle.strings.specs.Hamming.{position, sum_c, sum_all, syndrome, sums_set, highest, placed, judge, ruling, mended}
use Rattle.strings.specs.Numbers.{first_of}
use Rattle.strings.specs.Known.{zeros}
use Rattle.records.specs.declared.kinds.Kind.{Kind}
use Rattle.records.specs.declared.kinds.Kind.TheVariants.{One, Odd}
use Rattle.layout.specs.Layout.{layout}
use Rattle.strings.specs.Calls.{sound_tests}
use Rattle.words.specs.Calls.{read_tests}
use Rattle.words.specs.Values.{value_in, in_range}
use Rattle.words.specs.Tidied.{word_at}

pub record Known : Type 0 where
  -- eleven zero bytes: clean, then NUMBER, whatever kind is asked
  pub zeros_number : (k : Kind) → first_of (read_tests zeros k) ≡ 5
  -- five signed bits 10000, 10001, 11111, 01111: 0, -1, -15, 15; in the x acceleration, the fourth word of string 1
  pub minus_zero : value_in (word_at One 3) 0b10000 ≡ pos 0
  pub minus_one : value_in (word_at One 3) 0b10001 ≡ negsuc 0
  pub least : value_in (word_at One 3) 0b11111 ≡ negsuc 14
  pub greatest : value_in (word_at One 3) 0b01111 ≡ pos 15
  -- H 31, 25: -1, -7; 14 and 24: RANGE; in the fifth word of an odd string
  pub h_31 : value_in (word_at Odd 4) 31 ≡ negsuc 0
  pub h_25 : value_in (word_at Odd 4) 25 ≡ negsuc 6
  pub h_14 : in_range (word_at Odd 4) (value_in (word_at Odd 4) 14) ≡ false
  pub h_24 : in_range (word_at Odd 4) (value_in (word_at Odd 4) 24) ≡ false

pub known : Known
unfolding sound_tests layout number_of padding_of misshapen word_of position sum_c sum_all syndrome sums_set highest placed judge ruling mended
known =
    record {
      zeros_number = λ k. refl;
      minus_zero = refl;
      minus_one = refl;
      least = refl;
      greatest = refl;
      h_31 = refl;
      h_25 = refl;
      h_14 = refl;
      h_24 = refl;
    }
