-- The known strings of the paper ("Known strings and edges"): every row marked there with a star, in the paper's order, as one table. The rows of
-- strings, words and days are those of the lower layers' tables.
-- Assumes nothing.
use Rattle.std.specs.Prelude.{ℕ, ◌+◌, ◌^◌, Bool, true, false, not, ◌&&◌, [], ◌∷◌, ◌≡◌, refl, eqb, ltb, pos, negsuc, Ok, Err}
use Rattle.std.proofs.Common.{true≢false, sym}
use Rattle.strings.specs.declared.Verdict.TheVariants.{Clean, Repaired}
use Rattle.strings.specs.declared.hamming.Damage.TheVariants.{Unplaced, Even, Outside}
use Rattle.strings.specs.Number.{number_of, padding_of, misshapen, word_of, flip, bytes_of_string}
use Rattle.relative.specs.declared.Polarity.TheVariants.{Upright, Inverted}
use Rattle.relative.specs.Relative.{read_relative, write_relative, inverse}
use Rattle.relative.specs.Polarity.{polarity_of}
use Rattle.strings.specs.Hamming.{position, sum_c, sum_all, syndrome, sums_set, highest, placed, judge, ruling, mended, encode}
use Rattle.strings.specs.Numbers.{test, first_of, answer_of}
use Rattle.strings.specs.Calls.{sound_tests}
use Rattle.strings.specs.Known.{A, zeros, a, said, known as strings-known}
use Rattle.relative.specs.Known.{B, inverse_b, known as relative-known}
use Rattle.records.specs.declared.kinds.Kind.{Kind}
use Rattle.records.specs.declared.kinds.Kind.TheVariants.{One, Odd}
use Rattle.words.specs.Calls.{read_tests}
use Rattle.words.specs.Values.{value_in, in_range}
use Rattle.words.specs.Tidied.{word_at}
use Rattle.words.specs.Known.{known as words-known}
use Rattle.book.specs.Shows.{day_of}
use Rattle.book.specs.Known.{known as days-known}
use Rattle.channel.specs.Offers.{offer_tests}
use Rattle.station.specs.Station.{last_channel, owner_of, fresh_station, held_at, is_card, is_served, station_tests, told_in}

pub record KnownStrings : Type 0 where
  -- "A: m = 1, data zero, encoded: bits 81, 8, 7, 5 set; 08 00 00 00 00 00 00 00 00 06 80. Clean."
  pub a_bits : a ≡ 2 ^ 80 + 2 ^ 7 + 2 ^ 6 + 2 ^ 4
  pub a_encoded : bytes_of_string (encode (2 ^ 80)) ≡ A
  pub a_clean : ruling a ≡ Ok Clean
  -- "B: A in relative form 0F FF FF FF FF FF FF FF FF FB 00; inverted F0 00 00 00 00 00 00 00 00 04 F8; both read as A."
  pub b_sent : bytes_of_string (write_relative a) ≡ B
  pub b_inverted : bytes_of_string (inverse (number_of B)) ≡ inverse_b
  pub b_read : bytes_of_string (read_relative (number_of B)) ≡ A
  pub b_inverse_read : bytes_of_string (read_relative (number_of inverse_b)) ≡ A
  -- and, by their first symbols, the one upright and the other inverted
  pub b_upright : polarity_of (number_of B) ≡ Upright
  pub b_inverse_inverted : polarity_of (number_of inverse_b) ≡ Inverted
  -- "A with bit 9 flipped: S = 3, repaired 9."
  pub flip_9_S : syndrome (flip a 9) ≡ 3
  pub flip_9 : ruling (flip a 9) ≡ Ok (Repaired 9)
  -- "Bit 85: S = 84, repaired 85."
  pub flip_85_S : syndrome (flip a 85) ≡ 84
  pub flip_85 : ruling (flip a 85) ≡ Ok (Repaired 85)
  -- "Bit 5: repaired 5."
  pub flip_5 : ruling (flip a 5) ≡ Ok (Repaired 5)
  -- "Bit 8: DAMAGED.", which is 31
  pub flip_8 : ruling (flip a 8) ≡ Err Unplaced
  pub flip_8_said : said (flip a 8) ≡ 31 ∷ []
  -- "Bits 9, 10: DAMAGED.": 32
  pub flip_9_10 : ruling (flip (flip a 9) 10) ≡ Err Even
  pub flip_9_10_said : said (flip (flip a 9) 10) ≡ 32 ∷ []
  -- "Bits 85, 9, 8: S = 87, DAMAGED.": 33
  pub flip_85_9_8_S : syndrome (flip (flip (flip a 85) 9) 8) ≡ 87
  pub flip_85_9_8 : ruling (flip (flip (flip a 85) 9) 8) ≡ Err Outside
  pub flip_85_9_8_said : said (flip (flip (flip a 85) 9) 8) ≡ 33 ∷ []
  -- "Eleven zero bytes: clean, then NUMBER": by the check, then by the reader whatever kind is asked, and on any channel of a fresh station at any epoch
  pub zeros_clean : ruling (number_of zeros) ≡ Ok Clean
  pub zeros_number : (k : Kind) → first_of (read_tests zeros k) ≡ 5
  pub zeros_offered : (card c epoch : ℕ) → is_served card c ≡ true → answer_of (station_tests fresh_station card c epoch zeros) (told_in fresh_station c epoch zeros) ≡ 5 ∷ []
  -- "Five signed bits 10000, 10001, 11111, 01111: 0, -1, -15, 15.": in the x acceleration, the fourth word of string 1
  pub minus_zero : value_in (word_at One 3) 0b10000 ≡ pos 0
  pub minus_one : value_in (word_at One 3) 0b10001 ≡ negsuc 0
  pub least : value_in (word_at One 3) 0b11111 ≡ negsuc 14
  pub greatest : value_in (word_at One 3) 0b01111 ≡ pos 15
  -- "H 31, 25: -1, -7; 14 and 24: RANGE.": in the fifth word of an odd string
  pub h_31 : value_in (word_at Odd 4) 31 ≡ negsuc 0
  pub h_25 : value_in (word_at Odd 4) 25 ≡ negsuc 6
  pub h_14 : in_range (word_at Odd 4) (value_in (word_at Odd 4) 14) ≡ false
  pub h_24 : in_range (word_at Odd 4) (value_in (word_at Odd 4) 24) ≡ false
  -- "N4 6, NA 1461 is day 8766; N4 7, NA 1 is 8767."
  pub last_day : day_of 6 1461 ≡ 8766
  pub next_day_lem : day_of 7 1 ≡ 8767

-- the row that no lower table has
zeros_offered_so : (card c epoch : ℕ) → is_served card c ≡ true → answer_of (station_tests fresh_station card c epoch zeros) (told_in fresh_station c epoch zeros) ≡ 5 ∷ []
unfolding is_served sound_tests number_of padding_of misshapen word_of read_relative position sum_c sum_all syndrome sums_set highest placed judge ruling mended
zeros_offered_so card c epoch served = by (not (is_card card)) (ltb last_channel c) (not (eqb (owner_of c) card)) served
  where
    by : (t u v : Bool) → (not t && (not u && (not v && true))) ≡ true
        → answer_of (test 16 t ∷ test 1 u ∷ test 15 v ∷ offer_tests (held_at fresh_station c) epoch zeros) (told_in fresh_station c epoch zeros) ≡ 5 ∷ []
    by true u v e = absurd (true≢false (sym e))
    by false true v e = absurd (true≢false (sym e))
    by false false true e = absurd (true≢false (sym e))
    by false false false e = refl

pub known_strings : KnownStrings
known_strings =
    record {
      a_bits = strings-known.a_bits;
      a_encoded = strings-known.a_encoded;
      a_clean = strings-known.a_clean;
      b_sent = relative-known.b_sent;
      b_inverted = relative-known.b_inverted;
      b_read = relative-known.b_read;
      b_inverse_read = relative-known.b_inverse_read;
      b_upright = relative-known.b_upright;
      b_inverse_inverted = relative-known.b_inverse_inverted;
      flip_9_S = strings-known.flip_9_S;
      flip_9 = strings-known.flip_9;
      flip_85_S = strings-known.flip_85_S;
      flip_85 = strings-known.flip_85;
      flip_5 = strings-known.flip_5;
      flip_8 = strings-known.flip_8;
      flip_8_said = strings-known.flip_8_said;
      flip_9_10 = strings-known.flip_9_10;
      flip_9_10_said = strings-known.flip_9_10_said;
      flip_85_9_8_S = strings-known.flip_85_9_8_S;
      flip_85_9_8 = strings-known.flip_85_9_8;
      flip_85_9_8_said = strings-known.flip_85_9_8_said;
      zeros_clean = strings-known.zeros_clean;
      zeros_number = words-known.zeros_number;
      zeros_offered = zeros_offered_so;
      minus_zero = words-known.minus_zero;
      minus_one = words-known.minus_one;
      least = words-known.least;
      greatest = words-known.greatest;
      h_31 = words-known.h_31;
      h_25 = words-known.h_25;
      h_14 = words-known.h_14;
      h_24 = words-known.h_24;
      last_day = days-known.last_day;
      next_day_lem = days-known.next_day_lem;
    }
