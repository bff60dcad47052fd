-- The lines of strings that are refused by each number from 31 to 33 and from 4 to 9 (the paper, the end of "Known strings and edges": "repaired bit (0 if
-- none or number 1..4), m (0 for 1..5)"; and of the polarity "0 for refused records"), computed from the definitions: one bit of each string is wrong, of the
-- damaged ones bit 8, two and three.
-- Assumes nothing.
use Rattle.std.specs.Prelude.{ℕ, ◌+◌, ◌^◌, List, ◌∷◌, ◌++◌, ◌≡◌, refl}
use Rattle.strings.specs.Number.{number_of, padding_of, misshapen, word_of, flip, bytes_of, bytes_of_string}
use Rattle.strings.specs.Hamming.{position, sum_c, sum_all, syndrome, sums_set, highest, placed, judge, ruling, mended, sums_made, encode}
use Rattle.strings.specs.Calls.{sound_tests}
use Rattle.relative.specs.Relative.{read_relative, write_relative, inverse}
use Rattle.relative.specs.Polarity.{first_symbol}
use Rattle.relative.specs.Known.{B}
use Rattle.channel.specs.Row.{is_present, holds_frame, empty_row, new_frame, stored, held_with, counted}
use Rattle.channel.specs.Offers.{taken_row}
use Rattle.seen.specs.Known.{sent, zero_repaired, one_repaired, one_unplaced, one_even, one_outside, one_idle, inverted}
use Rattle.station.specs.declared.Station.{Station}
use Rattle.station.specs.Station.{fresh_station, is_served, station_after}
use Rattle.lines.specs.declared.Line.{Line}
use Rattle.lines.specs.Line.{speaks_for, line_for}

-- a record on channel 0, and a line of it
abbrev pub record_of : ℕ → List ℕ → List ℕ
record_of epoch s = 0 ∷ (bytes_of 4 epoch ++ s)

abbrev pub line : ℕ → ℕ → ℕ → ℕ → ℕ → Line
line epoch number repaired m polarity = record { channel = 0; epoch = epoch; number = number; repaired = repaired; m = m; polarity = polarity }

-- string 2 with bit 9 wrong; and string 1 with a bit of its data set and bit 9 wrong
abbrev pub two_repaired : List ℕ
two_repaired = sent (flip (encode (2 ^ 81)) 9)

abbrev pub other_repaired : List ℕ
other_repaired = sent (flip (encode (2 ^ 80 + 2 ^ 40)) 9)

-- a station that has heard string 1 at epoch 100, on channel 0
unfoldable pub heard : Station
heard = station_after fresh_station speaks_for 0 100 B

pub record Refused : Type 0 where
  -- DAMAGED, by each of its causes, and IDLE tell neither, though bit 85 of the idle one was repaired
  pub unplaced : line_for fresh_station (record_of 100 one_unplaced) ≡ line 100 31 0 0 0
  pub even : line_for fresh_station (record_of 100 one_even) ≡ line 100 32 0 0 0
  pub outside : line_for fresh_station (record_of 100 one_outside) ≡ line 100 33 0 0 0
  pub idle : line_for fresh_station (record_of 100 one_idle) ≡ line 100 4 0 0 0
  -- NUMBER tells the repaired bit, and m 0
  pub number : line_for fresh_station (record_of 100 zero_repaired) ≡ line 100 5 9 0 0
  -- EARLY, STALE, OFF BEAT and CONFLICT tell both
  pub early : line_for fresh_station (record_of 0 two_repaired) ≡ line 0 6 9 2 0
  pub stale : line_for heard (record_of 99 one_repaired) ≡ line 99 7 9 1 0
  pub off_beat : line_for heard (record_of 114 one_repaired) ≡ line 114 8 9 1 0
  pub conflict : line_for heard (record_of 100 other_repaired) ≡ line 100 9 9 1 0
  -- inverted, a refused one tells 0 as well: DAMAGED, which no check passed, and STALE, whose string is read again; taken, it tells 1
  pub even_inverted : line_for fresh_station (record_of 100 (inverted one_even)) ≡ line 100 32 0 0 0
  pub stale_inverted : line_for heard (record_of 99 (inverted one_repaired)) ≡ line 99 7 9 1 0
  pub taken_inverted : line_for heard (record_of 100 (inverted one_repaired)) ≡ line 100 0 9 1 1

pub refused : Refused
unfolding heard sound_tests number_of padding_of misshapen word_of flip bytes_of_string read_relative write_relative inverse first_symbol position sum_c sum_all syndrome sums_set highest placed judge ruling mended sums_made encode is_present holds_frame empty_row new_frame stored held_with counted taken_row fresh_station is_served station_after line_for
refused =
    record {
      unplaced = refl;
      even = refl;
      outside = refl;
      idle = refl;
      number = refl;
      early = refl;
      stale = refl;
      off_beat = refl;
      conflict = refl;
      even_inverted = refl;
      stale_inverted = refl;
      taken_inverted = refl;
    }
