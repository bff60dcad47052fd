-- A history in which each of the ten causes comes once, among strings that are taken and after a reset, and its fourteen counts: from the calls alone, and as
-- the station tells them.
-- Assumes nothing.
use Rattle.std.specs.Prelude.{ℕ, ◌+◌, ◌^◌, List, [], ◌∷◌, map, ◌≡◌, refl}
use Rattle.strings.specs.Number.{number_of, padding_of, misshapen, word_of, flip, bytes_of_string}
use Rattle.strings.specs.Hamming.{position, sum_c, sum_all, syndrome, sums_set, highest, placed, judge, ruling, mended, sums_made, encode}
use Rattle.strings.specs.Calls.{sound_tests}
use Rattle.strings.specs.Known.{zeros}
use Rattle.relative.specs.Relative.{read_relative, write_relative}
use Rattle.relative.specs.Polarity.{first_symbol}
use Rattle.layout.specs.Layout.{layout}
use Rattle.words.specs.Values.{values_of, first_bad}
use Rattle.words.specs.Good.{is_good}
use Rattle.tallies.specs.Tallies.{Outcome, is_offer, is_clean, is_repaired, is_refused, causes, is_refused_by, one_more, causes_after, how_many}
use Rattle.channel.specs.Row.{is_present, holds_frame, empty_row, new_frame, stored, held_with, counted}
use Rattle.channel.specs.Offers.{taken_row}
use Rattle.channel.specs.History.{held_after, said_since, outcomes}
use Rattle.channel.specs.Witness.{whole, in_bytes, sent, sent_wrong, one, five, six1, one_unplaced, one_even, one_outside, ten}
use Rattle.station.specs.declared.Station.{Station}
use Rattle.station.specs.Station.{fresh_station, no_row, row_at, is_served, station_after, station_reset}
use Rattle.station.specs.Queries.{all_counts}
use Rattle.station.specs.History.{Call, Offer, Reset, calls_on, calls_by, station_of}

-- two calls on channel 4 before the reset, and one on channel 5
abbrev pub before : List Call
before = Reset 1 4 ∷ Offer 1 4 100 one_even ∷ Offer 1 5 100 ten ∷ Offer 1 4 100 one ∷ []

-- then, the latest first: taken, 9, 8, 7, already held with a bit repaired, 5, 4, 33, 32, 31, 2, taken, 6
abbrev pub ten_calls : List Call
ten_calls =
    Offer 1 4 104 five
    ∷ Offer 1 4 100 (sent 1 1)
    ∷ Offer 1 4 114 one
    ∷ Offer 1 4 99 one
    ∷ Offer 1 4 100 (sent_wrong 1 0 9)
    ∷ Offer 1 4 100 zeros
    ∷ Offer 1 4 100 (in_bytes (encode (2 ^ 84 + 2 ^ 80)))
    ∷ Offer 1 4 100 one_outside
    ∷ Offer 1 4 100 one_even
    ∷ Offer 1 4 100 one_unplaced
    ∷ Offer 1 4 100 ten
    ∷ Offer 1 4 100 one
    ∷ Offer 1 4 4 six1
    ∷ before

-- how many offers are of each sort, and of each cause
abbrev pub counts : List Outcome → List ℕ
counts os = how_many is_offer os ∷ how_many is_clean os ∷ how_many is_repaired os ∷ how_many is_refused os ∷ map (λ (k : ℕ). how_many (is_refused_by k) os) causes

abbrev pub fourteen_counts : List ℕ
fourteen_counts = 13 ∷ 2 ∷ 1 ∷ 10 ∷ 1 ∷ 1 ∷ 1 ∷ 1 ∷ 1 ∷ 1 ∷ 1 ∷ 1 ∷ 1 ∷ 1 ∷ []

unfoldable pub left : Station
left = station_of ten_calls

pub record TenCauses : Type 0 where
  pub said : said_since (calls_on 4 ten_calls)
      ≡ (0 ∷ 5 ∷ 0 ∷ 0 ∷ 1 ∷ 0 ∷ [])
      ∷ (9 ∷ [])
      ∷ (8 ∷ [])
      ∷ (7 ∷ [])
      ∷ (0 ∷ 1 ∷ 1 ∷ 9 ∷ 0 ∷ 0 ∷ [])
      ∷ (5 ∷ [])
      ∷ (4 ∷ [])
      ∷ (33 ∷ [])
      ∷ (32 ∷ [])
      ∷ (31 ∷ [])
      ∷ (2 ∷ [])
      ∷ (0 ∷ 1 ∷ 0 ∷ 0 ∷ 1 ∷ 0 ∷ [])
      ∷ (6 ∷ [])
      ∷ []
  pub counted_alone : counts (outcomes (calls_on 4 ten_calls)) ≡ fourteen_counts
  pub before_reset : counts (outcomes (calls_on 4 (Offer 1 4 100 one_even ∷ Offer 1 5 100 ten ∷ Offer 1 4 100 one ∷ []))) ≡ 2 ∷ 1 ∷ 0 ∷ 1 ∷ 0 ∷ 0 ∷ 1 ∷ 0 ∷ 0 ∷ 0 ∷ 0 ∷ 0 ∷ 0 ∷ 0 ∷ []
  pub told : all_counts (row_at left 4).tallies ≡ fourteen_counts
  pub other_told : all_counts (row_at left 5).tallies ≡ 1 ∷ 0 ∷ 0 ∷ 1 ∷ 1 ∷ 0 ∷ 0 ∷ 0 ∷ 0 ∷ 0 ∷ 0 ∷ 0 ∷ 0 ∷ 0 ∷ []

pub ten_causes : TenCauses
unfolding sound_tests number_of padding_of misshapen word_of flip bytes_of_string read_relative write_relative first_symbol position sum_c sum_all syndrome sums_set highest placed judge ruling mended sums_made encode layout values_of first_bad is_good one_more causes_after is_present holds_frame empty_row new_frame stored held_with counted taken_row held_after said_since whole in_bytes sent sent_wrong one five six1 one_unplaced one_even one_outside fresh_station no_row is_served station_after station_reset calls_by station_of left
ten_causes = record { said = refl; counted_alone = refl; before_reset = refl; told = refl; other_told = refl }
