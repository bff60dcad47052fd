-- Two captures for card one and the records of their files, computed from the definitions: the satellite and the epoch of each record, in their order.
-- Assumes nothing.
use Rattle.std.specs.Prelude.{ℕ, ◌+◌, ◌*◌, ◌^◌, List, [], ◌∷◌, ◌++◌, map, ◌≡◌, refl}
use Rattle.strings.specs.Number.{number_of, padding_of, misshapen, word_of, flip, bytes_of_string, bytes_of}
use Rattle.strings.specs.Hamming.{position, sum_c, sum_all, syndrome, sums_set, highest, placed, judge, ruling, mended, sums_made, encode}
use Rattle.strings.specs.Calls.{sound_tests}
use Rattle.relative.specs.Relative.{read_relative, write_relative}
use Rattle.relative.specs.Polarity.{first_symbol}
use Rattle.layout.specs.Layout.{layout}
use Rattle.words.specs.Values.{values_of, first_bad}
use Rattle.words.specs.Good.{is_good}
use Rattle.words.specs.Immediate.{immediate_of}
use Rattle.book.specs.Entry.{entry_of, greater}
use Rattle.book.specs.Shows.{day_of, is_shown, three_of, shown_by}
use Rattle.book.specs.Book.{empty_book, joined, joined_shown}
use Rattle.summary.specs.Walk.{none_filled, with_line, walk_from, walk_of}
use Rattle.tallies.specs.Tallies.{one_more, causes_after}
use Rattle.immediate.specs.Kept.{has_record}
use Rattle.channel.specs.Row.{is_present, holds_frame, empty_row, new_frame, stored, held_with, counted}
use Rattle.channel.specs.Offers.{taken_row}
use Rattle.channel.specs.Witness.{whole, in_bytes, sent, one, two, three, five, seven}
use Rattle.shows.specs.Shows.{frame_by, brought, changes}
use Rattle.station.specs.Station.{fresh_station, no_row, is_served, station_after}
use Rattle.navigation_queries.specs.Five.{has_five, five_of}
use Rattle.navfile.specs.File.{station_at, Ask, asks_at, asks_up_to, satellite_of, epoch_of, is_answered, is_due, due_of, asks_of, records_of}

-- ---- strings in bytes, as they are sent, besides those of a channel's table, where `two` has tb 1 and `five` N4 6. The table's first fields say which each is
-- string 2 with tb 2; string 4 with NT 1, n 2 and M 01; string 6 with nA 2
unfoldable pub two_later : List ℕ
two_later = 0x1F ∷ 0xFC ∷ 0 ∷ 0 ∷ 0 ∷ 0 ∷ 0 ∷ 0 ∷ 0 ∷ 0 ∷ 0xD0 ∷ []

unfoldable pub fourth : List ℕ
fourth = 0x3F ∷ 0xFF ∷ 0xFF ∷ 0xFF ∷ 0xFF ∷ 0xFF ∷ 0xFF ∷ 0xFF ∷ 0xF8 ∷ 0x73 ∷ 0x60 ∷ []

unfoldable pub sixth : List ℕ
sixth = 0x20 ∷ 0x1F ∷ 0xFF ∷ 0xFF ∷ 0xFF ∷ 0xFF ∷ 0xFF ∷ 0xFF ∷ 0xFF ∷ 0xFC ∷ 0x60 ∷ []

-- ---- captures
-- a record: the channel, the epoch and the string
abbrev pub heard : ℕ → ℕ → List ℕ → List ℕ
heard c epoch s = c ∷ (bytes_of 4 epoch ++ s)

-- strings 1 to 5 of a frame on channel 0, whose second is `second`
abbrev pub frame_from : ℕ → List ℕ → List ℕ
frame_from start second =
    heard 0 start one ++ (heard 0 (start + 1) second ++ (heard 0 (start + 2) three ++ (heard 0 (start + 3) fourth ++ heard 0 (start + 4) five)))

-- one satellite, two frames: its entry comes with the second, in strings 5, 6 and 7
abbrev pub entry_late : List ℕ
entry_late = frame_from 100 two ++ (frame_from 130 two_later ++ (heard 0 135 sixth ++ heard 0 136 seven))

-- channel 0 hears strings 1 to 5 and then nothing, channel 1 shows its satellite's entry, and channel 0's next frame has another tb
abbrev pub shown_between : List ℕ
shown_between = frame_from 100 two ++ (heard 1 104 five ++ (heard 1 105 sixth ++ (heard 1 106 seven ++ frame_from 130 two_later)))

-- ---- the records of a file
abbrev pub told_of : List Ask → List (List ℕ)
told_of asks = map (λ (a : Ask). satellite_of a ∷ epoch_of a ∷ []) asks

-- satellite 2 on day 7306 at tb 1, and at tb 2
abbrev pub at_one : List ℕ
at_one = 2 ∷ (7306 * 96 + 1) ∷ []

abbrev pub at_two : List ℕ
at_two = 2 ∷ (7306 * 96 + 2) ∷ []

pub record Witness : Type 0 where
  pub two_later_sent : two_later ≡ sent 2 (2 * 2 ^ 61)
  pub fourth_sent : fourth ≡ sent 4 (1 * 2 ^ 7 + 2 * 2 ^ 2 + 1)
  pub sixth_sent : sixth ≡ sent 6 (2 * 2 ^ 64)
  -- the first frame never had its entry while it was held, and the second is asked for at the end
  pub entry_late_lem : told_of (records_of 1 entry_late) ≡ at_two ∷ []
  -- both: the first is asked for before the second frame's first string
  pub shown_between_lem : told_of (records_of 1 shown_between) ≡ at_one ∷ at_two ∷ []
  -- card two, whose channels heard nothing, has no record of them
  pub card_two : told_of (records_of 2 shown_between) ≡ []

pub witness : Witness
unfolding whole in_bytes sent one two three five seven two_later fourth sixth sound_tests number_of padding_of misshapen word_of flip bytes_of_string read_relative write_relative first_symbol position sum_c sum_all syndrome sums_set highest placed judge ruling mended sums_made encode layout values_of first_bad is_good immediate_of entry_of greater day_of is_shown three_of shown_by empty_book joined joined_shown one_more causes_after has_record is_present holds_frame empty_row new_frame stored held_with counted taken_row frame_by brought changes none_filled with_line walk_from walk_of fresh_station no_row is_served station_after has_five five_of station_at asks_at asks_up_to is_answered is_due due_of asks_of records_of
witness = record { two_later_sent = refl; fourth_sent = refl; sixth_sent = refl; entry_late_lem = refl; shown_between_lem = refl; card_two = refl }
