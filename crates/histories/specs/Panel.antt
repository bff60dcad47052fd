-- The summary (request 5) along a history of two cards, computed from the definitions. Each frame shows one entry, by its strings 5, 6 and 7.
-- Assumes nothing.
use Rattle.std.specs.Prelude.{ℕ, ◌+◌, ◌*◌, ◌^◌, Bool, true, false, List, [], ◌∷◌, ◌≡◌, refl}
use Rattle.strings.specs.Number.{number_of, padding_of, misshapen, word_of, flip, bytes_of_string}
use Rattle.relative.specs.Relative.{read_relative, write_relative}
use Rattle.relative.specs.Polarity.{first_symbol}
use Rattle.strings.specs.Hamming.{position, sum_c, sum_all, syndrome, sums_set, highest, placed, judge, ruling, mended, sums_made, encode}
use Rattle.strings.specs.Calls.{sound_tests}
use Rattle.layout.specs.Layout.{layout}
use Rattle.words.specs.Values.{values_of, first_bad}
use Rattle.book.specs.Entry.{entry_of, greater}
use Rattle.words.specs.Good.{is_good}
use Rattle.book.specs.Shows.{day_of, is_shown, three_of, shown_by}
use Rattle.book.specs.Book.{empty_book, joined, joined_shown}
use Rattle.summary.specs.declared.Summary.{Summary}
use Rattle.summary.specs.Walk.{none_filled, with_line, walk_from, walk_of}
use Rattle.tallies.specs.Tallies.{one_more, causes_after}
use Rattle.immediate.specs.Kept.{has_record}
use Rattle.channel.specs.Row.{is_present, holds_frame, empty_row, new_frame, stored, held_with, counted}
use Rattle.channel.specs.Offers.{taken_row, stores_it}
use Rattle.shows.specs.Shows.{frame_by, brought, changes}
use Rattle.channel.specs.Witness.{whole, in_bytes, sent, five, six1, seven}
use Rattle.station.specs.declared.Station.{Station}
use Rattle.station.specs.Station.{fresh_station, no_row, row_at, held_at, is_served, entry_changes, station_after, station_reset}
use Rattle.station.specs.History.{Call, Offer, Reset, station_of}
use Rattle.histories.specs.Witness.{six2, five_next}

-- ---- strings besides those of the tables: `five` is of day 8766 and `five_next` of 8767, `six1` has nA 1 and `six2` nA 2
-- string 5 of day 8768: N4 7 and NA 2; string 6 with nA 3 and C 0
unfoldable pub five_third : List ℕ
five_third = 0x30 ∷ 0x03 ∷ 0xFF ∷ 0xFF ∷ 0xFF ∷ 0xFF ∷ 0xE8 ∷ 0 ∷ 0 ∷ 0x04 ∷ 0x80 ∷ []

unfoldable pub six3 : List ℕ
six3 = 0x20 ∷ 0x10 ∷ 0 ∷ 0 ∷ 0 ∷ 0 ∷ 0 ∷ 0 ∷ 0 ∷ 0x07 ∷ 0xE0 ∷ []

-- ---- the history, the latest call first
-- strings 5 and 6 on a card's channel; and 7, which shows the entry
abbrev pub almost : ℕ → ℕ → List ℕ → List ℕ → List Call → List Call
almost card c fifth sixth cs = Offer card c 105 sixth ∷ Offer card c 104 fifth ∷ cs

abbrev pub shows : ℕ → ℕ → List ℕ → List ℕ → List Call → List Call
shows card c fifth sixth cs = Offer card c 106 seven ∷ almost card c fifth sixth cs

-- slot 1 of day 8766 by card one, slot 2 of 8767 by card two, slot 3 of 8768 by card one
abbrev pub one_calls : List Call
one_calls = shows 1 3 five six1 []

abbrev pub two_calls : List Call
two_calls = shows 2 31 five_next six2 one_calls

abbrev pub three_calls : List Call
three_calls = shows 1 9 five_third six3 two_calls

-- then slot 1 of day 8768 by card two; and the same entry, by another channel, of card one
abbrev pub replaced_calls : List Call
replaced_calls = shows 2 35 five_third six1 three_calls

unfoldable pub before_again : Station
before_again = station_of (almost 1 12 five_third six1 replaced_calls)

unfoldable pub again : Station
again = station_after before_again 1 12 106 seven

-- a summary of nothing that is there, in the same station
abbrev wrongly : Summary
wrongly = record { count = 7; oldest = 1; newest = 2 }

abbrev made : Station → Summary → Station
made st s = record { rows = st.rows; book = st.book; summary = s }

-- an entry changes with string 7 on a channel
abbrev pub changes_by_seven : Station → ℕ → Bool
changes_by_seven st c = entry_changes st.book (row_at st c) 106 seven

abbrev pub said : ℕ → ℕ → ℕ → Summary
said count oldest newest = record { count = count; oldest = oldest; newest = newest }

pub record Panel : Type 0 where
  pub five_third_sent : five_third ≡ sent 5 (2 * 2 ^ 61 + 7 * 2 ^ 23)
  pub six3_sent : six3 ≡ sent 6 (3 * 2 ^ 64)
  -- "An empty book has count 0 and both days 0."; two strings of three show nothing
  pub none : (station_of []).summary ≡ said 0 0 0
  pub half : (station_of (almost 1 3 five six1 [])).summary ≡ said 0 0 0
  -- "how many slots are filled, the oldest day and the newest"
  pub one_shown : (station_of one_calls).summary ≡ said 1 8766 8766
  pub two_shown : (station_of two_calls).summary ≡ said 2 8766 8767
  pub three_shown : (station_of three_calls).summary ≡ said 3 8766 8768
  -- the one oldest entry is replaced by a newer day, and the oldest day rises: to one that stood neither in the summary nor in the new entry
  pub replaced : (station_of replaced_calls).summary ≡ said 3 8767 8768
  -- the same entry, brought again by another card's channel whose string is newly stored: nothing changes, and book and summary stay
  pub again_stored : stores_it (held_at before_again 12) 106 seven ≡ true
  pub again_equal : changes_by_seven before_again 12 ≡ false
  pub again_book : again.book ≡ before_again.book
  pub again_summary : again.summary ≡ said 3 8767 8768
  -- of any station: there it stays although it is wrong, and is the walk of the book once an entry changes
  pub wrong_stays : (station_after (made before_again wrongly) 1 12 106 seven).summary ≡ wrongly
  pub wrong_corrected : (station_after (made (station_of (almost 2 35 five_third six1 three_calls)) wrongly) 2 35 106 seven).summary ≡ said 3 8767 8768
  -- "A reset empties the row, record and tallies; the book stays", and its summary
  pub reset_keeps : (station_of (Reset 2 35 ∷ replaced_calls)).summary ≡ said 3 8767 8768

pub panel : Panel
unfolding whole in_bytes sent five six1 seven six2 five_next five_third six3 sound_tests number_of padding_of misshapen word_of flip bytes_of_string read_relative write_relative first_symbol position sum_c sum_all syndrome sums_set highest placed judge ruling mended sums_made encode layout values_of first_bad entry_of greater is_good day_of is_shown three_of shown_by empty_book joined joined_shown one_more causes_after is_present holds_frame has_record empty_row new_frame stored held_with counted taken_row frame_by brought changes none_filled with_line walk_from walk_of fresh_station no_row is_served station_after station_reset station_of before_again again
panel =
    record {
      five_third_sent = refl;
      six3_sent = refl;
      none = refl;
      half = refl;
      one_shown = refl;
      two_shown = refl;
      three_shown = refl;
      replaced = refl;
      again_stored = refl;
      again_equal = refl;
      again_book = refl;
      again_summary = refl;
      wrong_stays = refl;
      wrong_corrected = refl;
      reset_keeps = refl;
    }
