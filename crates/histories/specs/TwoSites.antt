-- Two sites and their books joined (request 13), computed: slot 1 at both with equal days and different bits, slot 2 with a later day at the second, slot 5 at
-- the first alone; joined both ways. And one station of two cards that heard both.
-- Assumes nothing.
use Rattle.std.specs.Prelude.{ℕ, List, [], ◌∷◌, map, ◌≡◌, refl}
use Rattle.std.proofs.Common.{arith}
use Rattle.strings.specs.Number.{number_of, padding_of, misshapen, word_of, flip, bytes_of_string}
use Rattle.relative.specs.Relative.{read_relative, write_relative}
use Rattle.relative.specs.Polarity.{first_symbol}
use Rattle.strings.specs.Hamming.{position, sum_c, sum_all, syndrome, sums_set, highest, placed, judge, ruling, mended}
use Rattle.strings.specs.Calls.{sound_tests}
use Rattle.layout.specs.Layout.{layout}
use Rattle.words.specs.Values.{values_of, first_bad}
use Rattle.book.specs.declared.Book.{Book}
use Rattle.book.specs.Entry.{Three, meaning, entry_of, blank, greater}
use Rattle.words.specs.Good.{is_good}
use Rattle.book.specs.Shows.{day_of, is_shown, three_of, shown_by}
use Rattle.book.specs.Book.{in_slot, empty_book, joined, joined_shown}
use Rattle.summary.specs.Walk.{none_filled, with_line, walk_from, walk_of}
use Rattle.tallies.specs.Tallies.{one_more, causes_after}
use Rattle.immediate.specs.Kept.{has_record}
use Rattle.channel.specs.Row.{is_present, holds_frame, empty_row, new_frame, stored, held_with, counted}
use Rattle.channel.specs.Offers.{taken_row}
use Rattle.shows.specs.Shows.{frame_by, brought, changes}
use Rattle.channel.specs.Witness.{five, six1, seven, fourteen, fifteen}
use Rattle.station.specs.Station.{fresh_station, no_row, is_served, station_after, station_reset}
use Rattle.station.specs.History.{Call, Offer, station_of}
use Rattle.station.proofs.EveryHistory.{every_history}
use Rattle.sites.specs.Joining.{join_books}
use Rattle.sites.specs.TwoSites.{OfCardOne, by_card_two, Mixed, none, first, second, OneStation}
use Rattle.sites.proofs.TwoSites.{one_station}
use Rattle.histories.specs.Witness.{six2, six_above, five_next}

-- the first site: slots 1 and 5 by channel 3, slot 2 by channel 4. The latest call first
abbrev pub first_calls : List Call
first_calls =
    Offer 1 3 114 fifteen ∷ Offer 1 3 113 fourteen
    ∷ Offer 1 4 106 seven ∷ Offer 1 3 106 seven ∷ Offer 1 4 105 six2 ∷ Offer 1 3 105 six1 ∷ Offer 1 4 104 five ∷ Offer 1 3 104 five ∷ []

-- the second, on channels of the same numbers: slot 1 with greater bits, slot 2 a day later
abbrev pub second_calls : List Call
second_calls = Offer 1 4 106 seven ∷ Offer 1 3 106 seven ∷ Offer 1 4 105 six2 ∷ Offer 1 3 105 six_above ∷ Offer 1 4 104 five_next ∷ Offer 1 3 104 five ∷ []

unfoldable pub first_book : Book
first_book = (station_of first_calls).book

unfoldable pub second_book : Book
second_book = (station_of second_calls).book

abbrev pub slot_of : Book → ℕ → Three
slot_of b k = meaning (in_slot b k)

-- one station: the calls of both, mixed, the second's by card two
abbrev pub one_calls : List Call
one_calls =
    Offer 2 28 106 seven ∷ Offer 1 3 114 fifteen ∷ Offer 1 3 113 fourteen ∷ Offer 2 27 106 seven
    ∷ Offer 1 4 106 seven ∷ Offer 1 3 106 seven ∷ Offer 2 28 105 six2 ∷ Offer 1 4 105 six2 ∷ Offer 2 27 105 six_above ∷ Offer 1 3 105 six1
    ∷ Offer 2 28 104 five_next ∷ Offer 1 4 104 five ∷ Offer 1 3 104 five ∷ Offer 2 27 104 five ∷ []

pub record TwoSites : Type 0 where
  -- what each has
  pub first_1 : slot_of first_book 1 ≡ record { day = 8766; even = 18446744073709551616; odd = 2 }
  pub second_1 : slot_of second_book 1 ≡ record { day = 8766; even = 18446744073709551625; odd = 2 }
  pub first_2 : slot_of first_book 2 ≡ record { day = 8766; even = 36893488147419103232; odd = 2 }
  pub second_5 : in_slot second_book 5 ≡ blank
  -- joined: equal days, the greater bits; the later day; the one that there is
  pub tie : slot_of (join_books first_book second_book) 1 ≡ record { day = 8766; even = 18446744073709551625; odd = 2 }
  pub later : slot_of (join_books first_book second_book) 2 ≡ record { day = 8767; even = 36893488147419103232; odd = 2 }
  pub alone : slot_of (join_books first_book second_book) 5 ≡ record { day = 8766; even = 92233720368547758338; odd = 55340232221128654854 }
  pub none_there : in_slot (join_books first_book second_book) 24 ≡ blank
  pub walked : walk_of (join_books first_book second_book).entries ≡ record { count = 3; oldest = 8766; newest = 8767 }
  -- the other way round
  pub turned : join_books second_book first_book ≡ join_books first_book second_book
  -- the one station holds this book
  pub one : OneStation (station_of first_calls) (station_of second_calls) (station_of one_calls)

mixed : Mixed first_calls (map by_card_two second_calls) one_calls
mixed =
    second _ _ _ _ (first _ _ _ _ (first _ _ _ _ (second _ _ _ _ (first _ _ _ _ (first _ _ _ _ (second _ _ _ _
    (first _ _ _ _ (second _ _ _ _ (first _ _ _ _ (second _ _ _ _ (first _ _ _ _ (first _ _ _ _ (second _ _ _ _ none)))))))))))))

by_both : OneStation (station_of first_calls) (station_of second_calls) (station_of one_calls)
by_both =
    one_station first_calls second_calls one_calls (station_of first_calls) (station_of second_calls) (station_of one_calls) low low' mixed (every_history first_calls) (every_history second_calls)
    (every_history one_calls)
  where
    low : OfCardOne first_calls
    low =
        ((refl, omega arith), ((refl, omega arith), ((refl, omega arith), ((refl, omega arith), ((refl, omega arith), ((refl, omega arith), ((refl, omega arith), ((refl, omega arith), tt))))))))

    low' : OfCardOne second_calls
    low' = ((refl, omega arith), ((refl, omega arith), ((refl, omega arith), ((refl, omega arith), ((refl, omega arith), ((refl, omega arith), tt))))))

pub two_sites : TwoSites
unfolding five six1 seven fourteen fifteen six2 six_above five_next sound_tests number_of padding_of misshapen word_of flip bytes_of_string read_relative write_relative first_symbol position sum_c sum_all syndrome sums_set highest placed judge ruling mended layout values_of first_bad entry_of greater is_good day_of is_shown three_of shown_by empty_book joined joined_shown one_more causes_after is_present holds_frame has_record empty_row new_frame stored held_with counted taken_row frame_by brought changes none_filled with_line walk_from walk_of fresh_station no_row is_served station_after station_reset station_of join_books first_book second_book
two_sites =
    record {
      first_1 = refl;
      second_1 = refl;
      first_2 = refl;
      second_5 = refl;
      tie = refl;
      later = refl;
      alone = refl;
      none_there = refl;
      walked = refl;
      turned = refl;
      one = by_both;
    }
