-- Two cards on one book (request 10), computed from the definitions: what each card is answered on each channel, and a history in which card one shows an
-- entry and card two's answers change where they may, "only book entries, the summary, and health, which reads the book", and nowhere else.
-- Assumes nothing.
use Rattle.std.specs.Prelude.{ℕ, List, [], ◌∷◌, map, ◌≡◌, refl, drop}
use Rattle.strings.specs.Number.{number_of, padding_of, misshapen, word_of, flip, bytes_of_string}
use Rattle.strings.specs.Numbers.{answer_of}
use Rattle.relative.specs.Relative.{read_relative, write_relative}
use Rattle.relative.specs.Polarity.{first_symbol}
use Rattle.strings.specs.Hamming.{position, sum_c, sum_all, syndrome, sums_set, highest, placed, judge, ruling, mended}
use Rattle.strings.specs.Calls.{sound_tests}
use Rattle.layout.specs.Layout.{layout}
use Rattle.words.specs.Values.{values_of, first_bad}
use Rattle.words.specs.Good.{is_good}
use Rattle.book.specs.Entry.{entry_of, greater}
use Rattle.book.specs.Shows.{day_of, is_shown, three_of, shown_by}
use Rattle.book.specs.Book.{empty_book, joined, joined_shown}
use Rattle.summary.specs.Walk.{none_filled, with_line, walk_from, walk_of}
use Rattle.tallies.specs.Tallies.{one_more, causes_after}
use Rattle.immediate.specs.Kept.{has_record}
use Rattle.channel.specs.Row.{is_present, holds_frame, empty_row, new_frame, stored, held_with, counted}
use Rattle.channel.specs.Offers.{taken_row}
use Rattle.shows.specs.Shows.{frame_by, brought, changes}
use Rattle.channel.specs.Witness.{one, two, three, four, five, seven, ten}
use Rattle.station.specs.declared.Station.{Station}
use Rattle.station.specs.Station.{fresh_station, no_row, row_at, card_test, gate_tests, is_served, shut_says, station_tests, told_in, station_after, station_reset}
use Rattle.station.specs.Queries.{kept_at, record_tests, all_counts, summary_numbers, health_number, health_by, judged}
use Rattle.station.specs.History.{Call, Offer, Reset, station_of}
use Rattle.histories.specs.Witness.{six_good, entry_asked}

-- ---- what a card is answered, in the paper's numbers
abbrev pub offer_asked : Station → ℕ → ℕ → ℕ → List ℕ → List ℕ
offer_asked st card c epoch s = answer_of (station_tests st card c epoch s) (told_in st c epoch s)

abbrev pub record_asked : Station → ℕ → ℕ → List ℕ
record_asked st card c = answer_of (record_tests st card c) []

abbrev pub tallies_asked : Station → ℕ → ℕ → List ℕ
tallies_asked st card c = answer_of (gate_tests card c) (all_counts (row_at st c).tallies)

abbrev pub health_asked : Station → ℕ → ℕ → List ℕ
health_asked st card c = answer_of (gate_tests card c) (health_number (health_by (kept_at st c) st.book) ∷ [])

abbrev pub summary_asked : Station → ℕ → List ℕ
summary_asked st card = answer_of (card_test card ∷ []) (summary_numbers st.summary)

-- ---- the history, the latest call first
-- card two hears strings 1 to 4 on channel 27, a record whose n is 2
abbrev pub two_alone : List Call
two_alone = Offer 2 27 103 four ∷ Offer 2 27 102 three ∷ Offer 2 27 101 two ∷ Offer 2 27 100 one ∷ []

-- and between them card one hears strings 5, 6 and 7 on channel 3, which show an entry of slot 2; it also offers to channel 27, and resets it
abbrev pub two_and_one : List Call
two_and_one =
    Reset 1 27
    ∷ Offer 2 27 103 four
    ∷ Offer 1 3 106 seven
    ∷ Offer 2 27 102 three
    ∷ Offer 1 27 105 five
    ∷ Offer 1 3 105 six_good
    ∷ Offer 2 27 101 two
    ∷ Offer 1 3 104 five
    ∷ Offer 2 27 100 one
    ∷ []

unfoldable pub alone : Station
alone = station_of two_alone

unfoldable pub both : Station
both = station_of two_and_one

-- strings 5 and 6 on card one's channel 3, 5 and 7 on card two's channel 27: no frame of one channel has all three
unfoldable pub apart : Station
apart = station_of (Offer 2 27 106 seven ∷ Offer 2 27 104 five ∷ Offer 1 3 105 six_good ∷ Offer 1 3 104 five ∷ [])

-- ---- the last channel of each card, the first of card two's, and one that there is not
abbrev pub at_the_edges : (ℕ → List ℕ) → List (List ℕ)
at_the_edges asked = map asked (23 ∷ 24 ∷ 47 ∷ 48 ∷ [])

-- card one is served on 23, card two on 24 and 47; a card that is neither nowhere
abbrev pub to_card_one : List ℕ → List (List ℕ)
to_card_one served = served ∷ (15 ∷ []) ∷ (15 ∷ []) ∷ (1 ∷ []) ∷ []

abbrev pub to_card_two : List ℕ → List (List ℕ)
to_card_two served = (15 ∷ []) ∷ served ∷ served ∷ (1 ∷ []) ∷ []

abbrev pub to_none : List (List ℕ)
to_none = (16 ∷ []) ∷ (16 ∷ []) ∷ (16 ∷ []) ∷ (16 ∷ []) ∷ []

-- a call that has these answers: `served` where it is served
pub record AtTheEdges (asked : ℕ → ℕ → List ℕ) (served : List ℕ) : Type 0 where
  pub card_0 : at_the_edges (asked 0) ≡ to_none
  pub card_1 : at_the_edges (asked 1) ≡ to_card_one served
  pub card_2 : at_the_edges (asked 2) ≡ to_card_two served
  pub card_3 : at_the_edges (asked 3) ≡ to_none

pub record Cards : Type 0 where
  -- ---- channels 23, 24, 47 and 48 asked by cards 0, 1, 2 and 3: an offer of string 1, of ten bytes, a reset, and the three queries
  pub offers : AtTheEdges (λ card c. offer_asked both card c 107 one) (0 ∷ 1 ∷ 0 ∷ 0 ∷ 1 ∷ 0 ∷ [])
  pub shapes : AtTheEdges (λ card c. offer_asked both card c 107 ten) (2 ∷ [])
  pub resets : AtTheEdges (λ card c. shut_says card c) (0 ∷ [])
  pub records : AtTheEdges (λ card c. record_asked both card c) (13 ∷ [])
  pub tallies : AtTheEdges (λ card c. tallies_asked both card c) (0 ∷ 0 ∷ 0 ∷ 0 ∷ 0 ∷ 0 ∷ 0 ∷ 0 ∷ 0 ∷ 0 ∷ 0 ∷ 0 ∷ 0 ∷ 0 ∷ 0 ∷ [])
  pub healths : AtTheEdges (λ card c. health_asked both card c) (0 ∷ 0 ∷ [])
  -- an entry and the summary are for both cards: CARD, "before CHANNEL or SLOT"
  pub slots_asked : map (λ (card : ℕ). entry_asked both card 25) (0 ∷ 1 ∷ 2 ∷ 3 ∷ []) ≡ (16 ∷ []) ∷ (14 ∷ []) ∷ (14 ∷ []) ∷ (16 ∷ []) ∷ []
  pub summaries_asked : map (summary_asked both) (0 ∷ 1 ∷ 2 ∷ 3 ∷ [])
      ≡ (16 ∷ []) ∷ (0 ∷ 1 ∷ 8766 ∷ 8766 ∷ []) ∷ (0 ∷ 1 ∷ 8766 ∷ 8766 ∷ []) ∷ (16 ∷ []) ∷ []
  -- ---- "only book entries, the summary, and health, which reads the book, may differ": by what card one shows, card two finds an entry where there was
  -- none, the count of slots goes from 0 to 1, and its satellite is usable that was unknown
  pub entry_alone : entry_asked alone 2 2 ≡ 13 ∷ []
  pub entry_both : entry_asked both 2 2 ≡ 0 ∷ 8766 ∷ 2398076729582241710080 ∷ 2 ∷ []
  pub summary_alone : summary_asked alone 2 ≡ 0 ∷ 0 ∷ 0 ∷ 0 ∷ []
  pub summary_both : summary_asked both 2 ≡ 0 ∷ 1 ∷ 8766 ∷ 8766 ∷ []
  pub health_alone : health_asked alone 2 27 ≡ 0 ∷ 0 ∷ []
  pub health_both : health_asked both 2 27 ≡ 0 ∷ 1 ∷ []
  -- "the other's row answers, refusals, records and tallies are the same": all 24 rows of card two are as they were without card one
  pub rows : drop 24 both.rows ≡ drop 24 alone.rows
  pub record_both : record_asked both 2 27 ≡ 0 ∷ []
  pub tallies_both : tallies_asked both 2 27 ≡ 0 ∷ 4 ∷ 4 ∷ 0 ∷ 0 ∷ 0 ∷ 0 ∷ 0 ∷ 0 ∷ 0 ∷ 0 ∷ 0 ∷ 0 ∷ 0 ∷ 0 ∷ []
  -- OWNER "changes nothing", and "Neither is counted in any tally": card one's own tallies count its three strings alone
  pub tallies_one : tallies_asked both 1 3 ≡ 0 ∷ 3 ∷ 3 ∷ 0 ∷ 0 ∷ 0 ∷ 0 ∷ 0 ∷ 0 ∷ 0 ∷ 0 ∷ 0 ∷ 0 ∷ 0 ∷ 0 ∷ []
  pub owner_leaves : station_of (Offer 1 27 104 ten ∷ two_alone) ≡ alone
  pub owner_reset : station_of (Reset 1 27 ∷ two_alone) ≡ alone
  pub card_leaves : station_of (Offer 3 27 104 five ∷ Reset 0 27 ∷ two_alone) ≡ alone
  -- "both halves and the day coming from one frame of one channel", of two cards as of one
  pub apart_book : apart.book ≡ empty_book

pub cards : Cards
unfolding one two three four five six_good seven sound_tests number_of padding_of misshapen word_of flip bytes_of_string read_relative write_relative first_symbol position sum_c sum_all syndrome sums_set highest placed judge ruling mended layout values_of first_bad is_good entry_of greater day_of is_shown three_of shown_by empty_book joined joined_shown one_more causes_after has_record is_present holds_frame empty_row new_frame stored held_with counted taken_row frame_by brought changes none_filled with_line walk_from walk_of fresh_station no_row is_served station_after station_reset judged health_by station_of alone both apart
cards =
    record {
      offers = record { card_0 = refl; card_1 = refl; card_2 = refl; card_3 = refl };
      shapes = record { card_0 = refl; card_1 = refl; card_2 = refl; card_3 = refl };
      resets = record { card_0 = refl; card_1 = refl; card_2 = refl; card_3 = refl };
      records = record { card_0 = refl; card_1 = refl; card_2 = refl; card_3 = refl };
      tallies = record { card_0 = refl; card_1 = refl; card_2 = refl; card_3 = refl };
      healths = record { card_0 = refl; card_1 = refl; card_2 = refl; card_3 = refl };
      slots_asked = refl;
      summaries_asked = refl;
      entry_alone = refl;
      entry_both = refl;
      summary_alone = refl;
      summary_both = refl;
      health_alone = refl;
      health_both = refl;
      rows = refl;
      record_both = refl;
      tallies_both = refl;
      tallies_one = refl;
      owner_leaves = refl;
      owner_reset = refl;
      card_leaves = refl;
      apart_book = refl;
    }
