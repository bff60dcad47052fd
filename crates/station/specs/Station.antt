-- A station: a row for each channel of two cards, one book and its summary, and what an offer and a reset make of it (the paper, "Frames and the book"
-- and "Numbers that say no"; requests 5 and 10). For every station value, whichever card asks.
-- Assumes nothing.
use Rattle.std.specs.Prelude.{ℕ, ◌-◌, ◌<◌, Bool, true, false, not, ◌&&◌, ◌||◌, List, [], ◌∷◌, ◌++◌, ◌≡◌, eqb, ltb, get_or, set, replicate, Result, Ok, Err}
use Rattle.strings.specs.declared.Refusal.{Refusal}
use Rattle.strings.specs.Pick.{pick}
use Rattle.strings.specs.Numbers.{refusal_paper, Test, test, answer_of}
use Rattle.strings.specs.Calls.{written_paper}
use Rattle.book.specs.declared.Book.{Book}
use Rattle.book.specs.Book.{empty_book}
use Rattle.summary.specs.declared.Summary.{Summary}
use Rattle.summary.specs.Walk.{none_filled, walk_of}
use Rattle.channel.specs.declared.Row.{Row}
use Rattle.tallies.specs.Tallies.{none_counted}
use Rattle.channel.specs.Frame.{Frame}
use Rattle.channel.specs.Row.{frame_of, empty_row}
use Rattle.channel.specs.Offers.{answer_paper, offer_tests, told_to, offered_row, stores_it}
use Rattle.shows.specs.Shows.{shows_of, brought, changes}
use Rattle.station.specs.declared.Station.{Station}
use Rattle.station.specs.declared.Stepped.{Stepped}
use Rattle.station.specs.declared.Emptied.{Emptied}

-- "two cards of 24 channels": how many each has, how many the station has, and the highest
abbrev pub card_channels : ℕ
card_channels = 24

abbrev pub channels : ℕ
channels = 48

abbrev pub last_channel : ℕ
last_channel = channels - 1

-- "Channels 0..23 belong to card one, 24..47 to card two"
abbrev pub owner_of : ℕ → ℕ
owner_of c = pick (ltb c card_channels) 1 2

-- "A fresh station is all empty", and "an empty book has count 0 and both days 0"
unfoldable pub fresh_station : Station
fresh_station = record { rows = replicate channels empty_row; book = empty_book; summary = none_filled }

-- past the rows stands a row of nothing, which no call looks at
unfoldable pub no_row : Row
no_row = record { strings = []; start = 0; present = 0; immediate = record { strings = []; start = 0 }; tallies = none_counted }

-- a channel's row, and the frame that it holds
abbrev pub row_at : Station → ℕ → Row
row_at st c = get_or st.rows c no_row

abbrev pub held_at : Station → ℕ → Frame
held_at st c = frame_of (row_at st c)

-- ---- the gate: the tests that stand before a call's own
-- CARD: "before CHANNEL or SLOT, for a card other than one or two"
abbrev pub is_card : ℕ → Bool
is_card card = eqb card 1 || eqb card 2

abbrev pub card_test : ℕ → Test
card_test card = test 16 (not (is_card card))

-- of a call that names a channel: CARD; CHANNEL "reads 'above 47'"; "15 OWNER, directly after it, when the channel is the other card's"
abbrev pub gate_tests : ℕ → ℕ → List Test
gate_tests card c = card_test card ∷ test 1 (ltb last_channel c) ∷ test 15 (not (eqb (owner_of c) card)) ∷ []

-- a call is served where none of them fits
abbrev pub none_fits : List Test → Bool
none_fits [] = true
none_fits (t ∷ ts) = not t.fits && none_fits ts

unfoldable pub is_served : ℕ → ℕ → Bool
is_served card c = none_fits (gate_tests card c)

-- what a call is told that is not: the first that fits
abbrev pub shut_says : ℕ → ℕ → List ℕ
shut_says card c = answer_of (gate_tests card c) []

-- where a call enters: at its channel's row, which is one of the rows; or not, and why
abbrev pub Enters : ℕ → ℕ → Result ℕ Refusal → Type 0
Enters card c (Ok i) = (is_served card c ≡ true) × ((i ≡ c) × (i < channels))
Enters card c (Err why) = (is_served card c ≡ false) × (refusal_paper why ≡ shut_says card c)

-- ---- an offer: at the gate, and then "in the order 1 to 9"
abbrev pub station_tests : Station → ℕ → ℕ → ℕ → List ℕ → List Test
station_tests st card c epoch s = gate_tests card c ++ offer_tests (held_at st c) epoch s

-- "A taken offer answers m, a verdict .. and news", and the polarity
abbrev pub told_in : Station → ℕ → ℕ → List ℕ → List ℕ
told_in st c epoch s = told_to (held_at st c) epoch s

-- "Each string newly stored brings all entries that its frame then shows to the book; one already held changes only tallies"
abbrev pub book_after : Book → Row → ℕ → List ℕ → Book
book_after b row epoch s = pick (stores_it (frame_of row) epoch s) (brought b (shows_of (frame_of (offered_row row epoch s)))) b

-- an entry of it changes: something that the string's frame then shows stands above what its slot holds
abbrev pub entry_changes : Book → Row → ℕ → List ℕ → Bool
entry_changes b row epoch s = stores_it (frame_of row) epoch s && changes b (shows_of (frame_of (offered_row row epoch s)))

-- "Keep a summary beside the book, corrected at each change of an entry": it is the walk of the new book, and else it stays
abbrev pub corrected : Bool → Book → Summary → Summary
corrected changed b old = pick changed (walk_of b.entries) old

abbrev pub summary_after : Summary → Book → Row → ℕ → List ℕ → Summary
summary_after old b row epoch s = corrected (entry_changes b row epoch s) (book_after b row epoch s) old

-- "CHANNEL changes nothing at all", OWNER "changes nothing" and CARD "changes nothing either"; any other offer changes its channel's row, the book and the
-- summary
unfoldable pub station_after : Station → ℕ → ℕ → ℕ → List ℕ → Station
station_after st card c epoch s =
    pick (is_served card c)
    (record {
      rows = set st.rows c (offered_row (row_at st c) epoch s);
      book = book_after st.book (row_at st c) epoch s;
      summary = summary_after st.summary st.book (row_at st c) epoch s;
    })
    st

pub record OffersTo (st : Station) (card c epoch : ℕ) (s : List ℕ) (r : Stepped) : Type 0 where
  pub answer : answer_paper r.answer ≡ answer_of (station_tests st card c epoch s) (told_in st c epoch s)
  pub station : r.station ≡ station_after st card c epoch s

-- ---- "Reset: 1", and the gate's other two. "A reset empties the row, record and tallies; the book stays", and its summary
unfoldable pub station_reset : Station → ℕ → ℕ → Station
station_reset st card c = pick (is_served card c) (record { rows = set st.rows c empty_row; book = st.book; summary = st.summary }) st

pub record Resets (st : Station) (card c : ℕ) (r : Emptied) : Type 0 where
  pub answer : written_paper r.answer ≡ shut_says card c
  pub station : r.station ≡ station_reset st card c
