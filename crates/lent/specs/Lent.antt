-- An offer to a station that is lent, and a reset of one, each changing it in its place (the paper, "Frames and the book" and "Numbers that say no"; request
-- 10). For every station value, whichever card asks.
-- Assumes nothing.
use Rattle.std.specs.Prelude.{ℕ, Bool, List, ◌≡◌, Option}
use Rattle.book.specs.declared.Entry.{Entry}
use Rattle.strings.specs.Numbers.{answer_of}
use Rattle.book.specs.Book.{joined_shown}
use Rattle.shows.specs.Shows.{brought, rises_in, changes}
use Rattle.station.specs.declared.Station.{Station}
use Rattle.station.specs.Station.{station_tests, shut_says, told_in, corrected, station_after, station_reset}
use Rattle.told.specs.Told.{packed}

-- the station left in its place, and the answer in the paper's numbers, the first in the lowest byte
pub record OffersLent (st : Station) (card c epoch : ℕ) (s : List ℕ) (st' : Station) (r : ℕ) : Type 0 where
  pub answer : r ≡ packed (answer_of (station_tests st card c epoch s) (told_in st c epoch s))
  pub station : st' ≡ station_after st card c epoch s

-- "Reset: 1", and the gate's other two: in the same way
pub record ResetsLent (st : Station) (card c : ℕ) (st' : Station) (r : ℕ) : Type 0 where
  pub answer : r ≡ packed (shut_says card c)
  pub station : st' ≡ station_reset st card c

-- one thing that is shown, joined to the book, and whether an entry changed; the rows and the summary as they were
abbrev pub BringsOne : Station → Option (ℕ × Entry) → Station → Bool → Type 0
BringsOne st s st' changed =
    (st' ≡ record { rows = st.rows; book = joined_shown st.book s; summary = st.summary }) × (changed ≡ rises_in st.book s)

-- "corrected at each change of an entry": the summary of the book as it is now; the rows and the book as they were
abbrev pub SumsUp : Station → Bool → Station → Type 0
SumsUp st changed st' = st' ≡ record { rows = st.rows; book = st.book; summary = corrected changed st.book st.summary }

-- one after the other, and then the summary: all that is shown is brought to the book; the rows as they were
abbrev pub BringsAll : Station → List (Option (ℕ × Entry)) → Station → Type 0
BringsAll st ss st' =
    st' ≡ record { rows = st.rows; book = brought st.book ss; summary = corrected (changes st.book ss) (brought st.book ss) st.summary }
