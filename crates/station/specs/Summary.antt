-- The summary (request 5) after any calls on a fresh station: "Keep a summary beside the book, corrected at each change of an entry." It is the walk of
-- the book; and in what was shown, "how many slots are filled, the oldest day and the newest". The proof stands in `proofs/Summary.antt`.
-- Assumes nothing.
use Rattle.std.specs.Prelude.{ℕ, suc, ◌≤◌, Bool, true, List, [], ◌∷◌, ◌↔◌, ◌≡◌}
use Rattle.strings.specs.Pick.{pick}
use Rattle.strings.specs.Table413.{◌to◌}
use Rattle.book.specs.Entry.{Three}
use Rattle.book.specs.Book.{slots}
use Rattle.summary.specs.Walk.{none_filled, walk_of}
use Rattle.station.specs.declared.Station.{Station}
use Rattle.station.specs.History.{Call, ShownIn, Greatest}

-- something was shown for a slot
pub record SomeShown (cs : List Call) (slot : ℕ) : Type 0 where
  pub three : Three
  pub shown : ShownIn cs slot three

-- the greatest entry shown for a slot, whichever, has this day
pub record DayShown (cs : List Call) (day : ℕ) : Type 0 where
  pub slot : ℕ
  pub three : Three
  pub greatest : Greatest cs slot three
  pub its_day : three.day ≡ day

-- how many of these are so
abbrev pub how_many_of : (ℕ → Bool) → List ℕ → ℕ
how_many_of so [] = 0
how_many_of so (k ∷ ks) = pick (so k) (suc (how_many_of so ks)) (how_many_of so ks)

pub record SummaryRule (cs : List Call) (st : Station) : Type 0 where
  -- "The summary must equal what the full walk gives, for every station reached from a fresh one."
  pub walked : st.summary ≡ walk_of st.book.entries
  -- "how many slots are filled": of each slot it is told whether something was shown for it, and so many are
  pub is_shown_lem : ℕ → Bool
  pub tells : (slot : ℕ) → 1 ≤ slot → slot ≤ slots → (is_shown_lem slot ≡ true) ↔ SomeShown cs slot
  pub count : st.summary.count ≡ how_many_of is_shown_lem (1 to slots)
  -- "the oldest day": the least day among the greatest entries shown
  pub oldest_there : (day : ℕ) → DayShown cs day → DayShown cs st.summary.oldest
  pub oldest_first : (day : ℕ) → DayShown cs day → st.summary.oldest ≤ day
  -- "and the newest": the greatest day among them
  pub newest_there : (day : ℕ) → DayShown cs day → DayShown cs st.summary.newest
  pub newest_last : (day : ℕ) → DayShown cs day → day ≤ st.summary.newest
  -- "An empty book has count 0 and both days 0."
  pub empty : ((slot : ℕ) → SomeShown cs slot → ⊥) → st.summary ≡ none_filled
