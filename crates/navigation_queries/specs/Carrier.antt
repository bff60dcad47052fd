-- The carrier number of an almanac entry (request 11): "the book's carrier number for n". Of every station: H 14 to 24, which no entry that was shown
-- has, is answered as itself.
-- Assumes nothing.
use Rattle.std.specs.Prelude.{ℕ, Bool, not, ◌&&◌, List, [], ◌∷◌, ◌≡◌, ℤ, Result, Ok, Err}
use Rattle.strings.specs.declared.Refusal.{Refusal}
use Rattle.strings.specs.Numbers.{refusal_paper, answer_of}
use Rattle.book.specs.Entry.{meaning, odd_words}
use Rattle.book.specs.Book.{in_slot}
use Rattle.station.specs.declared.Station.{Station}
use Rattle.station.specs.Queries.{is_slot, is_empty, entry_tests}

-- H of a slot's entry
abbrev pub carrier_at : Station → ℕ → ℤ
carrier_at st k = (odd_words (meaning (in_slot st.book k))).h

-- ---- the query: 16, 14, 13, as an entry is asked for
abbrev pub carrier_paper : Result ℤ Refusal → List ℕ
carrier_paper (Ok h) = 0 ∷ []
carrier_paper (Err q) = refusal_paper q

pub record FindsCarrier (st : Station) (card k : ℕ) (r : Result ℤ Refusal) : Type 0 where
  pub answer : carrier_paper r ≡ answer_of (entry_tests st card k) []
  pub carrier : (h : ℤ) → r ≡ Ok h → h ≡ carrier_at st k

-- there is an entry for n; where n is no slot there is none
abbrev pub has_entry : Station → ℕ → Bool
has_entry st n = is_slot n && not (is_empty st.book n)
