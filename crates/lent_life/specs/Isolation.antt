-- Two cards on one lent station: "Whatever one card offers or resets, the other's row answers, refusals, records and tallies are the same; only book entries, the
-- summary, and health, which reads the book, may differ." Of every call and of every lent life. Proved as `isolation` in `proofs/Isolation.antt`.
-- Assumes nothing.
use Rattle.std.specs.Prelude.{ℕ, Bool, true, false, not, ◌&&◌, List, [], ◌∷◌, ◌≡◌, eqb}
use Rattle.strings.specs.Pick.{pick}
use Rattle.station.specs.declared.Station.{Station}
use Rattle.station.specs.Demand1.{WellMade}
use Rattle.station.specs.Isolation.{AgreeFor}
use Rattle.lent_life.specs.Life.{Question, Next, Summary, Health, Tallies, Immediate, Entry, Book, Navigation, LentCall, Fresh, Offer, Reset, Field, Join, Ask, Back, Seen, calls_of, Does, LivesLent}

-- ---- a card's own calls: those that name it, and `spineyarrow_fresh`, which is every card's. Of a book joined or sent, and of a next place, no card is named
abbrev pub is_asked_by : ℕ → Question → Bool
is_asked_by card (Next block at) = false
is_asked_by card (Summary asker out) = eqb asker card
is_asked_by card (Health asker c) = eqb asker card
is_asked_by card (Tallies asker c out) = eqb asker card
is_asked_by card (Immediate asker c words start) = eqb asker card
is_asked_by card (Entry asker k out) = eqb asker card
is_asked_by card (Book out) = false
is_asked_by card (Navigation asker c out) = eqb asker card

abbrev pub is_by : ℕ → LentCall → Bool
is_by card Fresh = true
is_by card (Offer asker c epoch s) = eqb asker card
is_by card (Reset asker c) = eqb asker card
is_by card (Field asker block at) = eqb asker card
is_by card (Join s) = false
is_by card (Ask q) = is_asked_by card q

-- "only book entries, the summary, and health, which reads the book, may differ"; and a navigation record, which has the book's carrier number
abbrev pub asks_book : Question → Bool
asks_book (Next block at) = false
asks_book (Summary asker out) = true
asks_book (Health asker c) = true
asks_book (Tallies asker c out) = false
asks_book (Immediate asker c words start) = false
asks_book (Entry asker k out) = true
asks_book (Book out) = true
asks_book (Navigation asker c out) = true

abbrev pub reads_book : LentCall → Bool
reads_book Fresh = false
reads_book (Offer asker c epoch s) = false
reads_book (Reset asker c) = false
reads_book (Field asker block at) = false
reads_book (Join s) = false
reads_book (Ask q) = asks_book q

-- ---- a card's calls that its own rows answer, each with what came back
abbrev pub is_own : ℕ → LentCall → Bool
is_own card call = is_by card call && not (reads_book call)

unfoldable pub seen_by : ℕ → List Seen → List Seen
seen_by card [] = []
seen_by card (x ∷ before) = pick (is_own card x.call) (x ∷ seen_by card before) (seen_by card before)

pub record Isolation : Type 0 where
  -- whatever anyone else calls, a card's rows stay: offers, resets and fields of another card, joins, and all that only reads
  pub others_leave : (card : ℕ) (st : Station) (call : LentCall) (back : Back) (st' : Station) → is_by card call ≡ false → Does st call back st' → AgreeFor card st' st
  -- of two stations that agree for a card, its rows' answers are the same, and they agree afterwards
  pub own_rows : (card : ℕ) (st st' : Station) (call : LentCall) (back back' : Back) (to to' : Station) → WellMade st → WellMade st' → AgreeFor card st st'
      → is_own card call ≡ true → Does st call back to → Does st' call back' to' → (back ≡ back') × AgreeFor card to to'
  -- and where they have one book and its summary, so is everything that it is told: health and a navigation record too are told from its own row and the book, and
  -- from no other row
  pub own_book : (card : ℕ) (st st' : Station) (call : LentCall) (back back' : Back) (to to' : Station) → WellMade st → WellMade st' → AgreeFor card st st'
      → st.book ≡ st'.book → st.summary ≡ st'.summary → is_by card call ≡ true → Does st call back to → Does st' call back' to' → back ≡ back'
  -- over any calls: two lent lives from stations that agree for a card, in which its own calls are the same, in the same order
  pub isolated : (card : ℕ) (from from' : Station) (all other : List Seen) (st st' : Station) → WellMade from → WellMade from' → AgreeFor card from from'
      → LivesLent from all st → LivesLent from' other st' → calls_of (seen_by card all) ≡ calls_of (seen_by card other)
      → (seen_by card all ≡ seen_by card other) × AgreeFor card st st'
