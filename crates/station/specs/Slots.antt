-- SLOT, "slot not 1..24": where a station that is asked for an entry answers 14, in numbers. The proof stands in `proofs/Slots.antt`.
-- Assumes nothing.
use Rattle.std.specs.Prelude.{ℕ, ◌<◌, true, [], ◌∷◌, ◌⊎◌, ◌↔◌, ◌≡◌, Result}
use Rattle.strings.specs.declared.Refusal.{Refusal}
use Rattle.book.specs.declared.Entry.{Entry}
use Rattle.book.specs.Book.{slots, empty_book}
use Rattle.station.specs.declared.Station.{Station}
use Rattle.station.specs.Station.{fresh_station, is_card}
use Rattle.station.specs.Queries.{entry_paper, FindsEntry}

-- asked by a card, exactly for 0 and above the last
abbrev pub SlotExactly : Type 0
SlotExactly = (st : Station) (card slot : ℕ) (r : Result Entry Refusal) → is_card card ≡ true → FindsEntry st card slot r → (entry_paper r ≡ 14 ∷ []) ↔ ((slot ≡ 0) ⊎ (slots < slot))

-- the edges, of a fresh station: NOTHING for the last slot, SLOT for the next and for 0
pub record SlotEdges : Type 0 where
  pub at_24 : (r : Result Entry Refusal) → FindsEntry fresh_station 1 24 r → entry_paper r ≡ 13 ∷ []
  pub at_25 : (r : Result Entry Refusal) → FindsEntry fresh_station 2 25 r → entry_paper r ≡ 14 ∷ []
  pub at_0 : (r : Result Entry Refusal) → FindsEntry fresh_station 1 0 r → entry_paper r ≡ 14 ∷ []

pub slot_edges : SlotEdges
unfolding fresh_station empty_book
slot_edges = record { at_24 = λ r a. a.answer; at_25 = λ r a. a.answer; at_0 = λ r a. a.answer }
