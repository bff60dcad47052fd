-- The client's third demand: "Start with a fresh station and make any calls that offer a string to, or reset, one of channels 0 to 23." The answers
-- are those that the calls gave (`Said`); frames and shown entries are those of `History`, of the calls alone, with channels as labels.
-- Assumes nothing.
use Rattle.std.specs.Prelude.{ℕ, true, List, ◌∷◌, ◌++◌, ◌↔◌, ◌≡◌}
use Rattle.strings.specs.Calls.{written_paper}
use Rattle.book.specs.Entry.{Three, meaning}
use Rattle.book.specs.Book.{in_slot}
use Rattle.channel.specs.Offers.{answer_paper}
use Rattle.station.specs.declared.Station.{Station}
use Rattle.station.specs.declared.Stepped.{Stepped}
use Rattle.station.specs.declared.Emptied.{Emptied}
use Rattle.station.specs.Station.{fresh_station, is_served, OffersTo, Resets}
use Rattle.station.specs.History.{Call, Offer, Reset, calls_on, said_after, ShownIn, Greatest, Runs}
use Rattle.station.specs.Said.{Said, RunsFrom, calls_of, answers_on}

-- ---- the calls determine the answers: "an offer is tested in the order 1 to 9", and a reset by 1
pub record Answered (cs : List Call) (st : Station) : Type 0 where
  pub offers : (card c epoch : ℕ) (s : List ℕ) (r : Stepped) → OffersTo st card c epoch s r → answer_paper r.answer ≡ said_after cs (Offer card c epoch s)
  pub resets : (card c : ℕ) (r : Emptied) → Resets st card c r → written_paper r.answer ≡ said_after cs (Reset card c)

-- ---- "Exchange two neighbouring calls on different channels: each call's answer and the whole station afterwards are unchanged". The calls were
-- `earlier`, then y, then x, then `later`, and left st
pub record Exchanged (later earlier : List Said) (x y : Said) (st : Station) : Type 0 where
  -- with x before y, and every call, x and y too, with the answer that it gave, they lead to the same station
  pub unchanged : RunsFrom fresh_station (later ++ (y ∷ x ∷ earlier)) st
  -- and whoever makes the calls in that order is told this and has this station
  pub only : (other : List Said) (st' : Station) → RunsFrom fresh_station other st' → calls_of other ≡ calls_of (later ++ (y ∷ x ∷ earlier))
      → (other ≡ later ++ (y ∷ x ∷ earlier)) × (st' ≡ st)

-- ---- so any reordering that keeps each channel's own order leaves the same station, and the calls on each channel gave the same answers
abbrev pub SameCalls : List Call → List Call → Type 0
SameCalls cs ds = (card c : ℕ) → is_served card c ≡ true → calls_on c cs ≡ calls_on c ds

pub record Reordered (all other : List Said) (st st' : Station) : Type 0 where
  pub station : st ≡ st'
  pub answers : (card c : ℕ) → is_served card c ≡ true → answers_on c all ≡ answers_on c other

-- and two stations on one antenna, each with its own calls, hold the same book where they were shown the same entries
abbrev pub SameShown : List Call → List Call → Type 0
SameShown cs ds = (slot : ℕ) (t : Three) → ShownIn cs slot t ↔ ShownIn ds slot t

abbrev pub SameBooks : List Call → List Call → Type 0
SameBooks cs ds = (st st' : Station) → Runs cs st → Runs ds st' → st.book ≡ st'.book

-- ---- "at all times an almanac slot holds the greatest entry, by day and then by bits, that any channel has shown since the start, both halves and the
-- day coming from one frame of one channel; a slot is empty exactly when none was shown"
pub record BookRule (cs : List Call) (st : Station) (slot : ℕ) : Type 0 where
  pub greatest : ((in_slot st.book slot).day ≡ 0 → ⊥) → Greatest cs slot (meaning (in_slot st.book slot))
  pub empty : ((in_slot st.book slot).day ≡ 0) ↔ ((t : Three) → ShownIn cs slot t → ⊥)
