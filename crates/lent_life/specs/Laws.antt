-- A lent life: over any list of these calls on lent memory the station is what the calls by value leave, and every answer is theirs; so what is demanded of
-- histories, the isolation of two cards and the book after joins hold of what C sees. Packed answers tell any two answers of a call apart. Whatever the memory, the
-- calls and the bytes. Proved as `laws` in `proofs/Laws.antt`.
-- Assumes nothing.
use Rattle.std.specs.Prelude.{ℕ, ◌≤◌, true, List, ◌∷◌, ◌++◌, map, ◌↔◌, ◌≡◌, ℤ, length}
use Rattle.book.specs.Book.{slots}
use Rattle.summary.specs.Walk.{walk_of}
use Rattle.station.specs.declared.Station.{Station}
use Rattle.station.specs.Station.{is_card, is_served}
use Rattle.station.specs.Queries.{summary_numbers}
use Rattle.station.specs.History.{channel_of}
use Rattle.station.specs.Said.{Said, calls_of as calls_in}
use Rattle.station.specs.Demand1.{OneAnswer}
use Rattle.station.specs.Demand3.{SameCalls}
use Rattle.sites.specs.Lives.{Life, Lived, AfterLife}
use Rattle.lent_life.specs.Life.{Summary, Tallies, Entry, LentCall, Back, Numbers, Seen, calls_of, Tells, LivesLent}
use Rattle.lent_life.specs.ByValue.{LivesByValue}
use Rattle.lent_life.specs.Histories.{IsLife, LivedOn, SlotSeen, history_in, is_alone, answers_seen, true_counts, in_one, AsHistory}
use Rattle.lent_life.specs.Isolation.{Isolation}
use Rattle.lent_life.specs.Apart.{ToldApart}

pub record Laws : Type 0 where
  -- over any list of these calls on lent memory the station is what the calls by value leave, and every answer is theirs
  pub as_by_value : (from : Station) (all : List Seen) (st : Station) → LivesLent from all st ↔ LivesByValue from all st
  -- and any list of calls can be made, with one outcome
  pub one_outcome : (from : Station) (calls : List LentCall) → OneAnswer (List Seen × Station) (λ r. (calls_of r.0 ≡ calls) × LivesLent from r.0 r.1)
  -- since `spineyarrow_fresh`, and where no book is joined, its calls with the answers read are a history: what is demanded of histories holds of what C sees
  pub as_history : (from : Station) (all : List Seen) (st : Station) → is_alone (calls_of all) ≡ true → LivesLent from all st → AsHistory all st
  -- so a card that asks for a channel's tallies sees the true counts of these answers,
  pub tallies_seen : (all : List Seen) (st : Station) (h : AsHistory all st) (card c : ℕ) (out : List ℕ) (back : Back) → is_served card c ≡ true → length out ≡ 14
      → Tells st (Tallies card c out) back → back ≡ Numbers 0 (true_counts c h.history)
  -- where two neighbouring calls on different channels are exchanged each is answered as it was, and the station is the same,
  pub exchanged : (all other : List Seen) (st st' : Station) (h : AsHistory all st) (later earlier : List Said) (x y : Said) → AsHistory other st'
      → h.history ≡ later ++ (x ∷ y ∷ earlier) → (channel_of x.call ≡ channel_of y.call → ⊥) → history_in (calls_of other) ≡ calls_in (later ++ (y ∷ x ∷ earlier))
      → (answers_seen other ≡ map in_one (later ++ (y ∷ x ∷ earlier))) × (st' ≡ st)
  -- and two hosts with the same calls on each channel, each in its own order, have the same station
  pub reordered : (all other : List Seen) (st st' : Station) → AsHistory all st → AsHistory other st'
      → SameCalls (history_in (calls_of all)) (history_in (calls_of other)) → st ≡ st'
  -- two cards on one station
  pub isolation : Isolation
  -- the book after joins: with books joined that other lent lives have sent, it is a life, after which the book, its summary and the rows are as `EveryLife` says
  pub as_life : (from : Station) (all : List Seen) (st : Station) (l : Life) → IsLife all l → LivesLent from all st → Lived l st × AfterLife l st
  -- and every life is one
  pub every_life : (from : Station) (l : Life) → LivedOn from l
  -- so a card sees the summary of the book as a walk gives it,
  pub summary_seen : (l : Life) (st : Station) (card : ℕ) (out : List ℕ) (back : Back) → Lived l st → is_card card ≡ true → length out ≡ 3 → Tells st (Summary card out) back
      → back ≡ Numbers 0 (summary_numbers (walk_of st.book.entries))
  -- and of a slot the greatest entry that this site or one of the others was shown, or that none was
  pub slot_seen : (l : Life) (st : Station) (card slot : ℕ) (out : List ℤ) (back : Back) → Lived l st → is_card card ≡ true → 1 ≤ slot → slot ≤ slots → length out ≡ 13
      → Tells st (Entry card slot out) back → SlotSeen l slot out back
  -- packed answers tell any two answers of a call apart
  pub told_apart : ToldApart
