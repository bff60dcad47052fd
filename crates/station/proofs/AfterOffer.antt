-- An offer to a station, from what became of its channel's row, of the book and of the summary: the facts that a call has to show, whether it hands the
-- station on or changes it in its place. A station is told by its three parts (same-station).
-- Assumes nothing.
use Prim.Native.Nat.{ℕ}
use mathlib.Core.Bool.{Bool, true, ◌&&◌}
use mathlib.Core.List.{List}
use mathlib.Core.Path.{◌≡◌, sym, ap, ap₂, ◌∙◌}
use lib.ListN.{set}
use Rattle.strings.specs.Pick.{pick}
use Rattle.std.specs.Prelude.{Ok, Err}
use Rattle.strings.specs.declared.Refusal.{Refusal}
use Rattle.book.specs.declared.Book.{Book}
use Rattle.summary.specs.declared.Summary.{Summary}
use Rattle.channel.specs.declared.Row.{Row}
use Rattle.channel.specs.declared.Offered.{Offered}
use Rattle.channel.specs.Row.{frame_of}
use Rattle.channel.specs.Offers.{offer_tests, Offers, is_stored}
use Rattle.shows.specs.Shows.{shows_of, brought, changes}
use Rattle.channel.proofs.HeldFrame.{offered_is, said_by_lem}
use Rattle.channel.proofs.OnceOnly.{stored_said}
use Rattle.station.specs.declared.Station.{Station}
use Rattle.station.specs.declared.Stepped.{Stepped}
use Rattle.station.specs.Station.{row_at, held_at, is_served, Enters, told_in, book_after, entry_changes, corrected, station_after, OffersTo}
use Rattle.station.proofs.Served.{open_says, shut_says_lem, entered}

pub same_station : (st st' : Station) → st.rows ≡ st'.rows → st.book ≡ st'.book → st.summary ≡ st'.summary → st ≡ st'
same_station st st' rows book summary =
    ap₂ (λ (x : List Row) (b : Book). record { rows = x; book = b; summary = st.summary }) rows book
    ∙ ap (λ (z : Summary). record { rows = st'.rows; book = st'.book; summary = z }) summary

-- a call that is not let in
pub offer_shut : (st : Station) (card c epoch : ℕ) (s : List ℕ) (why : Refusal) → Enters card c (Err why) → OffersTo st card c epoch s (record { station = st; answer = Err why })
unfolding station_after
offer_shut st card c epoch s why n =
    record { answer = n.1 ∙ sym (shut_says_lem card c (offer_tests (held_at st c) epoch s) (told_in st c epoch s) n.0); station = rw n.0 }

-- the row offered to and put back, the book that a newly stored string has brought its entries to, whether an entry of it changed, and the summary
module _ (st : Station) (card c epoch : ℕ) (s : List ℕ) (o : Offered) (b : Book) (changed : Bool) (kept : Summary) where
  pub after_offer_lem : is_served card c ≡ true → Offers (row_at st c) epoch s o
      → b ≡ pick (is_stored o.answer) (brought st.book (shows_of (frame_of o.row))) st.book
      → changed ≡ (is_stored o.answer && changes st.book (shows_of (frame_of o.row)))
      → kept ≡ corrected changed b st.summary
      → OffersTo st card c epoch s (record { station = record { rows = set st.rows c o.row; book = b; summary = kept }; answer = o.answer })
  unfolding station_after
  after_offer_lem f to book change summary =
      let i = offered_is (row_at st c) epoch s o to in
      let stored = stored_said (row_at st c) epoch s o to in
      let joined : b ≡ book_after st.book (row_at st c) epoch s =
      book ∙ ap₂ (λ (t : Bool) (x : Row). pick t (brought st.book (shows_of (frame_of x))) st.book) stored i
      in
      let so : changed ≡ entry_changes st.book (row_at st c) epoch s =
      change ∙ ap₂ (λ (t : Bool) (x : Row). t && changes st.book (shows_of (frame_of x))) stored i
      in
      record {
        answer = said_by_lem (row_at st c) epoch s o to ∙ sym (open_says card c (offer_tests (held_at st c) epoch s) (told_in st c epoch s) f);
        station = rw f
            (same_station _ _ (ap (set st.rows c) i) joined (summary ∙ ap₂ (λ (t : Bool) (x : Book). corrected t x st.summary) so joined));
      }

-- at the row where the call entered
pub offer_open : (st : Station) (card c i epoch : ℕ) (s : List ℕ) (r : Stepped) → Enters card c (Ok i) → (is_served card i ≡ true → OffersTo st card i epoch s r) → OffersTo st card c epoch s r
offer_open st card c i epoch s r n f = entered (λ (k : ℕ). OffersTo st card k epoch s r) card n f
