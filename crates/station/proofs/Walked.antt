-- The summary is the walk of the book: in a fresh station (fresh-walked), and after every call on a station in which it is (offer-walked, reset-walked),
-- since the book changes only where an entry does (book-stays). So it is in every station that calls leave (runs-walked).
-- Assumes nothing.
use mathlib.Core.Path.{◌≡◌, refl, sym, ap, subst, ◌∙◌}
use mathlib.Core.Bool.{Bool, true, false, ◌&&◌}
use mathlib.Core.List.{List}
use Prim.Native.Nat.{ℕ}
use Rattle.strings.specs.Pick.{pick}
use Rattle.book.specs.declared.Entry.{Entry}
use Rattle.std.specs.Prelude.{Option}
use Rattle.book.specs.declared.Book.{Book}
use Rattle.summary.specs.declared.Summary.{Summary}
use Rattle.summary.specs.Walk.{walk_of}
use Rattle.summary.proofs.EmptyBook.{walk_empty}
use Rattle.channel.specs.declared.Row.{Row}
use Rattle.channel.specs.Row.{frame_of}
use Rattle.channel.specs.Offers.{offered_row, stores_it}
use Rattle.shows.specs.Shows.{shows_of, brought, changes}
use Rattle.shows.proofs.Changes.{unchanged}
use Rattle.station.specs.declared.Station.{Station}
use Rattle.station.specs.declared.Stepped.{Stepped}
use Rattle.station.specs.declared.Emptied.{Emptied}
use Rattle.station.specs.Station.{fresh_station, row_at, is_served, book_after, entry_changes, corrected, summary_after, OffersTo, Resets}
use Rattle.station.specs.History.{Call, Runs, fresh, offering, resetting}
use Rattle.station.proofs.ChannelRuns.{after_none, after_some, reset_none, reset_some}

abbrev pub Walked : Station → Type 0
Walked st = st.summary ≡ walk_of st.book.entries

fresh_walked : Walked fresh_station
unfolding fresh_station
fresh_walked = sym walk_empty

-- where no entry changes, the book stays
book_stays : (b : Book) (row : Row) (epoch : ℕ) (s : List ℕ) → entry_changes b row epoch s ≡ false → book_after b row epoch s ≡ b
book_stays b row epoch s = by (stores_it (frame_of row) epoch s) (shows_of (frame_of (offered_row row epoch s)))
  where
    by : (t : Bool) (ss : List (Option (ℕ × Entry))) → (t && changes b ss) ≡ false → pick t (brought b ss) b ≡ b
    by true ss e = unchanged ss b e
    by false ss e = refl

-- and so does its walk; else the summary is made anew
still_walked : (b : Book) (old : Summary) (row : Row) (epoch : ℕ) (s : List ℕ) → old ≡ walk_of b.entries
    → summary_after old b row epoch s ≡ walk_of (book_after b row epoch s).entries
still_walked b old row epoch s h = by (entry_changes b row epoch s) refl
  where
    by : (t : Bool) → entry_changes b row epoch s ≡ t → corrected t (book_after b row epoch s) old ≡ walk_of (book_after b row epoch s).entries
    by true e = refl
    by false e = h ∙ ap (λ (x : Book). walk_of x.entries) (sym (book_stays b row epoch s e))

pub offer_walked : (st : Station) (card c epoch : ℕ) (s : List ℕ) (r : Stepped) → Walked st → OffersTo st card c epoch s r → Walked r.station
offer_walked st card c epoch s r w o = by (is_served card c) refl
  where
    by : (t : Bool) → is_served card c ≡ t → Walked r.station
    by false e = subst Walked (sym (o.station ∙ after_none st card c epoch s e)) w
    by true e = subst Walked (sym (o.station ∙ after_some st card c epoch s e)) (still_walked st.book st.summary (row_at st c) epoch s w)

pub reset_walked : (st : Station) (card c : ℕ) (r : Emptied) → Walked st → Resets st card c r → Walked r.station
reset_walked st card c r w o = by (is_served card c) refl
  where
    by : (t : Bool) → is_served card c ≡ t → Walked r.station
    by false e = subst Walked (sym (o.station ∙ reset_none st card c e)) w
    by true e = subst Walked (sym (o.station ∙ reset_some st card c e)) w

-- THE SUMMARY IS THE WALK OF THE BOOK
pub runs_walked : (cs : List Call) (st : Station) → Runs cs st → Walked st
runs_walked cs st fresh = fresh_walked
runs_walked cs st (offering card c epoch s ds before r run o) = offer_walked before card c epoch s r (runs_walked ds before run) o
runs_walked cs st (resetting card c ds before r run o) = reset_walked before card c r (runs_walked ds before run) o
