-- A fresh station is well made, and every call leaves it so (fresh-made, offer-made, reset-made); so is every station that calls leave (runs-made).
-- Assumes nothing.
use mathlib.Core.Path.{◌≡◌, refl, sym, ap, subst, ◌∙◌}
use mathlib.Core.Bool.{Bool, true, false}
use mathlib.Core.List.{List}
use Prim.Native.Nat.{ℕ, ◌<◌}
use native.Mathlib.Omega.{arith}
use borrow.Author.Tests.{eqb-true, eqb-false}
use lib.Dec.{eqb}
use lib.ListN.{length, get_or, set, length-set, length-replicate, get_or-replicate}
use lib.Seq.{get_or-set_same, get_or-set_other}
use Rattle.strings.specs.Pick.{pick}
use Rattle.book.specs.declared.Book.{Book}
use Rattle.book.proofs.Joins.{Full, empty_full}
use Rattle.summary.specs.declared.Summary.{Summary}
use Rattle.channel.specs.declared.Row.{Row}
use Rattle.channel.specs.Row.{frame_of, empty_row}
use Rattle.channel.specs.Offers.{offered_row, stores_it}
use Rattle.shows.specs.Shows.{shows_of, brought}
use Rattle.channel.proofs.HeldFrame.{offered_long}
use Rattle.station.specs.declared.Station.{Station}
use Rattle.station.specs.declared.Stepped.{Stepped}
use Rattle.station.specs.declared.Emptied.{Emptied}
use Rattle.station.specs.Station.{channels, fresh_station, no_row, row_at, is_served, book_after, summary_after, OffersTo, Resets}
use Rattle.station.specs.History.{Call, Runs, fresh, offering, resetting}
use Rattle.station.specs.Demand1.{WellMade}
use Rattle.station.proofs.Served.{served_below}
use Rattle.station.proofs.ChannelRuns.{after_none, after_some, reset_none, reset_some}
use Rattle.station.proofs.Holding.{brought_full}

-- A FRESH STATION IS WELL MADE, AND EVERY CALL LEAVES IT SO
fresh_made : WellMade fresh_station
unfolding fresh_station empty_row
fresh_made =
    record {
      rows = length-replicate channels empty_row;
      strings = λ c e. ap (λ (x : Row). length x.strings) (get_or-replicate channels c empty_row no_row e) ∙ length-replicate {A = ℕ} 165 0;
      entries = empty_full;
    }

-- one row put back, a book and a summary
put_made : (st : Station) (c : ℕ) (row : Row) (b : Book) (z : Summary) → WellMade st → c < channels → length row.strings ≡ 165 → Full b
    → WellMade (record { rows = set st.rows c row; book = b; summary = z })
put_made st c row b z w there l f =
    record { rows = length-set st.rows c row ∙ w.rows; strings = λ k d. by k d (eqb k c) refl; entries = f }
  where
    by : (k : ℕ) → k < channels → (t : Bool) → eqb k c ≡ t → length (get_or (set st.rows c row) k no_row).strings ≡ 165
    by k d true q =
        rw (eqb-true k c q) (ap (λ (x : Row). length x.strings) (get_or-set_same st.rows c row no_row (omega (arith, there, w.rows))) ∙ l)
    by k d false q = ap (λ (x : Row). length x.strings) (get_or-set_other st.rows c k row no_row (eqb-false k c q)) ∙ w.strings k d

pub offer_made : (st : Station) (card c epoch : ℕ) (s : List ℕ) (r : Stepped) → WellMade st → OffersTo st card c epoch s r → WellMade r.station
offer_made st card c epoch s r w o = by (is_served card c) refl
  where
    book : (t : Bool) → Full (pick t (brought st.book (shows_of (frame_of (offered_row (row_at st c) epoch s)))) st.book)
    book true = brought_full (shows_of (frame_of (offered_row (row_at st c) epoch s))) st.book w.entries
    book false = w.entries

    by : (t : Bool) → is_served card c ≡ t → WellMade r.station
    by false e = subst WellMade (sym (o.station ∙ after_none st card c epoch s e)) w
    by true e =
        subst WellMade (sym (o.station ∙ after_some st card c epoch s e))
        (put_made st c (offered_row (row_at st c) epoch s) (book_after st.book (row_at st c) epoch s) (summary_after st.summary st.book (row_at st c) epoch s) w (served_below card c e)
        (offered_long (row_at st c) epoch s (w.strings c (served_below card c e)))
        (book (stores_it (frame_of (row_at st c)) epoch s)))

pub reset_made : (st : Station) (card c : ℕ) (r : Emptied) → WellMade st → Resets st card c r → WellMade r.station
unfolding empty_row
reset_made st card c r w o = by (is_served card c) refl
  where
    by : (t : Bool) → is_served card c ≡ t → WellMade r.station
    by false e = subst WellMade (sym (o.station ∙ reset_none st card c e)) w
    by true e = subst WellMade (sym (o.station ∙ reset_some st card c e)) (put_made st c empty_row st.book st.summary w (served_below card c e) (length-replicate {A = ℕ} 165 0) w.entries)

-- so is every station that calls leave
pub runs_made : (cs : List Call) (st : Station) → Runs cs st → WellMade st
runs_made cs st fresh = fresh_made
runs_made cs st (offering card c epoch s ds before r run o) = offer_made before card c epoch s r (runs_made ds before run) o
runs_made cs st (resetting card c ds before r run o) = reset_made before card c r (runs_made ds before run) o
