-- A join may be exchanged with a call and with another join (site-laws). What is shown, brought to a joined book, is the book that it was brought to, joined
-- (brought-joined); the summary is the walk on both sides, so equal books have equal summaries.
-- Assumes nothing.
use mathlib.Core.Path.{◌≡◌, refl, sym, ap, ◌∙◌}
use mathlib.Core.Bool.{Bool, true, false}
use mathlib.Core.List.{List, [], ◌∷◌}
use Prim.Native.Nat.{ℕ, ◌+◌, ◌≤◌}
use native.Mathlib.Omega.{arith}
use borrow.Author.Tests.{eqb-true, eqb-false}
use lib.Dec.{eqb}
use Rattle.strings.specs.Pick.{pick}
use Rattle.std.specs.Prelude.{Option, Some, None}
use Rattle.strings.proofs.Answer.{written_same}
use Rattle.book.specs.declared.Entry.{Entry}
use Rattle.book.specs.declared.Book.{Book}
use Rattle.book.specs.Entry.{greater, Fits}
use Rattle.book.specs.Shows.{shown_by}
use Rattle.book.specs.Book.{slots, in_slot, joined_shown, InBook, IsBook}
use Rattle.book.proofs.Order.{greater_swap}
use Rattle.book.proofs.Joins.{Full, Fitting, shown_nothing, shown_slot, shown_other, shown_full, shown_fitting}
use Rattle.summary.specs.Walk.{walk_of}
use Rattle.channel.specs.declared.Row.{Row}
use Rattle.channel.specs.Frame.{Frame}
use Rattle.channel.specs.Row.{frame_of}
use Rattle.channel.specs.Offers.{offered_row, stores_it}
use Rattle.channel.proofs.Answers.{answer_same}
use Rattle.shows.specs.Shows.{has_pair, shown_at, shows_of, brought}
use Rattle.shows.proofs.Shows.{in_book}
use Rattle.station.specs.declared.Station.{Station}
use Rattle.station.specs.Station.{row_at, is_served, book_after, station_after, station_reset}
use Rattle.station.proofs.AfterOffer.{same_station}
use Rattle.station.proofs.ChannelRuns.{after_none, after_some, reset_none, reset_some}
use Rattle.station.proofs.EveryHistory.{offer_answers}
use Rattle.station.proofs.Walked.{Walked, offer_walked}
use Rattle.sites.specs.Joining.{join_books, site_joined}
use Rattle.sites.specs.Exchanged.{CallAndJoin, SiteLaws}
use Rattle.sites.proofs.Slots.{same_slots, joined_long, slot_is}
use Rattle.sites.proofs.Laws.{order, grouping, itself}

-- ---- the joined station
pub joined_walked : (st : Station) (other : Book) → Walked (site_joined st other)
unfolding site_joined
joined_walked st other = refl

pub grouped : (st : Station) (a b : Book) → site_joined (site_joined st a) b ≡ site_joined st (join_books a b)
unfolding site_joined
grouped st a b = ap (λ (x : Book). record { rows = st.rows; book = x; summary = walk_of x.entries }) (grouping st.book a b)

-- ---- what is shown, brought to a joined book
pub fitting_at : (f : Frame) (p : ℕ) → Fitting (shown_at f p)
fitting_at f p = by (has_pair f p)
  where
    by : (t : Bool) → Fitting (pick t (shown_by (f.text 5) (f.text p) (f.text (p + 1))) None)
    by true = shown_fitting (f.text 5) (f.text p) (f.text (p + 1))
    by false = λ k e q. let z : ◌≡◌ {A = ℕ} 0 1 = cc in absurd (omega arith)

abbrev AllSound : List (Option (ℕ × Entry)) → Type 0
AllSound [] = Unit
AllSound (s ∷ ss) = (InBook s × Fitting s) × AllSound ss

all_sound : (f : Frame) → AllSound (shows_of f)
all_sound f = (at 6, (at 8, (at 10, (at 12, (at 14, tt)))))
  where
    at : (p : ℕ) → InBook (shown_at f p) × Fitting (shown_at f p)
    at p = (in_book f p, fitting_at f p)

module _ (b o : Book) (full : Full b) (w : IsBook o) where
  -- one entry, for its slot and for every other
  entry_joined : (j : ℕ) (e : Entry) → 1 ≤ j → j ≤ slots → Fits e → joined_shown (join_books b o) (Some (j, e)) ≡ join_books (joined_shown b (Some (j, e))) o
  entry_joined j e least most f =
      same_slots (joined_shown (join_books b o) (Some (j, e))) (join_books (joined_shown b (Some (j, e))) o) (shown_full (join_books b o) (Some (j, e)) (joined_long b o))
      (joined_long (joined_shown b (Some (j, e))) o) (λ k l m. by k l m (eqb k j) refl)
    where
      by : (k : ℕ) → 1 ≤ k → k ≤ slots → (t : Bool) → eqb k j ≡ t → in_slot (joined_shown (join_books b o) (Some (j, e))) k ≡ in_slot (join_books (joined_shown b (Some (j, e))) o) k
      by k l m true q =
          rw (eqb-true k j q)
          (shown_slot (join_books b o) j e (joined_long b o) least most
          ∙ ap (λ (x : Entry). greater x e) (slot_is b o j least most)
          ∙ greater_swap (in_slot b j) (in_slot o j) e (w.widths j least most) f
          ∙ ap (λ (x : Entry). greater x (in_slot o j)) (sym (shown_slot b j e full least most))
          ∙ sym (slot_is (joined_shown b (Some (j, e))) o j least most))
      by k l m false q =
          let n = eqb-false k j q in
          shown_other (join_books b o) j e k least l n
          ∙ slot_is b o k l m
          ∙ ap (λ (x : Entry). greater x (in_slot o k)) (sym (shown_other b j e k least l n))
          ∙ sym (slot_is (joined_shown b (Some (j, e))) o k l m)

  shown_joined : (s : Option (ℕ × Entry)) → InBook s → Fitting s → joined_shown (join_books b o) s ≡ join_books (joined_shown b s) o
  shown_joined None i f = shown_nothing (join_books b o) ∙ ap (λ (x : Book). join_books x o) (sym (shown_nothing b))
  shown_joined (Some (j, e)) i f = entry_joined j e i.0 i.1 (f j e refl)

brought_joined : (ss : List (Option (ℕ × Entry))) (b o : Book) → AllSound ss → Full b → IsBook o → brought (join_books b o) ss ≡ join_books (brought b ss) o
unfolding brought
brought_joined [] b o a full w = refl
brought_joined (s ∷ ss) b o a full w =
    ap (λ (x : Book). brought x ss) (shown_joined b o full w s a.0.0 a.0.1)
    ∙ brought_joined ss (joined_shown b s) o a.1 (shown_full b s full) w

after_joined : (b o : Book) (row : Row) (epoch : ℕ) (s : List ℕ) → Full b → IsBook o → book_after (join_books b o) row epoch s ≡ join_books (book_after b row epoch s) o
after_joined b o row epoch s full w = by (stores_it (frame_of row) epoch s)
  where
    f : Frame
    f = frame_of (offered_row row epoch s)

    by : (t : Bool) → pick t (brought (join_books b o) (shows_of f)) (join_books b o) ≡ join_books (pick t (brought b (shows_of f)) b) o
    by true = brought_joined (shows_of f) b o (all_sound f) full w
    by false = refl

-- ---- a call
-- two stations with the same rows and books, each with its walk
pub alike : (x y : Station) → x.rows ≡ y.rows → x.book ≡ y.book → Walked x → Walked y → x ≡ y
alike x y rows book v u = same_station x y rows book (v ∙ ap (λ (b : Book). walk_of b.entries) book ∙ sym u)

module _ (st : Station) (other : Book) (full : Full st.book) (w : IsBook other) where
  pub offer_joined : (card c epoch : ℕ) (s : List ℕ) → station_after (site_joined st other) card c epoch s ≡ site_joined (station_after st card c epoch s) other
  unfolding site_joined
  offer_joined card c epoch s = by (is_served card c) refl
    where
      x : Station
      x = station_after (site_joined st other) card c epoch s

      by : (t : Bool) → is_served card c ≡ t → x ≡ site_joined (station_after st card c epoch s) other
      by false e = after_none (site_joined st other) card c epoch s e ∙ ap (λ (y : Station). site_joined y other) (sym (after_none st card c epoch s e))
      by true e =
          let p = after_some (site_joined st other) card c epoch s e in
          let q = after_some st card c epoch s e in
          alike x (site_joined (station_after st card c epoch s) other)
          (ap (λ (y : Station). y.rows) p ∙ sym (ap (λ (y : Station). y.rows) q))
          (ap (λ (y : Station). y.book) p ∙ after_joined st.book other (row_at st c) epoch s full w ∙ sym (ap (λ (y : Station). join_books y.book other) q))
          (offer_walked (site_joined st other) card c epoch s _ (joined_walked st other) (offer_answers (site_joined st other) card c epoch s))
          (joined_walked (station_after st card c epoch s) other)

  pub reset_joined : (card c : ℕ) → station_reset (site_joined st other) card c ≡ site_joined (station_reset st card c) other
  unfolding site_joined
  reset_joined card c = by (is_served card c) refl
    where
      by : (t : Bool) → is_served card c ≡ t → station_reset (site_joined st other) card c ≡ site_joined (station_reset st card c) other
      by false e = reset_none (site_joined st other) card c e ∙ ap (λ (y : Station). site_joined y other) (sym (reset_none st card c e))
      by true e = reset_some (site_joined st other) card c e ∙ ap (λ (y : Station). site_joined y other) (sym (reset_some st card c e))

  call_and_join : CallAndJoin st other
  unfolding site_joined
  call_and_join =
      record {
        offer = λ card c epoch s r q a b. (
          answer_same q.answer r.answer (b.answer ∙ sym a.answer),
          b.station ∙ offer_joined card c epoch s ∙ ap (λ (y : Station). site_joined y other) (sym a.station),
        );
        reset = λ card c r q a b. (
          written_same q.answer r.answer (b.answer ∙ sym a.answer),
          b.station ∙ reset_joined card c ∙ ap (λ (y : Station). site_joined y other) (sym a.station),
        );
      }

pub site_laws : (st : Station) → SiteLaws st
unfolding site_joined
site_laws st =
    record {
      rows = λ other. refl;
      book = λ other. refl;
      walked = joined_walked st;
      joins = λ a b v w. grouped st a b ∙ ap (site_joined st) (order a b v w) ∙ sym (grouped st b a);
      grouped = grouped st;
      again = λ other w. grouped st other other ∙ ap (site_joined st) (itself other w);
      call = λ made other w. call_and_join st other made.entries w;
    }
