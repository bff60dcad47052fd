-- The summary over the calls (summary-rule). A slot for which something was shown is filled (shown-filled), and holds the greatest (held): so the days that
-- the book's lines hold are those of the greatest entries shown (to_held, from-held), and what the walk gives is said of what was shown.
-- Assumes nothing.
use mathlib.Core.Path.{◌≡◌, refl, sym, ap, subst, ◌∙◌}
use mathlib.Core.Bool.{Bool, true, false, not, true≢false}
use mathlib.Core.List.{List, [], ◌∷◌}
use mathlib.Core.Logic.{◌↔◌}
use Prim.Native.Nat.{ℕ, suc, ◌-◌, ◌≤◌, ◌<◌}
use native.Mathlib.Omega.{arith}
use borrow.Author.Tests.{eqb-false, ne_eqb}
use lib.Dec.{eqb, eqb→eq}
use lib.ListN.{length, get_or}
use Rattle.strings.specs.Pick.{pick}
use Rattle.strings.specs.Table413.{◌to◌}
use Rattle.strings.proofs.Below.{below_at}
use Rattle.book.specs.declared.Entry.{Entry}
use Rattle.book.specs.Entry.{Three, blank, meaning}
use Rattle.book.specs.Book.{slots, in_slot, InBook}
use Rattle.book.proofs.Order.{below_same}
use Rattle.summary.specs.Means.{filled, Holds, Means}
use Rattle.summary.proofs.Means.{walk_means}
use Rattle.shows.proofs.Shows.{in_book}
use Rattle.channel.specs.History.{held_after}
use Rattle.station.specs.declared.Station.{Station}
use Rattle.station.specs.Queries.{is_empty}
use Rattle.station.specs.History.{Call, ShownIn, Greatest, Runs}
use Rattle.station.specs.Summary.{SomeShown, DayShown, how_many_of, SummaryRule}
use Rattle.station.proofs.BookRule.{empty_exactly, greatest_there, book_full}
use Rattle.station.proofs.Walked.{runs_walked}

-- ---- the filled lines, counted by a test of their slots
filled_count : (es : List Entry) (ks : List ℕ) (so : ℕ → Bool) → length es ≡ length ks
    → ((i : ℕ) → i < length es → so (get_or ks i 0) ≡ not (eqb (get_or es i blank).day 0)) → length (filled es) ≡ how_many_of so ks
filled_count [] [] so e h = refl
filled_count [] (k ∷ ks) so e h = absurd (omega arith)
filled_count (x ∷ es) [] so e h = absurd (omega arith)
filled_count (x ∷ es) (k ∷ ks) so e h = by (eqb x.day 0) (so k) (h 0 (omega arith)) (filled_count es ks so (omega arith) (λ i l. h (suc i) (omega arith)))
  where
    by : (t u : Bool) → u ≡ not t → length (filled es) ≡ how_many_of so ks → length (pick t (filled es) (x ∷ filled es)) ≡ pick u (suc (how_many_of so ks)) (how_many_of so ks)
    by true true q ih = absurd (true≢false q)
    by true false q ih = ih
    by false true q ih = ap suc ih
    by false false q ih = absurd (true≢false (sym q))

-- the slots in turn
slot_at : (i : ℕ) → i < slots → get_or (1 to slots) i 0 ≡ suc i
slot_at i h = eqb→eq _ (suc i) (below_at slots (λ k. eqb (get_or (1 to slots) k 0) (suc k)) tt i h)

-- ---- a station that calls leave
module _ (cs : List Call) (st : Station) (history : Runs cs st) where
  abbrev lines : List Entry
  lines = st.book.entries

  -- what is shown is for a slot of the book
  in_slots : (k : ℕ) (t : Three) → ShownIn cs k t → (1 ≤ k) × (k ≤ slots)
  in_slots k t w = subst InBook w.shows (in_book (held_after w.moment) w.pair)

  pub shown_filled : (k : ℕ) (t : Three) → ShownIn cs k t → (in_slot st.book k).day ≡ 0 → ⊥
  shown_filled k t w z = let i = in_slots k t w in (empty_exactly cs st history k i.0 i.1).0 z t w

  -- the slot holds the greatest
  pub held : (k : ℕ) (t : Three) → Greatest cs k t → meaning (in_slot st.book k) ≡ t
  held k t g =
      let i = in_slots k t g.shown in
      let x = meaning (in_slot st.book k) in
      let h = greatest_there cs st history k i.0 i.1 (shown_filled k t g.shown) in
      below_same x t (h.none_above t g.shown) (g.none_above x h.shown)

  -- the days that the lines hold
  to_held : (day : ℕ) → DayShown cs day → Holds lines day
  to_held day w =
      let k = w.slot in
      let i = in_slots k w.three w.greatest.shown in
      let d : (in_slot st.book k).day ≡ day = ap (λ (t : Three). t.day) (held k w.three w.greatest) ∙ w.its_day in
      record {
        line = k - 1;
        there = omega (arith, book_full cs st history, i.0, i.1);
        day = d;
        entry = λ z. shown_filled k w.three w.greatest.shown (d ∙ z);
      }

  from_held : (day : ℕ) → Holds lines day → DayShown cs day
  from_held day h =
      let k = suc h.line in
      let e : k - 1 ≡ h.line = omega arith in
      let d : (in_slot st.book k).day ≡ day = ap (λ (i : ℕ). (get_or lines i blank).day) e ∙ h.day in
      record {
        slot = k;
        three = meaning (in_slot st.book k);
        greatest = greatest_there cs st history k (omega arith) (omega (arith, book_full cs st history, h.there)) (λ z. h.entry (sym d ∙ z));
        its_day = d;
      }

  -- whether something was shown for a slot
  abbrev is_shown : ℕ → Bool
  is_shown k = not (is_empty st.book k)

  tells : (k : ℕ) → 1 ≤ k → k ≤ slots → (is_shown k ≡ true) ↔ SomeShown cs k
  tells k least most = ((λ q. by (is_empty st.book k) refl q), (λ (w : SomeShown cs k). ap not (ne_eqb (in_slot st.book k).day 0 (shown_filled k w.three w.shown))))
    where
      by : (t : Bool) → is_empty st.book k ≡ t → not t ≡ true → SomeShown cs k
      by true e q = absurd (true≢false (sym q))
      by false e q =
          let g = greatest_there cs st history k least most (eqb-false (in_slot st.book k).day 0 e) in
          record { three = meaning (in_slot st.book k); shown = g.shown }

  counted : length (filled lines) ≡ how_many_of is_shown (1 to slots)
  counted =
      let f = book_full cs st history in
      filled_count lines (1 to slots) is_shown f
      (λ i l.
      let e : suc i - 1 ≡ i = omega arith in
      ap is_shown (slot_at i (omega (arith, f, l))) ∙ ap (λ (j : ℕ). not (eqb (get_or lines j blank).day 0)) e)

  -- WHAT THE SUMMARY SAYS OF THE CALLS
  pub summary_rule : SummaryRule cs st
  summary_rule =
      let w = runs_walked cs st history in
      let m : Means lines st.summary = subst (Means lines) (sym w) (walk_means.means lines) in
      record {
        walked = w;
        is_shown_lem = is_shown;
        tells = tells;
        count = m.count ∙ counted;
        oldest_there = λ day d. from_held st.summary.oldest (m.oldest_there day (to_held day d));
        oldest_first = λ day d. m.oldest_first day (to_held day d);
        newest_there = λ day d. from_held st.summary.newest (m.newest_there day (to_held day d));
        newest_last = λ day d. m.newest_last day (to_held day d);
        empty = λ n. m.empty (λ day h. let d = from_held day h in n d.slot (record { three = d.three; shown = d.greatest.shown }));
      }
