-- After joins: a site's station is that of its own calls with all books that came to it joined in (lived-is), so its slots hold the greatest of what was shown
-- in its life and in those joined into it (life-holds, every-life). Lives with the same calls of their own and the same entries shown leave the same station
-- (same-lives): all of `life_laws` follows from which lives are within which.
-- Assumes nothing.
use mathlib.Core.Path.{◌≡◌, refl, sym, ap, subst, ◌∙◌}
use mathlib.Core.List.{List, [], ◌∷◌}
use mathlib.Core.Logic.{◌⊎◌, inl, inr, ⊎_elim, ◌↔◌}
use Prim.Native.Nat.{ℕ, ◌≤◌}
use native.Mathlib.Omega.{arith}
use Rattle.book.specs.declared.Entry.{Entry}
use Rattle.book.specs.declared.Book.{Book}
use Rattle.book.specs.Entry.{Three, meaning, entry_of, blank, Fits}
use Rattle.book.specs.Book.{slots, in_slot, empty_book, IsBook}
use Rattle.book.proofs.Order.{blank_fits}
use Rattle.book.proofs.Joins.{empty_slot}
use Rattle.wire.proofs.Laws.{laws as wire-laws}
use Rattle.summary.specs.Walk.{walk_of}
use Rattle.summary.proofs.EmptyBook.{walk_empty}
use Rattle.channel.specs.History.{held_after}
use Rattle.station.specs.declared.Station.{Station}
use Rattle.station.specs.Station.{fresh_station, station_after, station_reset}
use Rattle.station.specs.History.{Call, Offer, Reset, ShownIn, Runs, station_of, fresh as fresh-run, offering as offering-run, resetting as resetting-run}
use Rattle.station.specs.Demand3.{BookRule}
use Rattle.station.proofs.AfterOffer.{same_station}
use Rattle.station.proofs.EveryHistory.{every_history}
use Rattle.station.proofs.Holding.{Dated, Holding, holding_same, held_once}
use Rattle.station.proofs.BookRule.{slot_holds, book_full, shown_kept}
use Rattle.station.proofs.Walked.{Walked}
use Rattle.sites.specs.Joining.{join_books, site_joined}
use Rattle.sites.specs.Lives.{Life, Fresh, Then, Joined, own_calls, Lived, fresh, offering, resetting, joining, Within, itself, before, kept, joined, ShownTo, LifeRule, EveryLife, SameStation, life_of, LifeLaws}
use Rattle.sites.proofs.Slots.{same_slots, slot_is}
use Rattle.sites.proofs.Laws.{is_joined, is_empty_lem, itself as joined-itself}
use Rattle.sites.proofs.Exchanges.{grouped, fitting_at, alike, offer_joined, reset_joined, joined_walked}
use Rattle.sites.proofs.Union.{holding_both}

-- ---- what came to a life by joins: all books joined into it, in one
unfoldable foreign : Life → Book
foreign Fresh = empty_book
foreign (Then call l) = foreign l
foreign (Joined l m) = join_books (foreign l) (join_books (station_of (own_calls m)).book (foreign m))

-- its own station, by its own calls
abbrev own : Life → Station
own l = station_of (own_calls l)

abbrev life_book : Life → Book
life_book l = join_books (own l).book (foreign l)

-- a slot holds what has the widths of its fields
shown_widths : (cs : List Call) (k : ℕ) (e : Entry) → ShownIn cs k (meaning e) → entry_of (meaning e) ≡ e → Fits e
shown_widths cs k e w told = subst Fits told (fitting_at (held_after w.moment) w.pair k (entry_of (meaning e)) w.shows)

calls_book : (cs : List Call) → IsBook (station_of cs).book
calls_book cs = record { long = book_full cs (station_of cs) (every_history cs); widths = λ k l m. by k (slot_holds cs (station_of cs) (every_history cs) k l m) }
  where
    by : (k : ℕ) → Holding (ShownIn cs k) (in_slot (station_of cs).book k) → Fits (in_slot (station_of cs).book k)
    by k h =
        let e = in_slot (station_of cs).book k in
        ⊎_elim (λ (w : ShownIn cs k (meaning e) × Dated e). shown_widths cs k e w.0 w.1.1)
        (λ (w : (e ≡ blank) × ((u : Three) → ShownIn cs k u → ⊥)). subst Fits (sym w.0) blank_fits) h.one

foreign_book : (l : Life) → IsBook (foreign l)
unfolding foreign
foreign_book Fresh = is_empty_lem
foreign_book (Then call l) = foreign_book l
foreign_book (Joined l m) =
    is_joined (foreign l) (life_book m) (foreign_book l) (is_joined (own m).book (foreign m) (calls_book (own_calls m)) (foreign_book m))

-- THE STATION IS THAT OF ITS OWN CALLS, WITH THESE JOINED IN
fresh_is : fresh_station ≡ site_joined fresh_station empty_book
unfolding site_joined fresh_station
fresh_is = let e = joined-itself empty_book is_empty_lem in same_station fresh_station (site_joined fresh_station empty_book) refl (sym e) (sym (ap (λ (b : Book). walk_of b.entries) e ∙ walk_empty))

joined_book : (n : Life) (x : Station) → x ≡ site_joined (own n) (foreign n) → x.book ≡ life_book n
unfolding site_joined
joined_book n x e = ap (λ (y : Station). y.book) e

lived_is : (l : Life) (st : Station) → Lived l st → st ≡ site_joined (own l) (foreign l)
unfolding foreign station_of
lived_is l st fresh = fresh_is
lived_is l st (offering card c epoch s m was r lived o) =
    o.station ∙ ap (λ (x : Station). station_after x card c epoch s) (lived_is m was lived)
    ∙ offer_joined (own m) (foreign m) (calls_book (own_calls m)).long (foreign_book m) card c epoch s
lived_is l st (resetting card c m was r lived o) =
    o.station ∙ ap (λ (x : Station). station_reset x card c) (lived_is m was lived)
    ∙ reset_joined (own m) (foreign m) (calls_book (own_calls m)).long (foreign_book m) card c
lived_is l st (joining m n was other lived theirs) =
    ap (λ (x : Station). site_joined x other.book) (lived_is m was lived)
    ∙ ap (site_joined (site_joined (own m) (foreign m))) (joined_book n other (lived_is n other theirs))
    ∙ grouped (own m) (foreign m) (life_book n)

-- ---- what was shown: by its own calls, or in a life that came to it
abbrev ShownForeign : Life → ℕ → Three → Type 0
ShownForeign Fresh k u = ⊥
ShownForeign (Then call l) k u = ShownForeign l k u
ShownForeign (Joined l m) k u = ShownForeign l k u ⊎ ShownTo m k u

module _ (k : ℕ) (u : Three) where
  within_split : (part l : Life) → Within part l → ShownIn (own_calls part) k u → ShownIn (own_calls l) k u ⊎ ShownForeign l k u
  within_split part l (itself m) w = inl w
  within_split part l (before call m p i) w = ⊎_elim (λ (o : ShownIn (own_calls m) k u). inl (shown_kept call (own_calls m) k u o)) inr (within_split p m i w)
  within_split part l (kept m n p i) w = ⊎_elim inl (λ (f : ShownForeign m k u). inr (inl f)) (within_split p m i w)
  within_split part l (joined m n p i) w = inr (inr (record { life = p; within = i; shown = w }))

  foreign_shown : (l : Life) → ShownForeign l k u → ShownTo l k u
  foreign_shown Fresh f = absurd f
  foreign_shown (Then call l) f = let w = foreign_shown l f in record { life = w.life; within = before call l w.life w.within; shown = w.shown }
  foreign_shown (Joined l m) f =
      ⊎_elim (λ (g : ShownForeign l k u). let w = foreign_shown l g in record { life = w.life; within = kept l m w.life w.within; shown = w.shown })
      (λ (w : ShownTo m k u). record { life = w.life; within = joined l m w.life w.within; shown = w.shown }) f

module _ (k : ℕ) (least : 1 ≤ k) (most : k ≤ slots) where
  from_foreign : (l : Life) → Holding (ShownForeign l k) (in_slot (foreign l) k) → Holding (ShownTo l k) (in_slot (life_book l) k)
  from_foreign l h =
      subst (Holding (ShownTo l k)) (sym (slot_is (own l).book (foreign l) k least most))
      (holding_same (λ u. ShownIn (own_calls l) k u ⊎ ShownForeign l k u) (ShownTo l k) _
      (λ u. ⊎_elim (λ (w : ShownIn (own_calls l) k u). record { life = l; within = itself l; shown = w }) (foreign_shown k u l))
      (λ u w. within_split k u w.life l w.within w.shown)
      (holding_both (ShownIn (own_calls l) k) (ShownForeign l k) (in_slot (own l).book k) (in_slot (foreign l) k)
      (slot_holds (own_calls l) (own l) (every_history (own_calls l)) k least most) h))

  foreign_holds : (l : Life) → Holding (ShownForeign l k) (in_slot (foreign l) k)
  unfolding foreign
  foreign_holds Fresh = record { above = λ u f. absurd f; one = inr (empty_slot k, λ u f. f) }
  foreign_holds (Then call l) = foreign_holds l
  foreign_holds (Joined l m) =
      subst (Holding (ShownForeign (Joined l m) k)) (sym (slot_is (foreign l) (life_book m) k least most))
      (holding_both (ShownForeign l k) (ShownTo m k) (in_slot (foreign l) k) (in_slot (life_book m) k) (foreign_holds l) (from_foreign m (foreign_holds m)))

-- ---- a life's station
module _ (l : Life) (st : Station) (lived : Lived l st) where
  is : st ≡ site_joined (own l) (foreign l)
  is = lived_is l st lived

  book_is : st.book ≡ life_book l
  book_is = joined_book l st is

  rows_are : st.rows ≡ (own l).rows
  unfolding site_joined
  rows_are = ap (λ (x : Station). x.rows) is

  walked : Walked st
  walked = subst Walked (sym is) (joined_walked (own l) (foreign l))

  -- A SLOT HOLDS THE GREATEST ENTRY SHOWN IN ITS LIFE OR IN ANY LIFE JOINED INTO IT
  life_holds : (k : ℕ) → 1 ≤ k → k ≤ slots → Holding (ShownTo l k) (in_slot st.book k)
  life_holds k a b = subst (λ (x : Book). Holding (ShownTo l k) (in_slot x k)) (sym book_is) (from_foreign k a b l (foreign_holds k a b l))

  life_rule : (k : ℕ) → 1 ≤ k → k ≤ slots → LifeRule l st k
  life_rule k a b =
      let e = in_slot st.book k in
      let h = life_holds k a b in
      ⊎_elim
      (λ (w : ShownTo l k (meaning e) × Dated e).
      record {
        greatest = λ n. record { shown = w.0; none_above = h.above };
        empty = ((λ (z : e.day ≡ 0) u s. absurd (omega (arith, w.1.0, z))), (λ n. absurd (n (meaning e) w.0)));
      })
      (λ (w : (e ≡ blank) × ((u : Three) → ShownTo l k u → ⊥)).
      let z : e.day ≡ 0 = ap (λ (x : Entry). x.day) w.0 in
      record { greatest = λ n. absurd (n z); empty = ((λ q. w.1), (λ n. z)) })
      h.one

pub every_life : EveryLife
every_life l st lived =
    let b : IsBook st.book = subst IsBook (sym (book_is l st lived)) (is_joined (own l).book (foreign l) (calls_book (own_calls l)) (foreign_book l)) in
    record {
      book = life_rule l st lived;
      summary = walked l st lived;
      rows = rows_are l st lived;
      is_book = b;
      sent = wire-laws.back st.book b;
      only = λ other theirs. lived_is l other theirs ∙ sym (lived_is l st lived);
    }

-- ---- lives with the same calls of their own, and the same entries shown
same_lives : (l m : Life) → own_calls l ≡ own_calls m → ((k : ℕ) (u : Three) → ShownTo l k u → ShownTo m k u) → ((k : ℕ) (u : Three) → ShownTo m k u → ShownTo l k u)
    → SameStation l m
same_lives l m calls to from st st' p q =
    let a = every_life l st p in
    let b = every_life m st' q in
    alike st st' (a.rows ∙ ap (λ (cs : List Call). (station_of cs).rows) calls ∙ sym b.rows)
    (same_slots st.book st'.book a.is_book.long b.is_book.long
    (λ k i j. held_once (ShownTo l k) (ShownTo m k) (in_slot st.book k) (in_slot st'.book k) (to k) (from k) (life_holds l st p k i j) (life_holds m st' q k i j)))
    a.summary b.summary

-- a life within a life within a third
within_trans : (a b c : Life) → Within a b → Within b c → Within a c
within_trans a b c i (itself m) = i
within_trans a b c i (before call m p j) = before call m a (within_trans a p m i j)
within_trans a b c i (kept m n p j) = kept m n a (within_trans a p m i j)
within_trans a b c i (joined m n p j) = joined m n a (within_trans a p n i j)

-- ---- a join and a call
module _ (call : Call) (l m : Life) (k : ℕ) (u : Three) where
  -- shown in a life within the first, so in the second; and back
  to_call : (p : Life) → Within p (Then call (Joined l m)) → ShownIn (own_calls p) k u → ShownTo (Joined (Then call l) m) k u
  to_call p (itself n) w = record { life = Then call l; within = kept (Then call l) m (Then call l) (itself (Then call l)); shown = w }
  to_call p (before c n q i) w = by q i w
    where
      by : (q : Life) → Within q (Joined l m) → ShownIn (own_calls q) k u → ShownTo (Joined (Then call l) m) k u
      by q (itself n) w = record { life = l; within = kept (Then call l) m l (before call l l (itself l)); shown = w }
      by q (kept a b r i) w = record { life = r; within = kept (Then call l) m r (before call l r i); shown = w }
      by q (joined a b r i) w = record { life = r; within = joined (Then call l) m r i; shown = w }

  from_call : (p : Life) → Within p (Joined (Then call l) m) → ShownIn (own_calls p) k u → ShownTo (Then call (Joined l m)) k u
  from_call p (itself n) w = record { life = Then call (Joined l m); within = itself (Then call (Joined l m)); shown = w }
  from_call p (kept a b q i) w = by q i w
    where
      by : (q : Life) → Within q (Then call l) → ShownIn (own_calls q) k u → ShownTo (Then call (Joined l m)) k u
      by q (itself n) w = record { life = Then call (Joined l m); within = itself (Then call (Joined l m)); shown = w }
      by q (before c n r i) w = record { life = r; within = before call (Joined l m) r (kept l m r i); shown = w }
  from_call p (joined a b q i) w = record { life = q; within = before call (Joined l m) q (joined l m q i); shown = w }

-- ---- two joins
exchanged : (l m n : Life) (k : ℕ) (u : Three) (p : Life) → Within p (Joined (Joined l m) n) → ShownIn (own_calls p) k u → ShownTo (Joined (Joined l n) m) k u
exchanged l m n k u p (itself q) w = record { life = Joined (Joined l n) m; within = itself (Joined (Joined l n) m); shown = w }
exchanged l m n k u p (kept a b q i) w = by q i w
  where
    by : (q : Life) → Within q (Joined l m) → ShownIn (own_calls q) k u → ShownTo (Joined (Joined l n) m) k u
    by q (itself r) w = record { life = Joined (Joined l n) m; within = itself (Joined (Joined l n) m); shown = w }
    by q (kept c d r i) w = record { life = r; within = kept (Joined l n) m r (kept l n r i); shown = w }
    by q (joined c d r i) w = record { life = r; within = joined (Joined l n) m r i; shown = w }
exchanged l m n k u p (joined a b q i) w = record { life = q; within = kept (Joined l n) m q (joined l n q i); shown = w }

-- ---- a life joined that is within it
absorbed : (l part : Life) → Within part l → (k : ℕ) (u : Three) (p : Life) → Within p (Joined l part) → ShownIn (own_calls p) k u → ShownTo l k u
absorbed l part i k u p (itself q) w = record { life = l; within = itself l; shown = w }
absorbed l part i k u p (kept a b q j) w = record { life = q; within = j; shown = w }
absorbed l part i k u p (joined a b q j) w = record { life = q; within = within_trans q part l j i; shown = w }

-- ---- no join
own_of : (cs : List Call) → own_calls (life_of cs) ≡ cs
own_of [] = refl
own_of (call ∷ cs) = ap (λ (l : List Call). call ∷ l) (own_of cs)

to_runs : (cs : List Call) (st : Station) → Lived (life_of cs) st → Runs cs st
to_runs [] st fresh = fresh-run
to_runs (Offer card c epoch s ∷ cs) st (offering a b d t l was r lived o) = offering-run card c epoch s cs was r (to_runs cs was lived) o
to_runs (Reset card c ∷ cs) st (resetting a b l was r lived o) = resetting-run card c cs was r (to_runs cs was lived) o

from_runs : (cs : List Call) (st : Station) → Runs cs st → Lived (life_of cs) st
from_runs cs st fresh-run = fresh
from_runs cs st (offering-run card c epoch s ds was r run o) = offering card c epoch s (life_of ds) was r (from_runs ds was run) o
from_runs cs st (resetting-run card c ds was r run o) = resetting card c (life_of ds) was r (from_runs ds was run) o

shown_alone : (cs : List Call) (k : ℕ) (u : Three) (p : Life) → Within p (life_of cs) → ShownIn (own_calls p) k u → ShownIn cs k u
shown_alone [] k u p (itself m) w = w
shown_alone (call ∷ cs) k u p (itself m) w = subst (λ (l : List Call). ShownIn l k u) (own_of (call ∷ cs)) w
shown_alone (call ∷ cs) k u p (before c m q i) w = shown_kept call cs k u (shown_alone cs k u q i w)

same_shown : (cs : List Call) (k : ℕ) (u : Three) → ShownTo (life_of cs) k u ↔ ShownIn cs k u
same_shown cs k u = (
  (λ w. shown_alone cs k u w.life w.within w.shown),
  (λ w. record { life = life_of cs; within = itself (life_of cs); shown = subst (λ (l : List Call). ShownIn l k u) (sym (own_of cs)) w }),
)

same_rule : (cs : List Call) (st : Station) (k : ℕ) → LifeRule (life_of cs) st k → BookRule cs st k
same_rule cs st k r =
    record {
      greatest = λ n.
          let g = r.greatest n in
          record { shown = (same_shown cs k (meaning (in_slot st.book k))).0 g.shown; none_above = λ u w. g.none_above u ((same_shown cs k u).1 w) };
      empty = ((λ z u w. r.empty.0 z u ((same_shown cs k u).1 w)), (λ n. r.empty.1 (λ u w. n u ((same_shown cs k u).0 w))));
    }

pub life_laws : LifeLaws
life_laws =
    record {
      call_and_join = λ call l m. same_lives (Then call (Joined l m)) (Joined (Then call l) m) refl
          (λ k u w. to_call call l m k u w.life w.within w.shown) (λ k u w. from_call call l m k u w.life w.within w.shown);
      two_joins = λ l m n. same_lives (Joined (Joined l m) n) (Joined (Joined l n) m) refl
          (λ k u w. exchanged l m n k u w.life w.within w.shown) (λ k u w. exchanged l n m k u w.life w.within w.shown);
      nothing_new = λ l part i. same_lives (Joined l part) l refl
          (λ k u w. absorbed l part i k u w.life w.within w.shown)
          (λ k u w. record { life = w.life; within = kept l part w.life w.within; shown = w.shown });
      no_join = λ cs st. (to_runs cs st, from_runs cs st);
      same_shown = same_shown;
      same_rule = same_rule;
    }
