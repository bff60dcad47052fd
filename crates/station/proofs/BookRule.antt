-- The book's rule: after any calls, every slot holds the greatest entry shown so far by any channel, and is empty exactly when none was (greatest-there,
-- empty-exactly).
-- Assumes nothing.
use mathlib.Core.Path.{◌≡◌, refl, sym, ap, ap₂, subst, ◌∙◌}
use mathlib.Core.Bool.{Bool, true, false, not, ◌&&◌, ◌||◌, true≢false, false≢true}
use mathlib.Core.List.{List, [], ◌∷◌, map}
use mathlib.Core.Logic.{◌⊎◌, inl, inr, ⊎_elim, ◌↔◌}
use Prim.Native.Nat.{ℕ, ◌+◌, ◌≤◌}
use native.Mathlib.Omega.{arith}
use borrow.Author.Tests.{eq-eqb, eqb-true}
use lib.Dec.{eqb}
use Rattle.strings.specs.Pick.{pick, is_one_of}
use Rattle.std.specs.Prelude.{Option, Some, None}
use Rattle.strings.specs.Numbers.{first_of}
use Rattle.book.specs.declared.Entry.{Entry}
use Rattle.book.specs.declared.Book.{Book}
use Rattle.book.specs.Entry.{Three, meaning, entry_of, blank}
use Rattle.book.specs.Shows.{shown_by}
use Rattle.book.specs.Book.{slots, in_slot}
use Rattle.book.proofs.Order.{meaning_entry, entry_meaning}
use Rattle.book.proofs.Joins.{Full, empty_full, empty_slot, shown_fits}
use Rattle.channel.specs.Frame.{Frame, is_here, after_string}
use Rattle.channel.specs.Row.{frame_of}
use Rattle.hearing.specs.Hears.{whole_of}
use Rattle.channel.specs.Offers.{offer_tests, offered_row, stores_it}
use Rattle.shows.specs.Shows.{has_pair, shown_at, shows_of, brought}
use Rattle.channel.specs.History.{Call as OnChannel, Offer as OfferIt, frame_after, held_after}
use Rattle.channel.proofs.HeldFrame.{held_is, frame_after_lem, runs_long}
use Rattle.station.specs.declared.Station.{Station}
use Rattle.station.specs.declared.Stepped.{Stepped}
use Rattle.station.specs.declared.Emptied.{Emptied}
use Rattle.station.specs.Station.{fresh_station, row_at, is_served, book_after, OffersTo, Resets}
use Rattle.station.specs.History.{Call, Offer, Reset, card_of, channel_of, itself, is_let_in, is_on, calls_on, calls_by, Part, whole, earlier, pairs, ShownIn, Greatest, Runs, fresh, offering, resetting}
use Rattle.station.proofs.Served.{served_below}
use Rattle.station.proofs.ChannelRuns.{in_step, on_both, on_own, calls_same, calls_other, after_none, after_some, reset_none, reset_some}
use Rattle.station.proofs.Holding.{Dated, Holding, holding_same, InShows, Right, AllRight, brought_full, holding_brought}

-- ---- what a frame shows
-- the slot and the entry of what is shown
abbrev slot_of : Option (ℕ × Entry) → ℕ
slot_of None = 0
slot_of (Some (k, e)) = k

abbrev entry_in : Option (ℕ × Entry) → Entry
entry_in None = blank
entry_in (Some (k, e)) = e

-- at a pair: for a slot of the book, with a day, and told by its three numbers
record Sound (k : ℕ) (e : Entry) : Type 0 where
  least : 1 ≤ k
  most : k ≤ slots
  day : 1 ≤ e.day
  told : entry_of (meaning e) ≡ e

shown_sound : (f : Frame) (p k : ℕ) (e : Entry) → shown_at f p ≡ Some (k, e) → Sound k e
shown_sound f p k e = by (has_pair f p)
  where
    by : (t : Bool) → pick t (shown_by (f.text 5) (f.text p) (f.text (p + 1))) None ≡ Some (k, e) → Sound k e
    by true q =
        let r = shown_fits (f.text 5) (f.text p) (f.text (p + 1)) k e q in
        record { least = r.slot_least; most = r.slot_most; day = r.day_least; told = entry_meaning e r.fits }
    by false q = let z : ◌≡◌ {A = ℕ} 0 1 = cc in absurd (omega arith)

right_at : (f : Frame) (p : ℕ) → Right (shown_at f p)
right_at f p = by (shown_at f p) refl
  where
    by : (s : Option (ℕ × Entry)) → shown_at f p ≡ s → Right s
    by None q = tt
    by (Some (k, e)) q = let r = shown_sound f p k e q in (r.least, (r.most, (r.day, r.told)))

all_right : (f : Frame) → AllRight (shows_of f)
all_right f = (right_at f 6, (right_at f 8, (right_at f 10, (right_at f 12, (right_at f 14, tt)))))

-- at one of some pairs, and so among all that they show
shows_in : (f : Frame) (qs : List ℕ) (p k : ℕ) (e : Entry) → is_one_of qs p ≡ true → shown_at f p ≡ Some (k, e) → InShows k (meaning e) (map (shown_at f) qs)
shows_in f [] p k e n q = absurd (false≢true n)
shows_in f (x ∷ qs) p k e n q = by (eqb p x) (shown_at f x) refl refl n (λ m. shows_in f qs p k e m q)
  where
    by : (t : Bool) (s : Option (ℕ × Entry)) → eqb p x ≡ t → shown_at f x ≡ s → (t || is_one_of qs p) ≡ true
        → (is_one_of qs p ≡ true → InShows k (meaning e) (map (shown_at f) qs)) → InShows k (meaning e) (s ∷ map (shown_at f) qs)
    by true None a b m ih =
        let w : ◌≡◌ {A = Option (ℕ × Entry)} None (Some (k, e)) = sym b ∙ ap (shown_at f) (sym (eqb-true p x a)) ∙ q in
        let z : ◌≡◌ {A = ℕ} 0 1 = cc in absurd (omega arith)
    by true (Some (j, d)) a b m ih =
        let w : Some (j, d) ≡ Some (k, e) = sym b ∙ ap (shown_at f) (sym (eqb-true p x a)) ∙ q in
        inl (ap slot_of w, sym (ap (λ (s : Option (ℕ × Entry)). meaning (entry_in s)) w))
    by false None a b m ih = ih m
    by false (Some (j, d)) a b m ih = inr (ih m)

-- and back: a pair that shows it
record AtPair (f : Frame) (qs : List ℕ) (k : ℕ) (u : Three) : Type 0 where
  pair : ℕ
  named : is_one_of qs pair ≡ true
  shows : shown_at f pair ≡ Some (k, entry_of u)

in_pair : (f : Frame) (qs : List ℕ) (k : ℕ) (u : Three) → InShows k u (map (shown_at f) qs) → AtPair f qs k u
in_pair f [] k u i = absurd i
in_pair f (x ∷ qs) k u i = by (shown_at f x) refl i (in_pair f qs k u)
  where
    later : (a b : Bool) → b ≡ true → (a || b) ≡ true
    later true b e = refl
    later false b e = e

    more : AtPair f qs k u → AtPair f (x ∷ qs) k u
    more a = record { pair = a.pair; named = later (eqb a.pair x) (is_one_of qs a.pair) a.named; shows = a.shows }

    by : (s : Option (ℕ × Entry)) → shown_at f x ≡ s → InShows k u (s ∷ map (shown_at f) qs) → (InShows k u (map (shown_at f) qs) → AtPair f qs k u) → AtPair f (x ∷ qs) k u
    by None q i ih = more (ih i)
    by (Some (j, d)) q i ih =
        ⊎_elim
        (λ (m : (j ≡ k) × (u ≡ meaning d)).
        let told : d ≡ entry_of u = sym (ap entry_of m.1 ∙ (shown_sound f x j d q).told) in
        record { pair = x; named = ap (λ (t : Bool). t || is_one_of qs x) (eq-eqb x x refl); shows = q ∙ ap₂ (λ (y : ℕ) (e : Entry). Some (y, e)) m.0 told })
        (λ (r : InShows k u (map (shown_at f) qs)). more (ih r)) i

-- ---- what is shown after one call more: what was shown before, and what the channel's frame then shows
record Newly (call : Call) (cs : List Call) (k : ℕ) (u : Three) : Type 0 where
  served : is_let_in call ≡ true
  at : AtPair (held_after (itself call ∷ calls_on (channel_of call) cs)) pairs k u

part_split : (call : OnChannel) (l m : List OnChannel) → Part m (call ∷ l) → (m ≡ call ∷ l) ⊎ Part m l
part_split call l m (whole cs) = inl refl
part_split call l m (earlier n p cs q) = inr q

module _ (call : Call) (cs : List Call) (k : ℕ) (u : Three) where
  pub shown_kept : ShownIn cs k u → ShownIn (call ∷ cs) k u
  shown_kept w =
      record {
        card = w.card;
        channel = w.channel;
        served = w.served;
        moment = w.moment;
        within = by (is_on w.channel call) refl;
        pair = w.pair;
        named = w.named;
        shows = w.shows;
      }
    where
      by : (t : Bool) → is_on w.channel call ≡ t → Part w.moment (calls_on w.channel (call ∷ cs))
      by true q =
          subst (Part w.moment) (sym (calls_same w.channel call cs q)) (earlier (itself call) w.moment (calls_on w.channel cs) w.within)
      by false q = subst (Part w.moment) (sym (calls_other w.channel call cs q)) w.within

  shown_new : Newly call cs k u → ShownIn (call ∷ cs) k u
  shown_new n =
      let c = channel_of call in
      let m = itself call ∷ calls_on c cs in
      record {
        card = card_of call;
        channel = c;
        served = n.served;
        moment = m;
        within = subst (Part m) (sym (calls_same c call cs (on_own call n.served))) (whole m);
        pair = n.at.pair;
        named = n.at.named;
        shows = n.at.shows;
      }

  shown_split : ShownIn (call ∷ cs) k u → ShownIn cs k u ⊎ Newly call cs k u
  shown_split w = by (is_on w.channel call) refl
    where
      -- a moment before this call
      old : Part w.moment (calls_on w.channel cs) → ShownIn cs k u
      old p = record { card = w.card; channel = w.channel; served = w.served; moment = w.moment; within = p; pair = w.pair; named = w.named; shows = w.shows }

      -- this moment
      new : is_let_in call ≡ true → channel_of call ≡ w.channel → w.moment ≡ itself call ∷ calls_on w.channel cs → Newly call cs k u
      new let_in_lem q e =
          record {
            served = let_in_lem;
            at = record {
              pair = w.pair;
              named = w.named;
              shows = ap (λ (c : ℕ). shown_at (held_after (itself call ∷ calls_on c cs)) w.pair) q
                  ∙ ap (λ (m : List OnChannel). shown_at (held_after m) w.pair) (sym e) ∙ w.shows;
            };
          }

      by : (t : Bool) → is_on w.channel call ≡ t → ShownIn cs k u ⊎ Newly call cs k u
      by true q =
          ⊎_elim (λ e. let b = on_both call w.channel q in inr (new b.0 b.1 e)) (λ (p : Part w.moment (calls_on w.channel cs)). inl (old p))
          (part_split (itself call) (calls_on w.channel cs) w.moment (subst (Part w.moment) (calls_same w.channel call cs q) w.within))
      by false q = inl (old (subst (Part w.moment) (calls_other w.channel call cs q) w.within))

-- ---- the slot after a call
-- nothing new is shown
holding_quiet : (call : Call) (cs : List Call) (k : ℕ) (x : Entry) → ((u : Three) → Newly call cs k u → ShownIn cs k u)
    → Holding (ShownIn cs k) x → Holding (ShownIn (call ∷ cs) k) x
holding_quiet call cs k x q h =
    holding_same (ShownIn cs k) (ShownIn (call ∷ cs) k) x (λ u. shown_kept call cs k u)
    (λ u w. ⊎_elim (λ (o : ShownIn cs k u). o) (λ (n : Newly call cs k u). q u n) (shown_split call cs k u w)) h

-- a call that is not let in shows nothing
quiet_none : (call : Call) (cs : List Call) (k : ℕ) → is_let_in call ≡ false → (u : Three) → Newly call cs k u → ShownIn cs k u
quiet_none call cs k e u n = absurd (true≢false (sym n.served ∙ e))

-- nor does a reset
quiet_reset : (card c : ℕ) (cs : List Call) (k : ℕ) (u : Three) → Newly (Reset card c) cs k u → ShownIn cs k u
unfolding held_after
quiet_reset card c cs k u n = let q = n.at.shows in let z : ◌≡◌ {A = ℕ} 0 1 = cc in absurd (omega arith)

-- nor one that is not newly stored: the frame is as it was
frame_quiet : (f : Frame) (epoch : ℕ) (s : List ℕ) → stores_it f epoch s ≡ false → frame_after f epoch s ≡ f
frame_quiet f epoch s = by (eqb (first_of (offer_tests f epoch s)) 0) (is_here f epoch (whole_of s)) refl
  where
    by : (t h : Bool) → is_here f epoch (whole_of s) ≡ h → (t && not h) ≡ false → pick t (after_string f epoch (whole_of s)) f ≡ f
    by true true e q = rw e
    by true false e q = absurd (true≢false q)
    by false h e q = refl

quiet_offer : (card c epoch : ℕ) (s : List ℕ) (cs : List Call) (k : ℕ) → stores_it (held_after (calls_on c cs)) epoch s ≡ false
    → (u : Three) → Newly (Offer card c epoch s) cs k u → ShownIn cs k u
unfolding held_after
quiet_offer card c epoch s cs k e u n =
    record {
      card = card;
      channel = c;
      served = n.served;
      moment = calls_on c cs;
      within = whole (calls_on c cs);
      pair = n.at.pair;
      named = n.at.named;
      shows = ap (λ (f : Frame). shown_at f n.at.pair) (sym (frame_quiet (held_after (calls_on c cs)) epoch s e)) ∙ n.at.shows;
    }

-- all that a frame shows is brought
holding_stored : (call : Call) (cs : List Call) (k : ℕ) (b : Book) → 1 ≤ k → k ≤ slots → is_let_in call ≡ true → Full b
    → Holding (ShownIn cs k) (in_slot b k)
    → Holding (ShownIn (call ∷ cs) k) (in_slot (brought b (shows_of (held_after (itself call ∷ calls_on (channel_of call) cs)))) k)
holding_stored call cs k b least most e full h =
    let f = held_after (itself call ∷ calls_on (channel_of call) cs) in
    holding_same (λ u. ShownIn cs k u ⊎ InShows k u (shows_of f)) (ShownIn (call ∷ cs) k) (in_slot (brought b (shows_of f)) k)
    (λ u. ⊎_elim (λ (o : ShownIn cs k u). shown_kept call cs k u o)
    (λ (i : InShows k u (shows_of f)). shown_new call cs k u (record { served = e; at = in_pair f pairs k u i })))
    (λ u w. ⊎_elim inl (λ (n : Newly call cs k u). inr (subst (λ (x : Three). InShows k x (shows_of f)) (meaning_entry u) (shows_in f pairs n.at.pair k (entry_of u) n.at.named n.at.shows)))
    (shown_split call cs k u w))
    (holding_brought k least most (shows_of f) (ShownIn cs k) b (all_right f) full h)

-- ---- over all calls
record BookHolds (cs : List Call) (st : Station) : Type 0 where
  full : Full st.book
  holds : (k : ℕ) → 1 ≤ k → k ≤ slots → Holding (ShownIn cs k) (in_slot st.book k)

-- before any call nothing was shown
none_shown : (k : ℕ) (u : Three) → ShownIn [] k u → ⊥
unfolding calls_by held_after
none_shown k u w = by w.moment w.within w.shows
  where
    by : (m : List OnChannel) → Part m [] → shown_at (held_after m) w.pair ≡ Some (k, entry_of u) → ⊥
    by m (whole cs) q = let z : ◌≡◌ {A = ℕ} 0 1 = cc in omega arith

fresh_holds : BookHolds [] fresh_station
unfolding fresh_station
fresh_holds =
    record {
      full = empty_full;
      holds = λ k l m. record { above = λ u w. absurd (none_shown k u w); one = inr (empty_slot k, none_shown k) };
    }

-- a call that leaves the book and shows nothing new
book_quiet : (call : Call) (cs : List Call) (st next : Station) → next.book ≡ st.book → ((k : ℕ) (u : Three) → Newly call cs k u → ShownIn cs k u)
    → BookHolds cs st → BookHolds (call ∷ cs) next
book_quiet call cs st next e q h =
    record {
      full = subst Full (sym e) h.full;
      holds = λ k l m. subst (λ (b : Book). Holding (ShownIn (call ∷ cs) k) (in_slot b k)) (sym e) (holding_quiet call cs k (in_slot st.book k) (q k) (h.holds k l m));
    }

-- an offer
module _ (card c epoch : ℕ) (s : List ℕ) (cs : List Call) (st : Station) (run : Runs cs st) (h : BookHolds cs st) (e : is_served card c ≡ true) where
  held : frame_of (row_at st c) ≡ held_after (calls_on c cs)
  held = held_is (calls_on c cs) (row_at st c) ((in_step cs st run).run c (served_below card c e))

  held_next : frame_of (offered_row (row_at st c) epoch s) ≡ held_after (OfferIt epoch s ∷ calls_on c cs)
  unfolding held_after
  held_next =
      frame_after_lem (row_at st c) epoch s (runs_long (calls_on c cs) (row_at st c) ((in_step cs st run).run c (served_below card c e))) ∙ ap (λ (f : Frame). frame_after f epoch s) held

  -- all that its frame then shows is brought
  stored_holds : (next : Station) → next.book ≡ brought st.book (shows_of (frame_of (offered_row (row_at st c) epoch s))) → BookHolds (Offer card c epoch s ∷ cs) next
  stored_holds next q =
      let b : next.book ≡ brought st.book (shows_of (held_after (OfferIt epoch s ∷ calls_on c cs))) = q ∙ ap (λ (f : Frame). brought st.book (shows_of f)) held_next in
      record {
        full = subst Full (sym b) (brought_full (shows_of (held_after (OfferIt epoch s ∷ calls_on c cs))) st.book h.full);
        holds = λ k l m. subst (λ (x : Book). Holding (ShownIn (Offer card c epoch s ∷ cs) k) (in_slot x k)) (sym b)
            (holding_stored (Offer card c epoch s) cs k st.book l m e h.full (h.holds k l m));
      }

  -- by whether the string was newly stored
  chosen : (next : Station) (t : Bool) → stores_it (frame_of (row_at st c)) epoch s ≡ t
      → next.book ≡ pick t (brought st.book (shows_of (frame_of (offered_row (row_at st c) epoch s)))) st.book → BookHolds (Offer card c epoch s ∷ cs) next
  chosen next true w q = stored_holds next q
  chosen next false w q = book_quiet (Offer card c epoch s) cs st next q (λ k. quiet_offer card c epoch s cs k (ap (λ (f : Frame). stores_it f epoch s) (sym held) ∙ w)) h

  offer_holds : (next : Station) → next.book ≡ book_after st.book (row_at st c) epoch s → BookHolds (Offer card c epoch s ∷ cs) next
  offer_holds next q = chosen next (stores_it (frame_of (row_at st c)) epoch s) refl q

step_book : (card c epoch : ℕ) (s : List ℕ) (cs : List Call) (st : Station) (r : Stepped) → Runs cs st → BookHolds cs st → OffersTo st card c epoch s r
    → BookHolds (Offer card c epoch s ∷ cs) r.station
step_book card c epoch s cs st r run h o = by (is_served card c) refl
  where
    by : (t : Bool) → is_served card c ≡ t → BookHolds (Offer card c epoch s ∷ cs) r.station
    by false e =
        book_quiet (Offer card c epoch s) cs st r.station (ap (λ (x : Station). x.book) (o.station ∙ after_none st card c epoch s e))
        (λ k. quiet_none (Offer card c epoch s) cs k e) h
    by true e = offer_holds card c epoch s cs st run h e r.station (ap (λ (x : Station). x.book) (o.station ∙ after_some st card c epoch s e))

step_empty : (card c : ℕ) (cs : List Call) (st : Station) (r : Emptied) → BookHolds cs st → Resets st card c r → BookHolds (Reset card c ∷ cs) r.station
step_empty card c cs st r h o = by (is_served card c) refl
  where
    by : (t : Bool) → is_served card c ≡ t → BookHolds (Reset card c ∷ cs) r.station
    by false e = book_quiet (Reset card c) cs st r.station (ap (λ (x : Station). x.book) (o.station ∙ reset_none st card c e)) (λ k. quiet_reset card c cs k) h
    by true e = book_quiet (Reset card c) cs st r.station (ap (λ (x : Station). x.book) (o.station ∙ reset_some st card c e)) (λ k. quiet_reset card c cs k) h

book_holds : (cs : List Call) (st : Station) → Runs cs st → BookHolds cs st
book_holds cs st fresh = fresh_holds
book_holds cs st (offering card c epoch s ds before r run o) = step_book card c epoch s ds before r run (book_holds ds before run) o
book_holds cs st (resetting card c ds before r run o) = step_empty card c ds before r (book_holds ds before run) o

-- A BOOK HAS ALL ITS SLOTS, and a slot of it holds the greatest entry that was shown, or none where none was
pub slot_holds : (cs : List Call) (st : Station) → Runs cs st → (k : ℕ) → 1 ≤ k → k ≤ slots → Holding (ShownIn cs k) (in_slot st.book k)
slot_holds cs st run = (book_holds cs st run).holds

pub book_full : (cs : List Call) (st : Station) → Runs cs st → Full st.book
book_full cs st run = (book_holds cs st run).full

module _ (cs : List Call) (st : Station) (run : Runs cs st) (k : ℕ) (least : 1 ≤ k) (most : k ≤ slots) where
  -- EMPTY EXACTLY WHEN NONE WAS SHOWN
  pub empty_exactly : ((in_slot st.book k).day ≡ 0) ↔ ((u : Three) → ShownIn cs k u → ⊥)
  empty_exactly =
      ⊎_elim
      (λ (w : ShownIn cs k (meaning (in_slot st.book k)) × Dated (in_slot st.book k)).
      ((λ (z : (in_slot st.book k).day ≡ 0) u s. absurd (omega (arith, w.1.0, z))), (λ n. absurd (n (meaning (in_slot st.book k)) w.0))))
      (λ (w : (in_slot st.book k ≡ blank) × ((u : Three) → ShownIn cs k u → ⊥)). ((λ z. w.1), (λ n. ap (λ (x : Entry). x.day) w.0)))
      (slot_holds cs st run k least most).one

  -- ELSE IT HOLDS THE GREATEST
  pub greatest_there : ((in_slot st.book k).day ≡ 0 → ⊥) → Greatest cs k (meaning (in_slot st.book k))
  greatest_there n =
      ⊎_elim
      (λ (w : ShownIn cs k (meaning (in_slot st.book k)) × Dated (in_slot st.book k)).
      record { shown = w.0; none_above = (slot_holds cs st run k least most).above })
      (λ (w : (in_slot st.book k ≡ blank) × ((u : Three) → ShownIn cs k u → ⊥)). absurd (n (ap (λ (x : Entry). x.day) w.0)))
      (slot_holds cs st run k least most).one
