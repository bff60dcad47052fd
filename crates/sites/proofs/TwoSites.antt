-- Two sites, one station: what is shown in a history that was given two histories is what is shown in either (to_one, from_one), so its book is their join
-- (two-sites). A station's book is its history's (every-station), and the calls of two cards are such a history (given_both), so the same holds of the code
-- (one-station).
-- Assumes nothing.
use mathlib.Core.Path.{◌≡◌, refl, sym, ap, ap₂, subst, ◌∙◌}
use mathlib.Core.Bool.{Bool, true, false, ◌&&◌}
use mathlib.Core.List.{List, [], ◌∷◌, map}
use mathlib.Core.Logic.{◌⊎◌, inl, inr, ⊎_elim}
use Prim.Native.Nat.{ℕ, ◌+◌, ◌-◌, ◌≤◌}
use native.Mathlib.Omega.{arith}
use borrow.Author.Tests.{eq-eqb, eqb-true, eqb-false, ne_eqb, leb-true, leb-false, le-ltb, lt-ltb}
use lib.Dec.{eqb, leb}
use Rattle.strings.specs.Pick.{pick}
use Rattle.std.specs.Prelude.{Some, None}
use Rattle.book.specs.declared.Entry.{Entry}
use Rattle.book.specs.declared.Book.{Book}
use Rattle.book.specs.Entry.{Three, meaning, entry_of, greater, blank}
use Rattle.book.specs.Shows.{shown_by}
use Rattle.book.specs.Book.{slots, in_slot}
use Rattle.book.proofs.Joins.{shown_fits}
use Rattle.summary.specs.Walk.{walk_of}
use Rattle.channel.specs.Frame.{Frame}
use Rattle.channel.specs.History.{Call as OnChannel, held_after}
use Rattle.shows.specs.Shows.{has_pair, shown_at}
use Rattle.station.specs.Station.{is_served}
use Rattle.station.specs.History.{Call, Offer, Reset, card_of, channel_of, itself, is_on, Serving, calls_by, calls_on, Part, whole, ShownBy}
use Rattle.station.proofs.Served.{served_below, owned_served}
use Rattle.station.proofs.ChannelRuns.{on_another, calls_other}
use Rattle.station.proofs.Holding.{Dated, Holding, holding_same, held_once}
use Rattle.station.proofs.BookRule.{slot_holds, book_full}
use Rattle.station.proofs.Walked.{runs_walked}
use Rattle.sites.specs.Joining.{join_books}
use Rattle.sites.specs.TwoSites.{Filled, Unfilled, BookOf, Has, GivenBoth, EveryTwoSites, EveryStation, OfCardOne, by_card_two, Mixed, none, first, second, EveryTwoCards}
use Rattle.sites.proofs.Slots.{same_slots, joined_long, slot_is}
use Rattle.sites.proofs.Union.{holding_both}

-- ---- what is shown has a day
shown_day : (f : Frame) (p k : ℕ) (e : Entry) → shown_at f p ≡ Some (k, e) → 1 ≤ e.day
shown_day f p k e = by (has_pair f p)
  where
    by : (t : Bool) → pick t (shown_by (f.text 5) (f.text p) (f.text (p + 1))) None ≡ Some (k, e) → 1 ≤ e.day
    by true q = (shown_fits (f.text 5) (f.text p) (f.text (p + 1)) k e q).day_least
    by false q = let z : ◌≡◌ {A = ℕ} 0 1 = cc in absurd (omega arith)

-- ---- the book's rule, as a slot against a set
module _ (serves : Serving) (cs : List Call) (k : ℕ) (e : Entry) where
  to_holding : Filled serves cs k e ⊎ Unfilled serves cs k e → Holding (ShownBy serves cs k) e
  to_holding =
      ⊎_elim
      (λ (f : Filled serves cs k e).
      let w = f.greatest.shown in
      record {
        above = f.greatest.none_above;
        one = inl (w, (shown_day (held_after w.moment) w.pair k e (w.shows ∙ ap (λ (e : Entry). Some (k, e)) f.told), f.told));
      })
      (λ (n : Unfilled serves cs k e). record { above = λ u w. absurd (n.none u w); one = inr (n.empty, n.none) })

  from_holding : Holding (ShownBy serves cs k) e → Filled serves cs k e ⊎ Unfilled serves cs k e
  from_holding h =
      ⊎_elim (λ (w : ShownBy serves cs k (meaning e) × Dated e). inl (record { greatest = record { shown = w.0; none_above = h.above }; told = w.1.1 }))
      (λ (w : (e ≡ blank) × ((u : Three) → ShownBy serves cs k u → ⊥)). inr (record { none = w.1; empty = w.0 })) h.one

-- ---- a history that was given both
-- a channel with no call shows nothing
silent : (serves : Serving) (cs : List Call) (k : ℕ) (u : Three) (w : ShownBy serves cs k u) → calls_by serves w.channel cs ≡ [] → ⊥
unfolding held_after
silent serves cs k u w e = by w.moment (subst (Part w.moment) e w.within) w.shows
  where
    by : (m : List OnChannel) → Part m [] → shown_at (held_after m) w.pair ≡ Some (k, entry_of u) → ⊥
    by m (whole l) q = let z : ◌≡◌ {A = ℕ} 0 1 = cc in omega arith

-- what a channel shows, another with the same calls shows
moved : (serves other : Serving) (cs es : List Call) (k : ℕ) (u : Three) (w : ShownBy serves cs k u) → Has other es (calls_by serves w.channel cs)
    → ShownBy other es k u
moved serves other cs es k u w h =
    record {
      card = h.card;
      channel = h.channel;
      served = h.served;
      moment = w.moment;
      within = subst (Part w.moment) (sym h.its) w.within;
      pair = w.pair;
      named = w.named;
      shows = w.shows;
    }

module _ (s t one : Serving) (cs ds es : List Call) (given : GivenBoth s cs t ds one es) (k : ℕ) where
  to_one : (u : Three) → ShownBy s cs k u ⊎ ShownBy t ds k u → ShownBy one es k u
  to_one u =
      ⊎_elim
      (λ (w : ShownBy s cs k u). ⊎_elim (λ e. absurd (silent s cs k u w e)) (λ h. moved s one cs es k u w h) (given.from_first w.card w.channel w.served))
      (λ (w : ShownBy t ds k u). ⊎_elim (λ e. absurd (silent t ds k u w e)) (λ h. moved t one ds es k u w h) (given.from_second w.card w.channel w.served))

  from_one : (u : Three) → ShownBy one es k u → ShownBy s cs k u ⊎ ShownBy t ds k u
  from_one u w =
      ⊎_elim (λ e. absurd (silent one es k u w e))
      (⊎_elim (λ (h : Has s cs (calls_by one w.channel es)). inl (moved one s es cs k u w h))
      (λ (h : Has t ds (calls_by one w.channel es)). inr (moved one t es ds k u w h)))
      (given.nothing_else w.card w.channel w.served)

  one_holds : (x y : Entry) → Holding (ShownBy s cs k) x → Holding (ShownBy t ds k) y → Holding (ShownBy one es k) (greater x y)
  one_holds x y h g =
      holding_same (λ u. ShownBy s cs k u ⊎ ShownBy t ds k u) (ShownBy one es k) (greater x y) to_one from_one
      (holding_both (ShownBy s cs k) (ShownBy t ds k) x y h g)

-- TWO SITES, ONE STATION, for any number of channels
pub two_sites : EveryTwoSites
two_sites s t one cs ds es given a b p q = record { book = record { long = joined_long a b; slot = λ k l m. from_holding one es k (in_slot (join_books a b) k) (joined k l m) }; only = only }
  where
    joined : (k : ℕ) → 1 ≤ k → k ≤ slots → Holding (ShownBy one es k) (in_slot (join_books a b) k)
    joined k l m =
        subst (Holding (ShownBy one es k)) (sym (slot_is a b k l m))
        (one_holds s t one cs ds es given k (in_slot a k) (in_slot b k) (to_holding s cs k (in_slot a k) (p.slot k l m)) (to_holding t ds k (in_slot b k) (q.slot k l m)))

    only : (c : Book) → BookOf one es c → c ≡ join_books a b
    only c r =
        same_slots c (join_books a b) r.long (joined_long a b)
        (λ k l m. held_once (ShownBy one es k) (ShownBy one es k) (in_slot c k) (in_slot (join_books a b) k) (λ u w. w) (λ u w. w)
        (to_holding one es k (in_slot c k) (r.slot k l m)) (joined k l m))

pub every_station : EveryStation
every_station cs st run =
    record { long = book_full cs st run; slot = λ k l m. from_holding is_served cs k (in_slot st.book k) (slot_holds cs st run k l m) }

-- ---- two cards: the calls of card one as they are, those of the second site by card two, mixed
-- no call of these is on a channel
abbrev NoneOn : ℕ → List Call → Type 0
NoneOn c [] = Unit
NoneOn c (call ∷ cs) = (is_on c call ≡ false) × NoneOn c cs

no_calls : (c : ℕ) (cs : List Call) → NoneOn c cs → calls_on c cs ≡ []
unfolding calls_by
no_calls c [] n = refl
no_calls c (call ∷ cs) n = calls_other c call cs n.0 ∙ no_calls c cs n.1

-- then it has the calls of the others
firsts : (c : ℕ) (cs ds es : List Call) → Mixed cs ds es → NoneOn c ds → calls_on c es ≡ calls_on c cs
unfolding calls_by
firsts c cs ds es none n = refl
firsts c cs ds es (first call xs ys zs m) n = ap (λ (l : List OnChannel). pick (is_on c call) (itself call ∷ l) l) (firsts c xs ys zs m n)
firsts c cs ds es (second call xs ys zs m) n = calls_other c call zs n.0 ∙ firsts c xs ys zs m n.1

seconds : (c : ℕ) (cs ds es : List Call) → Mixed cs ds es → NoneOn c cs → calls_on c es ≡ calls_on c ds
unfolding calls_by
seconds c cs ds es none n = refl
seconds c cs ds es (first call xs ys zs m) n = calls_other c call zs n.0 ∙ seconds c xs ys zs m n.1
seconds c cs ds es (second call xs ys zs m) n = ap (λ (l : List OnChannel). pick (is_on c call) (itself call ∷ l) l) (seconds c xs ys zs m n)

-- card one's calls are on channels to 23, those moved on higher ones
none_high : (c : ℕ) → 24 ≤ c → (cs : List Call) → OfCardOne cs → NoneOn c cs
none_high c h [] o = tt
none_high c h (call ∷ cs) o = (on_another call c (λ e. omega (arith, o.0.1)), none_high c h cs o.1)

moved_to : (call : Call) → channel_of (by_card_two call) ≡ channel_of call + 24
moved_to (Offer card c epoch s) = refl
moved_to (Reset card c) = refl

moved_by : (call : Call) → card_of (by_card_two call) ≡ 2
moved_by (Offer card c epoch s) = refl
moved_by (Reset card c) = refl

moved_itself : (call : Call) → itself (by_card_two call) ≡ itself call
moved_itself (Offer card c epoch s) = refl
moved_itself (Reset card c) = refl

none_low : (c : ℕ) → c ≤ 23 → (ds : List Call) → NoneOn c (map by_card_two ds)
none_low c h [] = tt
none_low c h (call ∷ ds) = (on_another (by_card_two call) c (λ e. omega (arith, moved_to call)), none_low c h ds)

-- whose channels they are
served_one : (c : ℕ) → c ≤ 23 → is_served 1 c ≡ true
served_one c h = owned_served 1 c refl (omega arith) (ap (λ (t : Bool). pick t 1 2) (lt-ltb c 24 (omega arith)))

served_two : (c : ℕ) → 24 ≤ c → c ≤ 47 → is_served 2 c ≡ true
served_two c h m = owned_served 2 c refl m (ap (λ (t : Bool). pick t 1 2) (le-ltb c 24 h))

-- a call is on its channel where the moved one is on the channel 24 higher
moved_on : (c : ℕ) (call : Call) → card_of call ≡ 1 → channel_of call ≤ 23 → is_on (c + 24) (by_card_two call) ≡ is_on c call
moved_on c call one low =
    ap₂ (λ (a b : Bool). a && b)
    (ap₂ is_served (moved_by call) (moved_to call) ∙ served_two (channel_of call + 24) (omega arith) (omega arith) ∙ sym (ap (λ (k : ℕ). is_served k (channel_of call)) one ∙ served_one (channel_of call) low))
    (ap (λ (k : ℕ). eqb k (c + 24)) (moved_to call) ∙ higher (channel_of call) c)
  where
    higher : (a b : ℕ) → eqb (a + 24) (b + 24) ≡ eqb a b
    higher a b = by (eqb a b) refl
      where
        by : (t : Bool) → eqb a b ≡ t → eqb (a + 24) (b + 24) ≡ t
        by true e = eq-eqb (a + 24) (b + 24) (let q = eqb-true a b e in omega arith)
        by false e = ne_eqb (a + 24) (b + 24) (λ q. eqb-false a b e (omega arith))

moved_calls : (c : ℕ) (ds : List Call) → OfCardOne ds → calls_on (c + 24) (map by_card_two ds) ≡ calls_on c ds
unfolding calls_by
moved_calls c [] o = refl
moved_calls c (call ∷ ds) o =
    ap₂ (λ (t : Bool) (l : List OnChannel). pick t (itself (by_card_two call) ∷ l) l) (moved_on c call o.0.0 o.0.1) (moved_calls c ds o.1)
    ∙ ap (λ (x : OnChannel). pick (is_on c call) (x ∷ calls_on c ds) (calls_on c ds)) (moved_itself call)

module _ (cs ds es : List Call) (ones : OfCardOne cs) (others : OfCardOne ds) (mixed : Mixed cs (map by_card_two ds) es) where
  low : (c : ℕ) → c ≤ 23 → calls_on c es ≡ calls_on c cs
  low c h = firsts c cs (map by_card_two ds) es mixed (none_low c h ds)

  high : (c : ℕ) → calls_on (c + 24) es ≡ calls_on c ds
  high c = seconds (c + 24) cs (map by_card_two ds) es mixed (none_high (c + 24) (omega arith) cs ones) ∙ moved_calls c ds others

  from_first : (card c : ℕ) → is_served card c ≡ true → (calls_on c cs ≡ []) ⊎ Has is_served es (calls_on c cs)
  from_first card c served = by (leb c 23) refl
    where
      by : (t : Bool) → leb c 23 ≡ t → (calls_on c cs ≡ []) ⊎ Has is_served es (calls_on c cs)
      by true e = inr (record { card = card; channel = c; served = served; its = low c (leb-true c 23 e) })
      by false e = inl (no_calls c cs (none_high c (let h = leb-false c 23 e in omega arith) cs ones))

  from_second : (card c : ℕ) → is_served card c ≡ true → (calls_on c ds ≡ []) ⊎ Has is_served es (calls_on c ds)
  from_second card c served = by (leb c 23) refl
    where
      by : (t : Bool) → leb c 23 ≡ t → (calls_on c ds ≡ []) ⊎ Has is_served es (calls_on c ds)
      by true e = let h = leb-true c 23 e in inr (record { card = 2; channel = c + 24; served = served_two (c + 24) (omega arith) (omega arith); its = high c })
      by false e = inl (no_calls c ds (none_high c (let h = leb-false c 23 e in omega arith) ds others))

  nothing_else : (card c : ℕ) → is_served card c ≡ true → (calls_on c es ≡ []) ⊎ (Has is_served cs (calls_on c es) ⊎ Has is_served ds (calls_on c es))
  nothing_else card c served = by (leb c 23) refl
    where
      by : (t : Bool) → leb c 23 ≡ t → (calls_on c es ≡ []) ⊎ (Has is_served cs (calls_on c es) ⊎ Has is_served ds (calls_on c es))
      by true e = inr (inl (record { card = card; channel = c; served = served; its = sym (low c (leb-true c 23 e)) }))
      by false e =
          let h = leb-false c 23 e in
          let b = served_below card c served in
          let q : c - 24 + 24 ≡ c = omega arith in
          inr (inr (record {
            card = 1;
            channel = c - 24;
            served = served_one (c - 24) (omega arith);
            its = sym (high (c - 24)) ∙ ap (λ (k : ℕ). calls_on k es) q;
          }))

  given_both : GivenBoth is_served cs is_served ds is_served es
  given_both = record { from_first = from_first; from_second = from_second; nothing_else = nothing_else }

-- AND SO OF THE CODE
pub one_station : EveryTwoCards
one_station cs ds es a b one ones others mixed run-a run-b run =
    let j = two_sites is_served is_served is_served cs ds es (given_both cs ds es ones others mixed) a.book b.book (every_station cs a run-a) (every_station ds b run-b) in
    let e = j.only one.book (every_station es one run) in
    record { book = e; summary = runs_walked es one run ∙ ap (λ (x : Book). walk_of x.entries) e }
