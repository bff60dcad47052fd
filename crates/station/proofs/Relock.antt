-- Relock over calls and the answers that they gave, from any station (relocked): other channels' and cards' calls do not touch the channel's row, so the frames
-- that it holds are those that its own offers are heard with.
-- Assumes nothing.
use mathlib.Core.Path.{◌≡◌, refl, sym, ap, ap₂, subst, ◌∙◌}
use mathlib.Core.Bool.{Bool, true, false, true≢false, ◌&&◌}
use mathlib.Core.List.{List, [], ◌∷◌}
use mathlib.Core.Logic.{inl, inr, ⊎_elim}
use Prim.Native.Nat.{ℕ, zero, suc, ◌+◌, ◌≤◌}
use borrow.Author.Tests.{eqb-true, eq-eqb}
use lib.Dec.{eqb}
use lib.ListN.{get_or}
use Rattle.strings.specs.Pick.{pick}
use Rattle.strings.specs.Numbers.{Test, first_of, place_of, said_by, answer_of}
use Rattle.strings.specs.Calls.{written_paper}
use Rattle.strings.proofs.Below.{both}
use Rattle.channel.specs.declared.Row.{Row}
use Rattle.channel.specs.Frame.{Frame}
use Rattle.channel.specs.Row.{frame_of}
use Rattle.channel.specs.Offers.{answer_paper, is_taken, offer_tests, offered_row}
use Rattle.channel.specs.Relock.{Heard, number_heard, TakenAt, after_heard, heard_after, GoodString, OfStart, CameBefore, Once, NothingElse, GoodTaken, FirstOf15}
use Rattle.channel.proofs.HeldFrame.{frame_after_lem}
use Rattle.channel.proofs.Relock.{relock_row}
use Rattle.station.specs.declared.Station.{Station}
use Rattle.station.specs.declared.Stepped.{Stepped}
use Rattle.station.specs.Station.{owner_of, row_at, held_at, is_served, told_in, OffersTo}
use Rattle.station.specs.History.{Call, Offer, Reset, card_of, channel_of}
use Rattle.station.specs.Said.{Said, said, RunsFrom, none, offers, resets, Among}
use Rattle.station.specs.Demand1.{WellMade}
use Rattle.station.specs.Relock.{offer_to, SaysTaken, GoodOf, Steady, Relocked}
use Rattle.station.proofs.Served.{served_below, owner_is}
use Rattle.station.proofs.ChannelRuns.{after_own, after_apart, reset_apart, own_answer, row_offers}
use Rattle.station.proofs.WellMade.{offer_made, reset_made}

-- ---- an answer begins with the number that says no, or with 0
begins : (ts : List Test) (told : List ℕ) → get_or (answer_of ts told) 0 1 ≡ first_of ts
begins ts told = by (first_of ts)
  where
    by : (k : ℕ) → get_or (said_by k (place_of ts) told) 0 1 ≡ k
    by zero = refl
    by (suc k) = refl

-- so it says that the string is taken exactly where no test fits
says_first : (st : Station) (card c : ℕ) (h : Heard) (r : Stepped) → is_served card c ≡ true → OffersTo st card c h.epoch h.bytes r
    → get_or (answer_paper r.answer) 0 1 ≡ first_of (offer_tests (held_at st c) h.epoch h.bytes)
says_first st card c h r e o =
    ap (λ (l : List ℕ). get_or l 0 1) (own_answer st card c h.epoch h.bytes r e o)
    ∙ begins (offer_tests (held_at st c) h.epoch h.bytes) (told_in st c h.epoch h.bytes)

-- ---- the strings offered to one channel by its card
heard_by : ℕ → ℕ → Call → List Heard → List Heard
heard_by card c (Offer asker k epoch s) hs = pick (eqb asker card && eqb k c) (record { epoch = epoch; bytes = s } ∷ hs) hs
heard_by card c (Reset asker k) hs = hs

heard_on : ℕ → ℕ → List Said → List Heard
heard_on card c [] = []
heard_on card c (x ∷ before) = heard_by card c x.call (heard_on card c before)

-- one that came before is among the calls
record Came (card c f m : ℕ) (before : List Said) : Type 0 where
  string : Heard
  answer : List ℕ
  there : Among (said (offer_to card c string) answer) before
  good : GoodOf f string
  number : number_heard string ≡ m

later : (card c f m : ℕ) (x : Said) (before : List Said) → Came card c f m before → Came card c f m (x ∷ before)
later card c f m x before w = record { string = w.string; answer = w.answer; there = inr w.there; good = w.good; number = w.number }

came : (card c f m : ℕ) (before : List Said) → CameBefore f m (heard_on card c before) → Came card c f m before
unfolding heard_on heard_by
came card c f m [] w = absurd w
came card c f m (x ∷ before) w = by x.call refl (came card c f m before) w
  where
    by : (call : Call) → x.call ≡ call → (CameBefore f m (heard_on card c before) → Came card c f m before) → CameBefore f m (heard_by card c call (heard_on card c before)) → Came card c f m (x ∷ before)
    by (Reset asker k) q ih w = later card c f m x before (ih w)
    by (Offer asker k epoch s) q ih w = own (eqb asker card && eqb k c) refl w
      where
        h : Heard
        h = record { epoch = epoch; bytes = s }

        own : (t : Bool) → (eqb asker card && eqb k c) ≡ t → CameBefore f m (pick t (h ∷ heard_on card c before) (heard_on card c before)) → Came card c f m (x ∷ before)
        own true e w =
            ⊎_elim
            (λ (g : GoodString h × OfStart f h × (number_heard h ≡ m)).
            record {
              string = h;
              answer = x.answer;
              there = inl (ap (λ (call : Call). said call x.answer) (let p = both (eqb asker card) (eqb k c) e in q ∙ ap₂ (λ (j i : ℕ). Offer j i epoch s) (eqb-true asker card p.0) (eqb-true k c p.1)));
              good = (g.0, g.1);
              number = g.2;
            })
            (λ (v : CameBefore f m (heard_on card c before)). later card c f m x before (ih v)) w
        own false e w = later card c f m x before (ih w)

steady_before : (card c f : ℕ) (x : Said) (before : List Said) → Steady card c f (x ∷ before) → Steady card c f before
steady_before card c f x before w =
    record {
      no_reset = λ a m. w.no_reset a (inr m);
      nothing_else = λ h a m. w.nothing_else h a (inr m);
      once = λ after old h g a b q. w.once (x ∷ after) old h g a b (ap (λ (l : List Said). x ∷ l) q);
    }

-- ---- from any station that is well made, on a channel
module _ (st : Station) (card c f : ℕ) (served : is_served card c ≡ true) where
  -- what is known after calls of which these strings were offered to the channel
  record Since (hs : List Heard) (st' : Station) : Type 0 where
    made : WellMade st'
    held : held_at st' c ≡ heard_after (held_at st c) hs
    nothing : NothingElse (held_at st c) f hs
    once : Once f hs

  -- an offer that is not this card's to this channel is another channel's, or is not let in
  another : (asker k : ℕ) → (eqb asker card && eqb k c) ≡ false → is_served asker k ≡ true → c ≡ k → ⊥
  another asker k q e w =
      true≢false
      (sym (ap₂ (λ (t u : Bool). t && u) (eq-eqb asker card (sym (owner_is asker k e) ∙ ap owner_of (sym w) ∙ owner_is card c served)) (eq-eqb k c (sym w))) ∙ q)

  -- a call that leaves the channel's row
  quiet : (hs : List Heard) (old st' : Station) → WellMade st' → row_at st' c ≡ row_at old c → Since hs old → Since hs st'
  quiet hs old st' w q i = record { made = w; held = ap frame_of q ∙ i.held; nothing = i.nothing; once = i.once }

  module _ (h : Heard) (before : List Said) (old : Station) (r : Stepped) (o : OffersTo old card c h.epoch h.bytes r) (i : Since (heard_on card c before) old) where
    abbrev answer : List ℕ
    answer = answer_paper r.answer

    abbrev then : Frame
    then = heard_after (held_at st c) (heard_on card c before)

    -- taken as the rules say, and so by its answer; and back
    says : TakenAt then h → SaysTaken answer
    says t = says_first old card c h r served o ∙ subst (λ (x : Frame). TakenAt x h) (sym i.held) t

    -- one more string offered to the channel
    one_more_lem : Steady card c f (said (offer_to card c h) answer ∷ before) → Since (h ∷ heard_on card c before) r.station
    one_more_lem w =
        record {
          made = offer_made old card c h.epoch h.bytes r i.made o;
          held = ap (λ (x : Station). held_at x c) o.station ∙ ap frame_of (after_own old card c i.made.rows served h.epoch h.bytes)
              ∙ frame_after_lem (row_at old c) h.epoch h.bytes (i.made.strings c (served_below card c served)) ∙ ap (λ (x : Frame). after_heard x h) i.held;
          nothing = ((λ t. w.nothing_else h answer (inl refl) (says t)), i.nothing);
          once = (
            (λ g s b. let v = came card c f (number_heard h) before b in w.once [] before h v.string answer v.answer refl v.there (g, s) v.good v.number),
            i.once,
          );
        }

  since : WellMade st → (all : List Said) (st' : Station) → RunsFrom st all st' → Steady card c f all → Since (heard_on card c all) st'
  unfolding heard_on heard_by
  since made all st' none w = record { made = made; held = refl; nothing = tt; once = tt }
  since made all st' (offers asker k epoch s before old r run o) w =
      by (since made before old run (steady_before card c f (said (Offer asker k epoch s) (answer_paper r.answer)) before w)) (eqb asker card && eqb k c) refl
    where
      h : Heard
      h = record { epoch = epoch; bytes = s }

      by : Since (heard_on card c before) old → (t : Bool) → (eqb asker card && eqb k c) ≡ t → Since (pick t (h ∷ heard_on card c before) (heard_on card c before)) r.station
      by i true q =
          let p = both (eqb asker card) (eqb k c) q in
          let d = eqb-true asker card p.0 in
          let e = eqb-true k c p.1 in
          one_more_lem h before old r (subst (λ (j : ℕ). OffersTo old card j epoch s r) e (subst (λ (j : ℕ). OffersTo old j k epoch s r) d o)) i
          (subst (λ (x : Call). Steady card c f (said x (answer_paper r.answer) ∷ before)) (ap₂ (λ (j l : ℕ). Offer j l epoch s) d e) w)
      by i false q =
          quiet (heard_on card c before) old r.station (offer_made old asker k epoch s r i.made o) (ap (λ (x : Station). row_at x c) o.station ∙ after_apart old asker k c (another asker k q) epoch s) i
  since made all st' (resets asker k before old r run o) w =
      let i = since made before old run (steady_before card c f (said (Reset asker k) (written_paper r.answer)) before w) in
      let n : is_served asker k ≡ true → c ≡ k → ⊥ =
      λ e q.
      w.no_reset (written_paper r.answer)
      (inl (ap₂ (λ (j l : ℕ). said (Reset j l) (written_paper r.answer)) (sym (owner_is asker k e) ∙ ap owner_of (sym q) ∙ owner_is card c served) (sym q)))
      in
      quiet (heard_on card c before) old r.station (reset_made old asker k r i.made o) (ap (λ (x : Station). row_at x c) o.station ∙ reset_apart old asker k c n) i

  -- ---- the good strings are answered as taken
  module _ (made : WellMade st) (good : (hs : List Heard) → NothingElse (held_at st c) f hs → Once f hs → GoodTaken (held_at st c) f hs) where
    abbrev epoch_in : Call → ℕ
    epoch_in (Offer asker k epoch s) = epoch
    epoch_in (Reset asker k) = 0

    abbrev bytes_in : Call → List ℕ
    bytes_in (Offer asker k epoch s) = s
    bytes_in (Reset asker k) = []

    abbrev isReset : Call → Bool
    isReset (Offer asker k epoch s) = false
    isReset (Reset asker k) = true

    -- the latest call
    latest : (h : Heard) (before : List Said) (old : Station) (r : Stepped) → RunsFrom st before old → OffersTo old card c h.epoch h.bytes r
        → Steady card c f (said (offer_to card c h) (answer_paper r.answer) ∷ before) → GoodOf f h → SaysTaken (answer_paper r.answer)
    latest h before old r run o w g =
        let i = since made before old run (steady_before card c f (said (offer_to card c h) (answer_paper r.answer)) before w) in
        let j = one_more_lem h before old r o i w in
        says h before old r o i ((good (h ∷ heard_on card c before) j.nothing j.once).0 g.0 g.1)

    good_taken : (all : List Said) (st' : Station) → RunsFrom st all st' → Steady card c f all → (h : Heard) (a : List ℕ) → Among (said (offer_to card c h) a) all → GoodOf f h → SaysTaken a
    good_taken all st' none w h a m g = absurd m
    good_taken all st' (offers asker k epoch s before old r run o) w h a m g =
        ⊎_elim here
        (λ (n : Among (said (offer_to card c h) a) before).
        good_taken before old run (steady_before card c f (said (Offer asker k epoch s) (answer_paper r.answer)) before w) h a n g) m
      where
        here : said (Offer asker k epoch s) (answer_paper r.answer) ≡ said (offer_to card c h) a → SaysTaken a
        here q =
            subst SaysTaken (ap (λ (x : Said). x.answer) q)
            (latest h before old r run
            (subst (λ (j : ℕ). OffersTo old j c h.epoch h.bytes r) (ap (λ (x : Said). card_of x.call) q)
            (subst (λ (j : ℕ). OffersTo old asker j h.epoch h.bytes r) (ap (λ (x : Said). channel_of x.call) q)
            (subst (λ (e : ℕ). OffersTo old asker k e h.bytes r) (ap (λ (x : Said). epoch_in x.call) q)
            (subst (λ (l : List ℕ). OffersTo old asker k epoch l r) (ap (λ (x : Said). bytes_in x.call) q) o))))
            (subst (λ (x : Call). Steady card c f (said x (answer_paper r.answer) ∷ before)) (ap (λ (x : Said). x.call) q) w) g)
    good_taken all st' (resets asker k before old r run o) w h a m g =
        ⊎_elim
        (λ (q : said (Reset asker k) (written_paper r.answer) ≡ said (offer_to card c h) a). absurd (true≢false (ap (λ (x : Said). isReset x.call) q)))
        (λ (n : Among (said (offer_to card c h) a) before).
        good_taken before old run (steady_before card c f (said (Reset asker k) (written_paper r.answer)) before w) h a n g) m

-- RELOCK
pub relocked : (st : Station) (card c : ℕ) (taken : Heard) (r : Stepped) → WellMade st → is_served card c ≡ true
    → OffersTo st card c taken.epoch taken.bytes r → is_taken r.answer ≡ true
    → (f : ℕ) → FirstOf15 (row_at r.station c).start f → Relocked card c f taken r.station
relocked st card c taken r made e o t f b =
    let row = row_at st c in
    let next = offered_row row taken.epoch taken.bytes in
    let by_Row = subst
    (λ (x : Row). (g : ℕ) → FirstOf15 x.start g
    → (g ≤ taken.epoch + 29) × ((hs : List Heard) → NothingElse (frame_of x) g hs → Once g hs → GoodTaken (frame_of x) g hs))
    (sym (ap (λ (x : Station). row_at x c) o.station ∙ after_own st card c made.rows e taken.epoch taken.bytes))
    (relock_row row taken (record { row = next; answer = r.answer }) (made.strings c (served_below card c e)) (row_offers st card c taken.epoch taken.bytes r e o) t) f b
    in
    record {
      in_time = by_Row.0;
      good_taken = good_taken r.station card c f e (offer_made st card c taken.epoch taken.bytes r made o) by_Row.1;
    }
