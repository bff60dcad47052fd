-- The 75 strings of a superframe, offered in order on one channel of a fresh station: the book, the answers, the rows.
-- Assumes nothing.
use mathlib.Core.Path.{◌≡◌, refl, sym, ap, ap₂, subst, ◌∙◌}
use mathlib.Core.Bool.{Bool, true, false, ◌&&◌}
use mathlib.Core.List.{List, [], ◌∷◌, map}
use Prim.Native.Nat.{ℕ, suc, ◌+◌, ◌*◌, ◌%◌, ◌≤◌, ◌<◌}
use native.Mathlib.Omega.{arith}
use borrow.Author.Tests.{eq-eqb, eqb-true, eqb-false}
use lib.Dec.{eqb}
use Rattle.strings.specs.Pick.{pick}
use Rattle.std.specs.Prelude.{Some}
use Rattle.book.specs.Entry.{Three, entry_of}
use Rattle.book.specs.Book.{in_slot}
use Rattle.channel.specs.History.{Call as OnChannel, Offer as OfferIt, Reset as ResetIt, held_after, said_to, of_latest, record_after, record_start, makes_record, four_of, Runs as ChannelRuns, fresh as fresh_row, offering as offering-it, resetting as resetting-it}
use Rattle.strings.specs.declared.Verdict.TheVariants.{Clean}
use Rattle.channel.specs.declared.Row.{Row}
use Rattle.channel.specs.declared.News.TheVariants.{Kept, RecordBuilt}
use Rattle.channel.specs.Offers.{news_number, took}
use Rattle.channel.proofs.Answers.{answer_same}
use Rattle.relative.specs.declared.Polarity.TheVariants.{Upright}
use Rattle.immediate.specs.Kept.{four_good, record_in}
use Rattle.channel.specs.Row.{empty_row}
use Rattle.channel.specs.Frame.{Frame, is_complete, is_readable}
use Rattle.shows.specs.Shows.{shown_at}
use Rattle.superframe.specs.Table41.{frame_of_slot, pair_of_slot}
use Rattle.superframe.proofs.Table41.{table_4_1}
use Rattle.station.specs.declared.Station.{Station}
use Rattle.station.specs.Station.{channels, is_served, shut_says, row_at, held_at}
use Rattle.station.specs.Queries.{kept_at}
use Rattle.station.specs.History.{Call, card_of, channel_of, itself, is_on, calls_on, calls_by, Part, whole, ShownIn, Runs, said_on, said_after}
use Rattle.station.proofs.ChannelRuns.{on_another, calls_same, calls_other, in_step}
use Rattle.station.proofs.BookRule.{book_full}
use Rattle.station.proofs.Demands.{counted, answered}
use Rattle.sky.specs.Line.{relative_bytes}
use Rattle.heard.specs.Heard.{offers, in_order, in_frame, HasFirst, entry_in, Superframe, on_channel, sky_calls, news_of_string, SkyTaken, SkyHeld}
use Rattle.heard.proofs.Showing.{some_shown, only_shown, slot_dated}
use Rattle.heard.proofs.FiveFrames.{moments, part_of, shows_only, shows_each, first_at, held_at_lem, said_at_lem, fresh_ready}

-- ---- calls that are all on one channel
label_is : (card c : ℕ) (call : OnChannel) → channel_of (on_channel card c call) ≡ c
label_is card c (OfferIt epoch s) = refl
label_is card c ResetIt = refl

card_is : (card c : ℕ) (call : OnChannel) → card_of (on_channel card c call) ≡ card
card_is card c (OfferIt epoch s) = refl
card_is card c ResetIt = refl

label_off : (card c : ℕ) (call : OnChannel) → itself (on_channel card c call) ≡ call
label_off card c (OfferIt epoch s) = refl
label_off card c ResetIt = refl

on_it : (card c : ℕ) → is_served card c ≡ true → (call : OnChannel) → is_on c (on_channel card c call) ≡ true
on_it card c served call =
    ap₂ (λ (a b : Bool). a && b) (ap₂ is_served (card_is card c call) (label_is card c call) ∙ served)
    (eq-eqb (channel_of (on_channel card c call)) c (label_is card c call))

pub calls_own : (card c : ℕ) → is_served card c ≡ true → (cs : List OnChannel) → calls_on c (map (on_channel card c) cs) ≡ cs
unfolding calls_by
calls_own card c served [] = refl
calls_own card c served (call ∷ cs) =
    calls_same c (on_channel card c call) (map (on_channel card c) cs) (on_it card c served call)
    ∙ ap₂ (λ (x : OnChannel) (xs : List OnChannel). x ∷ xs) (label_off card c call) (calls_own card c served cs)

pub calls_none : (card c k : ℕ) → (k ≡ c → ⊥) → (cs : List OnChannel) → calls_on k (map (on_channel card c) cs) ≡ []
unfolding calls_by
calls_none card c k n [] = refl
calls_none card c k n (call ∷ cs) =
    calls_other k (on_channel card c call) (map (on_channel card c) cs)
    (on_another (on_channel card c call) k (λ q. n (sym (sym (label_is card c call) ∙ q))))
    ∙ calls_none card c k n cs

-- ---- the record, at a moment that has the four
module _ (T : ℕ → ℕ) (s k : ℕ) (f : Frame) (l : 4 ≤ k) (i : HasFirst T s k f) where
  four_there : is_complete f ≡ true
  four_there = rw (i.has 1 (omega arith) (omega arith), i.has 2 (omega arith) (omega arith), i.has 3 (omega arith) (omega arith), i.has 4 (omega arith) (omega arith))

  four_texts : four_of f ≡ T 1 ∷ T 2 ∷ T 3 ∷ T 4 ∷ []
  four_texts = rw (i.text 1 (omega arith) (omega arith), i.text 2 (omega arith) (omega arith), i.text 3 (omega arith) (omega arith), i.text 4 (omega arith) (omega arith))

  four_read : four_good (T 1) (T 2) (T 3) (T 4) ≡ true → is_readable f ≡ true
  four_read g = rw (i.text 1 (omega arith) (omega arith), i.text 2 (omega arith) (omega arith), i.text 3 (omega arith) (omega arith), i.text 4 (omega arith) (omega arith)) g

  makes_it : four_good (T 1) (T 2) (T 3) (T 4) ≡ true → makes_record f ≡ true
  makes_it g = ap₂ (λ (a b : Bool). a && b) four_there (four_read g)

-- what is kept of the latest such frame is this one's
record_now : {X : Type 0} (none : X) (of : Frame → X) (string : ℕ → ℕ) (e n : ℕ) → makes_record (held_after (in_order string e (suc n) [])) ≡ true
    → of_latest none of (in_order string e (suc n) []) ≡ of (held_after (in_order string e (suc n) []))
unfolding offers of_latest
record_now none of string e n m =
    ap (λ (a : Bool). pick a (of (held_after (in_order string e (suc n) []))) (of_latest none of (in_order string e n []))) m

-- ---- the book
module _ (string : ℕ → ℕ) (sky : Superframe string) (card c e : ℕ) (served : is_served card c ≡ true) where
  abbrev all : List Call
  all = sky_calls string card c e 75

  shown_each : (k : ℕ) → 1 ≤ k → k ≤ 24 → ShownIn all k (entry_in string k)
  shown_each k a b =
      record {
        card = card;
        channel = c;
        served = served;
        moment = in_order string e (15 * frame_of_slot k + 15) [];
        within = subst (Part (in_order string e (15 * frame_of_slot k + 15) [])) (sym (calls_own card c served (in_order string e 75 [])))
            (part_of string e 75 (15 * frame_of_slot k + 15) (omega arith));
        pair = pair_of_slot k;
        named = (table_4_1.there k a b).0.1.0;
        shows = shows_each string sky e k a b;
      }

  shown_only : (k : ℕ) (u : Three) → ShownIn all k u → u ≡ entry_in string k
  unfolding held_after
  shown_only k u w = by (eqb w.channel c) refl
    where
      none : (m : List OnChannel) → Part m [] → shown_at (held_after m) w.pair ≡ Some (k, entry_of u) → ⊥
      none m (whole cs) q = let z : ◌≡◌ {A = ℕ} 0 1 = cc in omega arith

      by : (t : Bool) → eqb w.channel c ≡ t → u ≡ entry_in string k
      by true q =
          let m = moments string e 75 w.moment
          (subst (Part w.moment) (ap (λ (x : ℕ). calls_on x all) (eqb-true w.channel c q) ∙ calls_own card c served (in_order string e 75 [])) w.within)
          in
          shows_only string sky e m.at m.most w.pair k u w.named (ap (λ (cs : List OnChannel). shown_at (held_after cs) w.pair) (sym m.is) ∙ w.shows)
      by false q =
          absurd (none w.moment (subst (Part w.moment) (calls_none card c w.channel (eqb-false w.channel c q) (in_order string e 75 [])) w.within) w.shows)

  module _ (st : Station) (run : Runs all st) where
    -- THE BOOK HAS THE 24 ENTRIES
    slot_is : (k : ℕ) → 1 ≤ k → k ≤ 24 → in_slot st.book k ≡ entry_of (entry_in string k)
    slot_is k a b =
        sym (slot_dated all st run k a b (entry_in string k) (shown_each k a b))
        ∙ ap entry_of (only_shown all st run k a b (entry_in string k) (shown_each k a b) (shown_only k))

    -- the channel's calls
    own : calls_on c all ≡ in_order string e 75 []
    own = calls_own card c served (in_order string e 75 [])

    abbrev at_last : Frame
    at_last = held_after (in_order string e 75 [])

    held-is-last : held_at st c ≡ at_last
    held-is-last = (counted all st run card c served).frame ∙ ap held_after own

    last : HasFirst (in_frame string 4) (e + 60) 15 at_last
    last = first_at string sky e [] (fresh_ready string sky e) 4 (omega arith) 15 (omega arith) (omega arith)

    makes-last : makes_record at_last ≡ true
    makes-last = makes_it (in_frame string 4) (e + 60) 15 at_last (omega arith) last (sky.four 4 (omega arith))

    kept_is : record_in (kept_at st c) ≡ in_frame string 4 1 ∷ in_frame string 4 2 ∷ in_frame string 4 3 ∷ in_frame string 4 4 ∷ []
    kept_is =
        (counted all st run card c served).kept
        ∙ ap record_after own
        ∙ record_now [] four_of string e 74 makes-last
        ∙ four_texts (in_frame string 4) (e + 60) 15 at_last (omega arith) last

    -- with the start of its frame
    start_is : (kept_at st c).start ≡ e + 60
    start_is =
        (counted all st run card c served).kept_start ∙ ap record_start own ∙ record_now 0 (λ (f : Frame). f.start) string e 74 makes-last ∙ last.start

    other_row : (k : ℕ) → k < channels → (k ≡ c → ⊥) → row_at st k ≡ empty_row
    other_row k d n = by (calls_on k all) (row_at st k) (calls_none card c k n (in_order string e 75 [])) ((in_step all st run).run k d)
      where
        by : (cs : List OnChannel) (row : Row) → cs ≡ [] → ChannelRuns cs row → row ≡ empty_row
        by cs row q fresh_row = refl
        by cs row q (offering-it epoch s ds before r run o) = let z : ◌≡◌ {A = ℕ} 0 1 = cc in absurd (omega arith)
        by cs row q (resetting-it ds before run) = let z : ◌≡◌ {A = ℕ} 0 1 = cc in absurd (omega arith)

    -- WHAT THE 75 STRINGS LEAVE
    pub sky_held : SkyHeld string c e st
    sky_held =
        record {
          entry = slot_is;
          filled = λ k a b. some_shown all st run k a b (entry_in string k) (shown_each k a b);
          slots = book_full all st run;
          held = ap (λ (f : Frame). f.held) held-is-last
              ∙ held_at_lem string sky e [] (fresh_ready string sky e) 4 (omega arith) 15 (omega arith) (omega arith);
          frame = subst (HasFirst (in_frame string 4) (e + 60) 15) (sym held-is-last) last;
          kept = kept_is;
          kept_start = start_is;
          others = other_row;
        }

  -- EACH IS TAKEN, CLEAN, UPRIGHT, WITH ITS OWN NUMBER; STRING 4 BUILDS THE RECORD, EVERY OTHER IS KEPT
  news_paper : (b : Bool) → news_number (pick b RecordBuilt Kept) ≡ pick b 2 1
  news_paper true = refl
  news_paper false = refl

  pub sky_taken : SkyTaken string card c e
  unfolding said_after
  sky_taken i l st run r o =
      let s = relative_bytes (string (suc i)) in
      let cs = sky_calls string card c e i in
      answer_same r.answer (took (i % 15 + 1) Clean (news_of_string (i % 15 + 1)) Upright)
      ((answered cs st run).offers card c (e + i) s r o
      ∙ ap (λ (b : Bool). pick b (said_on (OfferIt (e + i) s) (calls_on c cs)) (shut_says card c)) served
      ∙ ap (λ (ds : List OnChannel). said_to (held_after ds) (e + i) s) (calls_own card c served (in_order string e i []))
      ∙ said_at_lem string sky e [] (fresh_ready string sky e) i l
      ∙ ap (λ (w : ℕ). 0 ∷ (i % 15 + 1) ∷ 0 ∷ 0 ∷ w ∷ 0 ∷ []) (sym (news_paper (eqb (i % 15 + 1) 4))))
