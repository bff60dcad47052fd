-- The client's demands, proved of every run of the station's calls (the statements stand in `specs/Demands.antt`).
-- Assumes nothing.
use mathlib.Core.Path.{◌≡◌, refl, sym, ap, ap₂, subst, ◌∙◌}
use mathlib.Core.Bool.{Bool, true, false, ◌&&◌, not}
use mathlib.Core.List.{List, [], ◌∷◌}
use mathlib.Core.Logic.{◌⊎◌, inl, inr, ⊎_elim, ◌↔◌}
use Prim.Native.Nat.{ℕ, ◌≤◌}
use native.Mathlib.Omega.{arith}
use borrow.Author.Tests.{ne_eqb, eqb-true, eqb-false, leb-true}
use lib.Dec.{eqb, leb}
use lib.ListN.{length, get_or, replicate}
use lib.Seq.{get_or-set_same, get_or-set_other}
use Rattle.strings.specs.Pick.{pick}
use Rattle.strings.specs.Number.{word_of}
use Rattle.strings.proofs.WordOf.{word_lt}
use Rattle.records.specs.declared.kinds.Kind.TheVariants.{One, Two}
use Rattle.words.specs.Good.{is_good}
use Rattle.words.specs.Immediate.{string_at}
use Rattle.book.specs.declared.Book.{Book}
use Rattle.book.specs.Entry.{Three, meaning}
use Rattle.book.specs.Book.{slots, in_slot}
use Rattle.strings.proofs.Below.{both}
use Rattle.strings.proofs.DamagedExactly.{damaged_exactly}
use Rattle.channel.specs.Frame.{is_here}
use Rattle.immediate.specs.declared.Immediate.{Immediate}
use Rattle.immediate.specs.Kept.{has_record, record_in, kept_four}
use Rattle.immediate.proofs.Good.{four_good_lem}
use Rattle.channel.specs.declared.Row.{Row}
use Rattle.channel.specs.Row.{frame_of, empty_row}
use Rattle.hearing.specs.Hears.{whole_of}
use Rattle.channel.specs.Offers.{number_said, is_taken, OnlyCounted, TakenCounted, offered_row, stores_it}
use Rattle.shows.specs.Shows.{shows_of, brought, changes}
use Rattle.channel.specs.History.{record_after}
use Rattle.channel.proofs.HeldFrame.{held_is, taken_exactly}
use Rattle.channel.proofs.Counting.{refused_only, taken_counted}
use Rattle.channel.proofs.TrueCounts.{tallies_are, tallies_add_up}
use Rattle.channel.proofs.LatestRecord.{record_is, start_is}
use Rattle.channel.proofs.Relock.{every_phase}
use Rattle.station.specs.declared.Station.{Station}
use Rattle.station.specs.declared.Stepped.{Stepped}
use Rattle.station.specs.declared.Emptied.{Emptied}
use Rattle.station.specs.declared.Health.{Health}
use Rattle.station.specs.Station.{fresh_station, no_row, row_at, is_served, book_after, corrected, station_after, station_reset, OffersTo, Resets}
use Rattle.station.specs.History.{Call, calls_on, Runs, fresh, offering, resetting, station_of}
use Rattle.station.specs.declared.Health.TheVariants.{Unknown, Usable, NotUsable}
use Rattle.station.specs.Queries.{kept_at, all_counts, is_slot, is_empty, top_of_b, satellite_of, l_of, model_of, l_counted, status_of, judged, is_known, status_in, health_by}
use Rattle.station.specs.Said.{calls_of}
use Rattle.station.specs.Demand1.{WellMade, RefusalLeaves, ShutLeaves}
use Rattle.station.specs.Demand2.{Counted}
use Rattle.station.specs.Demand3.{Answered, SameShown, SameBooks, BookRule}
use Rattle.station.specs.Health.{KnownIn, UsableIn, HealthIn, DifferInBit65, ReservedBit, health_before, UsedUnfit, RulesDiffer}
use Rattle.station.specs.Demands.{AllDemands}
use Rattle.station.proofs.Served.{served_below}
use Rattle.station.proofs.ChannelRuns.{in_step, after_none, after_some, reset_none, reset_some, row_offers}
use Rattle.station.proofs.EveryHistory.{every_history}
use Rattle.station.proofs.EveryCall.{station_answers, strings_answer, station_numbers, string_numbers, no_output_byte}
use Rattle.station.proofs.Gathered.{checking, again, encoding, relative, by_name, ranges, round_trips}
use Rattle.station.proofs.Sent.{heard_as_sent}
use Rattle.station.proofs.EitherWay.{either_way, histories_alike}
use Rattle.station.proofs.BookRule.{empty_exactly, greatest_there}
use Rattle.station.proofs.Reorder.{offer_said, reset_said, same_book}
use Rattle.station.proofs.Summary.{shown_filled, held, summary_rule}
use Rattle.station.proofs.WellMade.{runs_made}
use Rattle.station.proofs.Exchange.{runs_of, every_run, exchanged, reordered}
use Rattle.station.proofs.Tallied.{tallied}
use Rattle.station.proofs.Isolation.{others_leave, answered_alike, isolated}
use Rattle.station.proofs.Relock.{relocked}

-- ---- DEMAND 1
pub shut_leaves : (st : Station) (card c : ℕ) → is_served card c ≡ false → ShutLeaves st card c
shut_leaves st card c e =
    record { offers = λ epoch s r o. o.station ∙ after_none st card c epoch s e; resets = λ r o. o.station ∙ reset_none st card c e }

pub refusal_leaves : (st : Station) (card c epoch : ℕ) (s : List ℕ) (r : Stepped) → WellMade st → is_served card c ≡ true
    → OffersTo st card c epoch s r → is_taken r.answer ≡ false → RefusalLeaves st c (number_said r.answer) r.station
refusal_leaves st card c epoch s r made e o n =
    let row = row_at st c in
    let next = offered_row row epoch s in
    let p = row_offers st card c epoch s r e o in
    let q : stores_it (frame_of row) epoch s ≡ false = ap (λ (t : Bool). t && not (is_here (frame_of row) epoch (whole_of s))) (sym (taken_exactly row epoch s (record { row = next; answer = r.answer }) p) ∙ n) in
    subst (RefusalLeaves st c (number_said r.answer)) (sym (o.station ∙ after_some st card c epoch s e)) (record {
      book = ap (λ (t : Bool). pick t (brought st.book (shows_of (frame_of next))) st.book) q;
      summary = ap (λ (t : Bool). corrected (t && changes st.book (shows_of (frame_of next))) (book_after st.book row epoch s) st.summary) q;
      others = λ k d. get_or-set_other st.rows c k next no_row d;
      own = subst (OnlyCounted (number_said r.answer) row) (sym (get_or-set_same st.rows c next no_row (omega (arith, served_below card c e, made.rows))))
          (refused_only row epoch s (record { row = next; answer = r.answer }) p n);
    })

-- ---- every answer is what the calls before determine
pub answered : (cs : List Call) (st : Station) → Runs cs st → Answered cs st
answered cs st run = record { offers = offer_said cs st run; resets = reset_said cs st }

-- ---- DEMAND 2
pub counted : (cs : List Call) (st : Station) → Runs cs st → (card c : ℕ) → is_served card c ≡ true → Counted cs st c
counted cs st run card c e =
    let i = (in_step cs st run).run c (served_below card c e) in
    let t = tallies_are (calls_on c cs) (row_at st c) i in
    let start = start_is (calls_on c cs) (row_at st c) i in
    record {
      frame = held_is (calls_on c cs) (row_at st c) i;
      kept = record_is (calls_on c cs) (row_at st c) i;
      kept_start = start;
      told_start = λ q w told f. (f.words w told refl).1 ∙ start;
      offered = t.offered;
      clean = t.clean;
      repaired = t.repaired;
      refused = t.refused;
      cause = t.cause;
      adds_up = tallies_add_up (calls_on c cs) (row_at st c) i;
    }

-- of every station
pub taken_counts : (st : Station) (card c epoch : ℕ) (s : List ℕ) (r : Stepped) → WellMade st → is_served card c ≡ true → OffersTo st card c epoch s r
    → is_taken r.answer ≡ true → TakenCounted r.answer (row_at st c).tallies (row_at r.station c).tallies
taken_counts st card c epoch s r made e o n =
    let row = row_at st c in
    let next = offered_row row epoch s in
    subst (λ (x : Row). TakenCounted r.answer row.tallies x.tallies)
    (sym (ap (λ (x : Station). row_at x c) (o.station ∙ after_some st card c epoch s e) ∙ get_or-set_same st.rows c next no_row (omega (arith, served_below card c e, made.rows))))
    (taken_counted row epoch s (record { row = next; answer = r.answer }) (row_offers st card c epoch s r e o) n)

pub reset_counts : (st : Station) (card c : ℕ) (r : Emptied) → WellMade st → is_served card c ≡ true → Resets st card c r → all_counts (row_at r.station c).tallies ≡ replicate 14 0
unfolding empty_row
reset_counts st card c r made e o =
    ap (λ (x : Station). all_counts (row_at x c).tallies) (o.station ∙ reset_some st card c e)
    ∙ ap (λ (x : Row). all_counts x.tallies) (get_or-set_same st.rows c empty_row no_row (omega (arith, served_below card c e, made.rows)))

-- ---- DEMAND 3
pub two_stations : (cs ds : List Call) → SameShown cs ds → SameBooks cs ds
two_stations cs ds same st st' run run' = same_book cs ds st st' run run' (λ k u. (same k u).0) (λ k u. (same k u).1)

pub book_rule : (cs : List Call) (st : Station) → Runs cs st → (slot : ℕ) → 1 ≤ slot → slot ≤ slots → BookRule cs st slot
book_rule cs st run slot least most = record { greatest = greatest_there cs st run slot least most; empty = empty_exactly cs st run slot least most }

-- ---- HEALTH
-- when l counts
l_counts : (m l : ℕ) → (l_counted m l ≡ 0) ↔ ((m ≡ 0) ⊎ (l ≡ 0))
l_counts m l = by (eqb m 0) refl
  where
    by : (t : Bool) → eqb m 0 ≡ t → (pick t 0 l ≡ 0) ↔ ((m ≡ 0) ⊎ (l ≡ 0))
    by true p = ((λ e. inl (eqb-true m 0 p)), (λ e. refl))
    by false p = (inr, ⊎_elim (λ (z : m ≡ 0). absurd (eqb-false m 0 p z)) (λ (z : l ≡ 0). z))

-- what the judgement says
judged_usable : (b l c : ℕ) → (judged b l c ≡ Usable) ↔ ((b ≡ 0) × ((l ≡ 0) × (c ≡ 1)))
unfolding judged
judged_usable b l c = by (eqb b 0) (eqb l 0) (eqb c 1) refl refl refl
  where
    by : (t u v : Bool) → eqb b 0 ≡ t → eqb l 0 ≡ u → eqb c 1 ≡ v → (pick (t && (u && v)) Usable NotUsable ≡ Usable) ↔ ((b ≡ 0) × ((l ≡ 0) × (c ≡ 1)))
    by true true true p q r = ((λ e. (eqb-true b 0 p, (eqb-true l 0 q, eqb-true c 1 r))), (λ e. refl))
    by true true false p q r = ((λ e. let z : ◌≡◌ {A = ℕ} 0 1 = cc in absurd (omega arith)), (λ e. absurd (eqb-false c 1 r e.1.1)))
    by true false v p q r = ((λ e. let z : ◌≡◌ {A = ℕ} 0 1 = cc in absurd (omega arith)), (λ e. absurd (eqb-false l 0 q e.1.0)))
    by false u v p q r = ((λ e. let z : ◌≡◌ {A = ℕ} 0 1 = cc in absurd (omega arith)), (λ e. absurd (eqb-false b 0 p e.0)))

not_both : Unknown ≡ Usable → ⊥
not_both q = let z : ◌≡◌ {A = ℕ} 0 1 = cc in omega arith

-- it is never unknown
not_unknown : (b l c : ℕ) → judged b l c ≡ Unknown → ⊥
unfolding judged
not_unknown b l c = by (eqb b 0 && (eqb l 0 && eqb c 1))
  where
    by : (t : Bool) → pick t Usable NotUsable ≡ Unknown → ⊥
    by true q = let z : ◌≡◌ {A = ℕ} 0 1 = cc in omega arith
    by false q = let z : ◌≡◌ {A = ℕ} 0 1 = cc in omega arith

-- so where it is not usable, it says so
not_usable : (b l c : ℕ) → (judged b l c ≡ Usable → ⊥) → judged b l c ≡ NotUsable
unfolding judged
not_usable b l c = by (eqb b 0 && (eqb l 0 && eqb c 1))
  where
    by : (t : Bool) → (pick t Usable NotUsable ≡ Usable → ⊥) → pick t Usable NotUsable ≡ NotUsable
    by true n = absurd (n refl)
    by false n = refl

-- the judgement of a record and a book
abbrev judgement : Immediate → Book → Health
judgement i b = judged (top_of_b i) (l_counted (model_of i) (l_of i)) (status_in i b)

module _ (cs : List Call) (st : Station) (run : Runs cs st) (card c : ℕ) (e : is_served card c ≡ true) where
  kept_is : record_in (kept_at st c) ≡ record_after (calls_on c cs)
  kept_is = record_is (calls_on c cs) (row_at st c) ((in_step cs st run).run c (served_below card c e))

  -- a record, and an entry for its n, in the station: so the calls give them
  known_there : has_record (kept_at st c) ≡ true → is_slot (satellite_of (kept_at st c)) ≡ true → is_empty st.book (satellite_of (kept_at st c)) ≡ false → KnownIn cs c
  unfolding record_in
  known_there h l n =
      let i = kept_at st c in
      let k = satellite_of i in
      let b = both (leb 1 k) (leb k slots) l in
      record {
        one = string_at i.strings 0;
        two = string_at i.strings 1;
        three = string_at i.strings 2;
        four = string_at i.strings 3;
        kept = sym kept_is ∙ rw h;
        slot = l;
        entry = meaning (in_slot st.book k);
        greatest = greatest_there cs st run k (leb-true 1 k b.0) (leb-true k slots b.1) (eqb-false (in_slot st.book k).day 0 n);
      }

  -- and back
  module _ (w : KnownIn cs c) where
    abbrev n : ℕ
    n = word_of w.four 15 11

    -- there is a record, and it is those four strings
    there : (has_record (kept_at st c) ≡ true) × (kept_four (kept_at st c) ≡ w.one ∷ w.two ∷ w.three ∷ w.four ∷ [])
    unfolding record_in
    there = by (has_record (kept_at st c)) refl (kept_is ∙ w.kept)
      where
        by : (t : Bool) → has_record (kept_at st c) ≡ t → pick t (kept_four (kept_at st c)) [] ≡ w.one ∷ w.two ∷ w.three ∷ w.four ∷ []
            → (has_record (kept_at st c) ≡ true) × (kept_four (kept_at st c) ≡ w.one ∷ w.two ∷ w.three ∷ w.four ∷ [])
        by true h q = (h, q)
        by false h q = let z : ◌≡◌ {A = ℕ} 0 4 = ap length q in absurd (omega arith)

    -- the bits of it that decide
    abbrev top : ℕ
    top = word_of w.two 80 80

    abbrev its-l : ℕ
    its-l = l_counted (word_of w.four 10 9) (word_of w.three 65 65)

    top-is : top_of_b (kept_at st c) ≡ top
    top-is = ap (λ (l : List ℕ). word_of (get_or l 1 0) 80 80) there.1

    l-is : l_counted (model_of (kept_at st c)) (l_of (kept_at st c)) ≡ its-l
    l-is = ap (λ (l : List ℕ). l_counted (word_of (get_or l 3 0) 10 9) (word_of (get_or l 2 0) 65 65)) there.1

    its-slot : satellite_of (kept_at st c) ≡ n
    its-slot = ap (λ (l : List ℕ). word_of (get_or l 3 0) 15 11) there.1

    not_empty : (in_slot st.book n).day ≡ 0 → ⊥
    not_empty = shown_filled cs st run n w.entry w.greatest.shown

    -- the slot holds that entry
    its-entry : meaning (in_slot st.book n) ≡ w.entry
    its-entry = held cs st run n w.entry w.greatest

    -- so the judgement decides
    known-judged : health_by (kept_at st c) st.book ≡ judged top its-l (status_of w.entry)
    unfolding health_by
    known-judged =
        rw (there.0, its-slot, w.slot, ne_eqb (in_slot st.book n).day 0 not_empty)
        (ap₂ (λ (b l : ℕ). judged b l (status_of (meaning (in_slot st.book n)))) top-is l-is ∙ ap (λ (t : Three). judged top its-l (status_of t)) its-entry)

  -- what the station's own answer stands on
  health_is : (h : Health) → health_by (kept_at st c) st.book ≡ h → ((h ≡ Unknown) × (KnownIn cs c → ⊥)) ⊎ KnownIn cs c
  unfolding health_by
  health_is h = by (has_record (kept_at st c)) (is_slot (satellite_of (kept_at st c))) (is_empty st.book (satellite_of (kept_at st c))) refl refl refl
    where
      none : health_by (kept_at st c) st.book ≡ Unknown → KnownIn cs c → ⊥
      none q w = not_unknown (top w) (its-l w) (status_of w.entry) (sym (known-judged w) ∙ q)

      by : (t u v : Bool) → has_record (kept_at st c) ≡ t → is_slot (satellite_of (kept_at st c)) ≡ u → is_empty st.book (satellite_of (kept_at st c)) ≡ v
          → pick (t && (u && not v)) (judgement (kept_at st c) st.book) Unknown ≡ h → ((h ≡ Unknown) × (KnownIn cs c → ⊥)) ⊎ KnownIn cs c
      by true true false a b d q = inr (known_there a b d)
      by true true true a b d q = inl (sym q, none (rw (a, b, d)))
      by true false v a b d q = inl (sym q, none (rw (a, b)))
      by false u v a b d q = inl (sym q, none (rw a))

  -- HEALTH OVER THE CALLS
  pub health_in : HealthIn cs c (health_by (kept_at st c) st.book)
  health_in =
      let h = health_by (kept_at st c) st.book in
      let split = health_is h refl in
      record {
        unknown = (
          (λ q w. not_unknown (top w) (its-l w) (status_of w.entry) (sym (known-judged w) ∙ q)),
          (λ n. ⊎_elim (λ (x : (h ≡ Unknown) × (KnownIn cs c → ⊥)). x.0) (λ (w : KnownIn cs c). absurd (n w)) split),
        );
        usable = (
          (λ q. ⊎_elim (λ (x : (h ≡ Unknown) × (KnownIn cs c → ⊥)). absurd (not_both (sym x.0 ∙ q)))
              (λ (w : KnownIn cs c).
              let j = (judged_usable (top w) (its-l w) (status_of w.entry)).0 (sym (known-judged w) ∙ q) in
              record { known = w; top_of_B = j.0; m_or_l = (l_counts (word_of w.four 10 9) (word_of w.three 65 65)).0 j.1.0; status = j.1.1 }) split),
          (λ (u : UsableIn cs c).
              let w = u.known in
              let l = (l_counts (word_of w.four 10 9) (word_of w.three 65 65)).1 u.m_or_l in
              known-judged w ∙ (judged_usable (top w) (its-l w) (status_of w.entry)).1 (u.top_of_B, (l, u.status))),
        );
      }

-- ---- WHAT l CHANGED
-- there is a record where there is one with another string 3: no word of a string 3 can be out of range
same_record : (i j : Immediate) → DifferInBit65 i j → has_record j ≡ has_record i
unfolding has_record
same_record i j d =
    let s = i.strings in
    let r = j.strings in
    four_good_lem (string_at r 0) (string_at r 1) (string_at r 2) (string_at r 3)
    ∙ ap₂ (λ (x y : ℕ). is_good One x && is_good Two y) d.one d.two
    ∙ sym (four_good_lem (string_at s 0) (string_at s 1) (string_at s 2) (string_at s 3))

pub reserved_bit : ReservedBit
unfolding health_by
reserved_bit i j b d old = rw (same_record i j d, d.two, d.four, old)

module _ (i : Immediate) (b : Book) where
  abbrev M : ℕ
  M = word_of (string_at i.strings 3) 10 9

  abbrev l : ℕ
  l = word_of (string_at i.strings 2) 65 65

  not_by_l : (M ≡ 0 → ⊥) → l ≡ 1 → judgement i b ≡ Usable → ⊥
  not_by_l other raised q =
      ⊎_elim other (λ (z : l ≡ 0). omega arith) ((l_counts M l).0 ((judged_usable (top_of_b i) (l_counted M l) (status_in i b)).0 q).1.0)

  never_usable : (M ≡ 0 → ⊥) → l ≡ 1 → health_by i b ≡ Usable → ⊥
  unfolding health_by
  never_usable other raised = by (is_known i b)
    where
      by : (t : Bool) → pick t (judgement i b) Unknown ≡ Usable → ⊥
      by true q = not_by_l other raised q
      by false q = not_both q

  not_usable_now : UsedUnfit i b → health_by i b ≡ NotUsable
  unfolding health_by health_before
  not_usable_now u = by (is_known i b) u.before
    where
      by : (t : Bool) → pick t (pick (eqb (top_of_b i) 0 && eqb (status_in i b) 1) Usable NotUsable) Unknown ≡ Usable → pick t (judgement i b) Unknown ≡ NotUsable
      by true q = not_usable (top_of_b i) (l_counted M l) (status_in i b) (not_by_l u.M u.l)
      by false q = absurd (not_both q)

  -- l counts and is not 0: then M is not 00, and l is 1
  used_unfit : health_before i b ≡ Usable → (l_counted M l ≡ 0 → ⊥) → UsedUnfit i b
  used_unfit q n =
      let z : l ≡ 0 → ⊥ = λ e. n ((l_counts M l).1 (inr e)) in
      record { before = q; M = λ e. n ((l_counts M l).1 (inl e)); l = omega (arith, word_lt (string_at i.strings 2) 65 65) }

  as_before : (UsedUnfit i b → ⊥) → health_by i b ≡ health_before i b
  unfolding health_by judged health_before
  as_before n = by (is_known i b) (eqb (top_of_b i) 0) (eqb (l_counted M l) 0) (eqb (status_in i b) 1) refl refl refl refl
    where
      by : (t u v w : Bool) → is_known i b ≡ t → eqb (top_of_b i) 0 ≡ u → eqb (l_counted M l) 0 ≡ v → eqb (status_in i b) 1 ≡ w
          → pick t (pick (u && (v && w)) Usable NotUsable) Unknown ≡ pick t (pick (u && w) Usable NotUsable) Unknown
      by true true true w p q r s = refl
      by true true false true p q r s = absurd (n (used_unfit (rw (p, q, s)) (eqb-false (l_counted M l) 0 r)))
      by true true false false p q r s = refl
      by true false v w p q r s = refl
      by false u v w p q r s = refl

pub rules_differ : (i : Immediate) (b : Book) → RulesDiffer i b
rules_differ i b = record { there = not_usable_now i b; elsewhere = as_before i b }

-- ---- the station that the calls leave, as a function
pub runs_is : (cs : List Call) (st : Station) → Runs cs st → st ≡ station_of cs
unfolding station_of
runs_is cs st fresh = refl
runs_is cs st (offering card c epoch s ds before r run o) = o.station ∙ ap (λ (x : Station). station_after x card c epoch s) (runs_is ds before run)
runs_is cs st (resetting card c ds before r run o) = o.station ∙ ap (λ (x : Station). station_reset x card c) (runs_is ds before run)

-- ---- THE DEMANDS
pub demands : AllDemands
demands =
    record {
      fresh_answers = record { answer = fresh_station; fits = refl; only = λ other q. q };
      station_answers = station_answers;
      strings_answer = strings_answer;
      station_numbers = station_numbers;
      string_numbers = string_numbers;
      damaged_exactly = damaged_exactly;
      refused = refusal_leaves;
      shut_out = shut_leaves;
      no_output_byte = no_output_byte;
      checking = checking;
      checked_again = again;
      encoding = encoding;
      relative = relative;
      sent = heard_as_sent;
      either_way = either_way;
      histories_alike = histories_alike;
      by_name = by_name;
      ranges = ranges;
      round_trips = round_trips;
      tallies = λ all st run card c e. tallied all st run c (counted (calls_of all) st (runs_of all st run) card c e);
      counts = counted;
      taken_counts = taken_counts;
      reset_counts = reset_counts;
      every_run = every_run;
      said_run = runs_of;
      every = every_history;
      one_station = runs_is;
      made = runs_made;
      answers = answered;
      exchange = λ later earlier x y st differ. exchanged x y differ later earlier st;
      reordering = reordered;
      two_stations = two_stations;
      book = book_rule;
      summary = summary_rule;
      others_leave = others_leave;
      answered_alike = λ card st st' w w' agree. answered_alike card st st' agree w.rows w'.rows;
      isolated = isolated;
      every_beat = λ h phase. let w = every_phase h phase in (w.0, (w.1, w.2));
      relock = relocked;
      health = health_in;
      reserved_bit = reserved_bit;
      never_usable = never_usable;
      rules_differ = rules_differ;
    }
