-- A lent life since `spineyarrow_fresh`, with no book joined, is a history with these answers (as-history), so what is demanded of histories holds of it
-- (demanded): of the tallies that the host sees (tallies-seen), of two calls exchanged (exchanged), and of two hosts with the same calls on
-- each channel (reordered).
-- Assumes nothing.
use Prim.Native.Nat.{ℕ, ◌+◌}
use native.Mathlib.Omega.{arith}
use mathlib.Core.Bool.{Bool, true, false, not, ◌&&◌, true≢false}
use mathlib.Core.List.{List, [], ◌∷◌, ◌++◌, map}
use mathlib.Core.Path.{◌≡◌, refl, sym, ap, ap₂, subst, ◌∙◌}
use borrow.Author.Tests.{eq-eqb}
use lib.Dec.{eqb, ltb}
use lib.ListN.{length, drop}
use Rattle.strings.specs.Pick.{pick, is_one_of}
use Rattle.strings.specs.Numbers.{test, answer_of}
use Rattle.fields.specs.declared.Why.TheVariants.{Tag, Length, Cut}
use Rattle.fields.specs.Fields.{tag_in, body_in, is_good}
use Rattle.fields.specs.Block.{Call as InField, Offer as InOffer, Reset as InReset, offer_of, reset_of, call_in}
use Rattle.fields.proofs.Whole.{size_none}
use Rattle.wire.specs.Bytes.{book_from}
use Rattle.station.specs.declared.Station.{Station}
use Rattle.station.specs.declared.Stepped.{Stepped}
use Rattle.station.specs.declared.Emptied.{Emptied}
use Rattle.station.specs.Station.{fresh_station, last_channel, owner_of, row_at, is_card, is_served, station_tests, shut_says, told_in, station_after, station_reset}
use Rattle.station.specs.Queries.{all_counts}
use Rattle.station.specs.History.{Call, Offer as MadeOffer, Reset as MadeReset, channel_of, calls_on}
use Rattle.station.specs.Said.{Said, said, RunsFrom, none, offers, resets, calls_of as calls_in}
use Rattle.station.specs.Demand2.{Tallied}
use Rattle.station.specs.Demand3.{SameCalls}
use Rattle.station.proofs.Served.{served_parts}
use Rattle.station.proofs.EveryHistory.{some_answer, offer_answers, reset_answer, reset_answers}
use Rattle.station.proofs.Demands.{demands}
use Rattle.sites.specs.Joining.{site_joined}
use Rattle.blocks.specs.declared.Told.{Told}
use Rattle.blocks.specs.declared.Told.TheVariants.{End, Offered, Emptied as Reset', Remark, Refused}
use Rattle.blocks.specs.declared.Taken.{Taken}
use Rattle.blocks.specs.Taking.{answer_in, after_call, after_calls, answers_to, field_says, calls_at, Takes}
use Rattle.blocks.specs.Handing.{is_last}
use Rattle.blocks.specs.Along.{answers_in}
use Rattle.blocks.specs.Histories.{made, said_then}
use Rattle.blocks.proofs.Found.{none_where}
use Rattle.blocks.proofs.Steps.{goes_on}
use Rattle.blocks.proofs.Along.{taken, takes, answers_are}
use Rattle.told.specs.Told.{packed}
use Rattle.lent_blocks.specs.Taking.{numbers_in, TakesLent}
use Rattle.lent_blocks.specs.Laws.{lowest_of, above_of, answers_read}
use Rattle.lent_blocks.proofs.Laws.{laws as block-laws}
use Rattle.lent_queries.specs.Lent.{left_in}
use Rattle.lent_sites.specs.Lent.{book_length}
use Rattle.lent_life.specs.Life.{Tallies, LentCall, Fresh, Offer, Reset, Field, Join, Ask, Back, Numbers, Seen, calls_of, Tells, LivesLent}
use Rattle.lent_life.specs.Histories.{then_made, history_in, is_alone, number_in, answers_seen, Demanded, true_counts, in_one, AsHistory}
use Rattle.lent_life.proofs.Told.{tells_are}
use Rattle.lent_life.proofs.Same.{back_of, left_all, seen_all, lives_are}

-- ---- the calls with their answers, the latest first
abbrev said_by : Station → LentCall → List Said → List Said
said_by st Fresh before = []
said_by st (Offer card c epoch s) before = said (MadeOffer card c epoch s) (answer_of (station_tests st card c epoch s) (told_in st c epoch s)) ∷ before
said_by st (Reset card c) before = said (MadeReset card c) (shut_says card c) ∷ before
said_by st (Field card block at) before = said_then before card (calls_at block at) (answers_to st card (calls_at block at))
said_by st (Join s) before = before
said_by st (Ask q) before = before

abbrev said_in : Station → List LentCall → List Said
said_in from [] = []
said_in from (call ∷ calls) = said_by (left_all from calls) call (said_in from calls)

-- ---- they lead from a fresh station to what is left
module _ (before : List Said) (st : Station) (card : ℕ) (run : RunsFrom fresh_station before st) where
  offer_more : (c epoch : ℕ) (s : List ℕ)
      → RunsFrom fresh_station (said (MadeOffer card c epoch s) (answer_of (station_tests st card c epoch s) (told_in st c epoch s)) ∷ before) (station_after st card c epoch s)
  offer_more c epoch s =
      let r : Stepped = record { station = station_after st card c epoch s; answer = (some_answer st card c epoch s).answer } in
      subst (λ (a : List ℕ). RunsFrom fresh_station (said (MadeOffer card c epoch s) a ∷ before) (station_after st card c epoch s)) (some_answer st card c epoch s).is
      (offers card c epoch s before st r run (offer_answers st card c epoch s))

  reset_more : (c : ℕ) → RunsFrom fresh_station (said (MadeReset card c) (shut_says card c) ∷ before) (station_reset st card c)
  reset_more c =
      let r : Emptied = record { station = station_reset st card c; answer = reset_answer card c } in
      subst (λ (a : List ℕ). RunsFrom fresh_station (said (MadeReset card c) a ∷ before) (station_reset st card c)) (reset_answers st card c).answer
      (resets card c before st r run (reset_answers st card c))

field_more : (card : ℕ) (calls : List InField) (before : List Said) (st : Station) → RunsFrom fresh_station before st
    → RunsFrom fresh_station (said_then before card calls (answers_to st card calls)) (after_calls st card calls)
unfolding said_then answers_to after_calls answer_in after_call
field_more card [] before st run = run
field_more card (InOffer c epoch s ∷ calls) before st run = field_more card calls _ _ (offer_more before st card run c epoch s)
field_more card (InReset c ∷ calls) before st run = field_more card calls _ _ (reset_more before st card run c)

runs : (from : Station) (calls : List LentCall) → is_alone calls ≡ true → RunsFrom fresh_station (said_in from calls) (left_all from calls)
runs from [] e = absurd (true≢false (sym e))
runs from (Fresh ∷ calls) e = none
runs from (Offer card c epoch s ∷ calls) e = offer_more (said_in from calls) (left_all from calls) card (runs from calls e) c epoch s
runs from (Reset card c ∷ calls) e = reset_more (said_in from calls) (left_all from calls) card (runs from calls e) c
runs from (Field card block at ∷ calls) e = field_more card (calls_at block at) (said_in from calls) (left_all from calls) (runs from calls e)
runs from (Join s ∷ calls) e = by (eqb (length s) book_length) e (runs from calls)
  where
    by : (b : Bool) → (not b && is_alone calls) ≡ true → (is_alone calls ≡ true → RunsFrom fresh_station (said_in from calls) (left_all from calls))
        → RunsFrom fresh_station (said_in from calls) (pick b (site_joined (left_all from calls) (book_from s)) (left_all from calls))
    by true q ih = absurd (true≢false (sym q))
    by false q ih = ih q
runs from (Ask q ∷ calls) e = runs from calls e

-- ---- they are the calls of the history
then_calls_lem : (card : ℕ) (calls : List InField) (answers : List (List ℕ)) (before : List Said) → calls_in (said_then before card calls answers) ≡ then_made card calls (calls_in before)
unfolding said_then
then_calls_lem card [] answers before = refl
then_calls_lem card (call ∷ calls) [] before = then_calls_lem card calls [] (said (made card call) [] ∷ before)
then_calls_lem card (call ∷ calls) (answer ∷ answers) before = then_calls_lem card calls answers (said (made card call) answer ∷ before)

its_calls : (from : Station) (calls : List LentCall) → calls_in (said_in from calls) ≡ history_in calls
its_calls from [] = refl
its_calls from (Fresh ∷ calls) = refl
its_calls from (Offer card c epoch s ∷ calls) = ap (λ (l : List Call). MadeOffer card c epoch s ∷ l) (its_calls from calls)
its_calls from (Reset card c ∷ calls) = ap (λ (l : List Call). MadeReset card c ∷ l) (its_calls from calls)
its_calls from (Field card block at ∷ calls) =
    then_calls_lem card (calls_at block at) (answers_to (left_all from calls) card (calls_at block at)) (said_in from calls) ∙ ap (then_made card (calls_at block at)) (its_calls from calls)
its_calls from (Join s ∷ calls) = its_calls from calls
its_calls from (Ask q ∷ calls) = its_calls from calls

-- ---- and their answers are those that the host reads
-- a field has one call at most
one_said : (before : List Said) (st : Station) (card : ℕ) (block : List ℕ) (at : ℕ)
    → map in_one (said_then before card (calls_at block at) (answers_to st card (calls_at block at))) ≡ map packed (answers_to st card (calls_at block at)) ++ map in_one before
unfolding calls_at call_in said_then answers_to
one_said before st card block at = let rest = drop at block in by (is_good rest) (eqb (tag_in rest) 1) (eqb (tag_in rest) 2) (offer_of (body_in rest)) (reset_of (body_in rest))
  where
    by : (g a b : Bool) (x y : InField) → let calls = pick g (pick a (x ∷ []) (pick b (y ∷ []) [])) [] in
        map in_one (said_then before card calls (answers_to st card calls)) ≡ map packed (answers_to st card calls) ++ map in_one before
    by true true b x y = refl
    by true false true x y = refl
    by true false false x y = refl
    by false a b x y = refl

-- of a field that was taken
unmoved : (t : Told) → (is_last t ≡ false → ⊥) → answers_in t ≡ []
unmoved End n = refl
unmoved (Offered a) n = absurd (n refl)
unmoved (Reset' a) n = absurd (n refl)
unmoved Remark n = refl
unmoved (Refused why at) n = refl

module _ {st : Station} {card : ℕ} {block : List ℕ} {at : ℕ} {r : Taken} (t : Takes st card block at r) where
  pub its_answers : answers_in r.told ≡ answers_to st card (calls_at block at)
  unfolding answers_to
  its_answers = by (is_good (drop at block)) refl
    where
      by : (g : Bool) → is_good (drop at block) ≡ g → answers_in r.told ≡ answers_to st card (calls_at block at)
      by true e = answers_are t e
      by false e =
          let still : r.after ≡ at = t.next ∙ ap (λ (k : ℕ). at + k) (size_none (drop at block) e) ∙ omega arith in
          unmoved r.told (λ l. goes_on t l still) ∙ ap (answers_to st card) (sym (none_where block at e))

abbrev read_of : ℕ → ℕ → List ℕ
read_of low above = pick (is_one_of (1 ∷ 2 ∷ []) low) (above ∷ []) []

read_told : (t : Told) → read_of (lowest_of t) (above_of t) ≡ map packed (answers_in t)
read_told End = refl
read_told (Offered a) = refl
read_told (Reset' a) = refl
read_told Remark = refl
read_told (Refused Tag at) = refl
read_told (Refused Length at) = refl
read_told (Refused Cut at) = refl

field_read : (st : Station) (card : ℕ) (block : List ℕ) (at : ℕ)
    → map packed (answers_to st card (calls_at block at)) ≡ answers_read (packed (numbers_in (field_says st card block at)) ∷ [])
field_read st card block at =
    let q = taken st card block at in
    let t = takes st card block at in
    let k = packed (numbers_in (field_says st card block at)) in
    let lent : TakesLent st card block at (after_calls st card (calls_at block at)) k = record { answer = refl; station = refl } in
    let low = block-laws.lowest st card block at (after_calls st card (calls_at block at)) k q lent t in
    let above = block-laws.above st card block at (after_calls st card (calls_at block at)) k q lent t in
    ap (map packed) (sym (its_answers t)) ∙ sym (read_told q.told) ∙ ap₂ read_of (sym low) (sym above)

read : (from : Station) (calls : List LentCall) → map in_one (said_in from calls) ≡ answers_seen (seen_all from calls)
read from [] = refl
read from (Fresh ∷ calls) = refl
read from (Offer card c epoch s ∷ calls) = ap (λ (l : List ℕ). number_in (back_of (left_all from calls) (Offer card c epoch s)) ∷ l) (read from calls)
read from (Reset card c ∷ calls) = ap (λ (l : List ℕ). number_in (back_of (left_all from calls) (Reset card c)) ∷ l) (read from calls)
read from (Field card block at ∷ calls) =
    one_said (said_in from calls) (left_all from calls) card block at ∙ ap₂ ◌++◌ (field_read (left_all from calls) card block at) (read from calls)
read from (Join s ∷ calls) = read from calls
read from (Ask q ∷ calls) = read from calls

-- ---- what is demanded of it
pub demanded : (all : List Said) (st : Station) → RunsFrom fresh_station all st → Demanded all st
demanded all st run =
    let calls = demands.said_run all st run in
    record {
      one_station = demands.one_station (calls_in all) st calls;
      made = demands.made (calls_in all) st calls;
      answers = demands.answers (calls_in all) st calls;
      tallies = demands.tallies all st run;
      counts = demands.counts (calls_in all) st calls;
      exchange = λ later earlier x y e n. demands.exchange later earlier x y st n (subst (λ (l : List Said). RunsFrom fresh_station l st) e run);
      book = demands.book (calls_in all) st calls;
      summary = demands.summary (calls_in all) st calls;
      health = demands.health (calls_in all) st calls;
    }

-- A LENT LIFE WITH NO JOIN IS A HISTORY
pub as_history : (from : Station) (all : List Seen) (st : Station) → is_alone (calls_of all) ≡ true → LivesLent from all st → AsHistory all st
as_history from all st alone lives =
    let w = lives_are from all st lives in
    let run = subst (RunsFrom fresh_station (said_in from (calls_of all))) (sym w.1) (runs from (calls_of all) alone) in
    record {
      history = said_in from (calls_of all);
      run = run;
      its_calls = its_calls from (calls_of all);
      its_answers = read from (calls_of all) ∙ ap answers_seen (sym w.0);
      demanded = demanded (said_in from (calls_of all)) st run;
    }

-- ---- what the host sees of the tallies
counts_are : (all : List Said) (st : Station) (c : ℕ) → Tallied all st c → all_counts (row_at st c).tallies ≡ true_counts c all
counts_are all st c t =
    rw (
      t.offered,
      t.clean,
      t.repaired,
      t.refused,
      t.cause 2 refl,
      t.cause 31 refl,
      t.cause 32 refl,
      t.cause 33 refl,
      t.cause 4 refl,
      t.cause 5 refl,
      t.cause 6 refl,
      t.cause 7 refl,
      t.cause 8 refl,
      t.cause 9 refl,
    )
    refl

told_tallies : (a b d r : Bool) (made out : List ℕ) → a ≡ true → b ≡ false → d ≡ true → r ≡ true
    → Numbers (packed (answer_of (test 16 (not a) ∷ test 1 b ∷ test 15 (not d) ∷ test 12 (not r) ∷ []) []))
    (left_in (test 16 (not a) ∷ test 1 b ∷ test 15 (not d) ∷ test 12 (not r) ∷ []) made out)
    ≡ Numbers 0 made
told_tallies true false true true made out p q s t = refl
told_tallies true false true false made out p q s t = absurd (true≢false (sym t))
told_tallies true false false r made out p q s t = absurd (true≢false (sym s))
told_tallies true true d r made out p q s t = absurd (true≢false q)
told_tallies false b d r made out p q s t = absurd (true≢false (sym p))

pub tallies_seen : (all : List Seen) (st : Station) (h : AsHistory all st) (card c : ℕ) (out : List ℕ) (back : Back) → is_served card c ≡ true → length out ≡ 14
    → Tells st (Tallies card c out) back → back ≡ Numbers 0 (true_counts c h.history)
tallies_seen all st h card c out back served room told =
    let p = served_parts card c served in
    tells_are st (Tallies card c out) back told
    ∙ told_tallies (is_card card) (ltb last_channel c) (eqb (owner_of c) card) (eqb (length out) 14) (all_counts (row_at st c).tallies) out
    p.0 p.1.0 p.1.1 (eq-eqb (length out) 14 room)
    ∙ ap (Numbers 0) (counts_are h.history st c (h.demanded.tallies card c served))

-- ---- two calls exchanged
pub exchanged : (all other : List Seen) (st st' : Station) (h : AsHistory all st) (later earlier : List Said) (x y : Said) → AsHistory other st'
    → h.history ≡ later ++ (x ∷ y ∷ earlier) → (channel_of x.call ≡ channel_of y.call → ⊥) → history_in (calls_of other) ≡ calls_in (later ++ (y ∷ x ∷ earlier))
    → (answers_seen other ≡ map in_one (later ++ (y ∷ x ∷ earlier))) × (st' ≡ st)
exchanged all other st st' h later earlier x y g e n q =
    let w = (h.demanded.exchange later earlier x y e n).only g.history st' g.run (g.its_calls ∙ q) in
    (sym g.its_answers ∙ ap (map in_one) w.0, w.1)

-- ---- the same calls on each channel
pub reordered : (all other : List Seen) (st st' : Station) → AsHistory all st → AsHistory other st' → SameCalls (history_in (calls_of all)) (history_in (calls_of other)) → st ≡ st'
reordered all other st st' h g same =
    (demands.reordering h.history g.history st st' h.run g.run
    (λ card c served. ap (calls_on c) h.its_calls ∙ same card c served ∙ ap (calls_on c) (sym g.its_calls))).station
