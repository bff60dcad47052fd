-- Blocks of two cards: call by call from what is proved of a station's calls, then over the calls of a block (the statements stand in
-- `specs/Isolation.antt`).
-- Assumes nothing.
use mathlib.Core.Path.{◌≡◌, refl, sym, ap, ap₂, subst, ◌∙◌}
use mathlib.Core.Bool.{Bool, true, false}
use mathlib.Core.List.{List, [], ◌∷◌}
use Prim.Native.Nat.{ℕ}
use lib.ListN.{length, replicate, drop}
use Rattle.strings.specs.Pick.{pick}
use Rattle.fields.specs.declared.Why.{Why}
use Rattle.std.specs.Prelude.{Result, ⊤}
use Rattle.fields.specs.Block.{Call, Offer, Reset, call_in, calls_in}
use Rattle.channel.specs.Offers.{answer_paper, offer_tests}
use Rattle.station.specs.declared.Station.{Station}
use Rattle.station.specs.declared.Stepped.{Stepped}
use Rattle.station.specs.declared.Emptied.{Emptied}
use Rattle.station.specs.Station.{is_card, is_served, held_at, told_in, station_after, OffersTo, station_reset, Resets}
use Rattle.station.specs.Demand1.{WellMade}
use Rattle.station.specs.Isolation.{AgreeFor}
use Rattle.station.proofs.Served.{enters_no_card, shut_says_lem}
use Rattle.station.proofs.EveryHistory.{some_answer, offer_answers, reset_answer, reset_answers}
use Rattle.station.proofs.WellMade.{offer_made, reset_made}
use Rattle.station.proofs.Demands.{demands}
use Rattle.blocks.specs.declared.Taken.{Taken}
use Rattle.blocks.specs.Taking.{answer_in, after_call, after_calls, answers_to, answer_among, field_says, calls_at, Takes}
use Rattle.blocks.specs.Along.{Along}
use Rattle.blocks.specs.Isolation.{channel_named, let_in, HandedAlike, Isolation}
use Rattle.blocks.proofs.Along.{as_calls}
use Rattle.blocks.proofs.Laws.{told_same, ended_same}

-- ---- what an offer and a reset leave, as their contracts have them
offered : Station → ℕ → ℕ → ℕ → List ℕ → Stepped
offered st card c epoch s = record { station = station_after st card c epoch s; answer = (some_answer st card c epoch s).answer }

offers : (st : Station) (card c epoch : ℕ) (s : List ℕ) → OffersTo st card c epoch s (offered st card c epoch s)
unfolding offered
offers st card c epoch s = offer_answers st card c epoch s

emptied : Station → ℕ → ℕ → Emptied
emptied st card c = record { station = station_reset st card c; answer = reset_answer card c }

resets : (st : Station) (card c : ℕ) → Resets st card c (emptied st card c)
unfolding emptied
resets st card c = reset_answers st card c

-- ---- one call
call_made : (st : Station) (card : ℕ) (call : Call) → WellMade st → WellMade (after_call st card call)
unfolding after_call offered emptied
call_made st card (Offer c epoch s) w = offer_made st card c epoch s (offered st card c epoch s) w (offers st card c epoch s)
call_made st card (Reset c) w = reset_made st card c (emptied st card c) w (resets st card c)

own_call : (card : ℕ) (st st' : Station) → WellMade st → WellMade st' → AgreeFor card st st' → (call : Call)
    → (answer_in st card call ≡ answer_in st' card call) × AgreeFor card (after_call st card call) (after_call st' card call)
unfolding answer_in after_call offered emptied
own_call card st st' w w' agree (Offer c epoch s) =
    let a =
    (demands.answered_alike card st st' w w' agree).offers c epoch s (offered st card c epoch s) (offered st' card c epoch s) (offers st card c epoch s)
    (offers st' card c epoch s) in
    (sym (some_answer st card c epoch s).is ∙ ap answer_paper a.0 ∙ (some_answer st' card c epoch s).is, a.1)
own_call card st st' w w' agree (Reset c) = (
  refl,
  ((demands.answered_alike card st st' w w' agree).resets c (emptied st card c) (emptied st' card c) (resets st card c) (resets st' card c)).1,
)

other_call : (card : ℕ) (st : Station) (other : ℕ) → (other ≡ card → ⊥) → (call : Call) → AgreeFor card (after_call st other call) st
unfolding after_call offered emptied
other_call card st other n (Offer c epoch s) = (demands.others_leave card st).offers other c epoch s (offered st other c epoch s) n (offers st other c epoch s)
other_call card st other n (Reset c) = (demands.others_leave card st).resets other c (emptied st other c) n (resets st other c)

shut_call : (st : Station) (card : ℕ) (call : Call) → is_served card (channel_named call) ≡ false → after_call st card call ≡ st
unfolding after_call offered emptied
shut_call st card (Offer c epoch s) e = (demands.shut_out st card c e).offers epoch s (offered st card c epoch s) (offers st card c epoch s)
shut_call st card (Reset c) e = (demands.shut_out st card c e).resets (emptied st card c) (resets st card c)

-- ---- the calls of a block
own_calls_lem : (card : ℕ) (st st' : Station) → WellMade st → WellMade st' → AgreeFor card st st' → (calls : List Call)
    → (answers_to st card calls ≡ answers_to st' card calls) × AgreeFor card (after_calls st card calls) (after_calls st' card calls)
unfolding answers_to after_calls
own_calls_lem card st st' w w' agree [] = (refl, agree)
own_calls_lem card st st' w w' agree (call ∷ calls) =
    let a = own_call card st st' w w' agree call in
    let b = own_calls_lem card (after_call st card call) (after_call st' card call) (call_made st card call w) (call_made st' card call w') a.1 calls in
    (ap₂ (λ (l : List ℕ) (ls : List (List ℕ)). l ∷ ls) a.0 b.0, b.1)

other_calls : (card : ℕ) (st : Station) (other : ℕ) → (other ≡ card → ⊥) → (calls : List Call) → AgreeFor card (after_calls st other calls) st
unfolding after_calls
other_calls card st other n [] k h w = refl
other_calls card st other n (call ∷ calls) k h w = other_calls card (after_call st other call) other n calls k h w ∙ other_call card st other n call k h w

only_let_in : (card : ℕ) (calls : List Call) (st : Station) → after_calls st card calls ≡ after_calls st card (let_in card calls)
unfolding after_calls let_in
only_let_in card [] st = refl
only_let_in card (call ∷ calls) st = by (is_served card (channel_named call)) refl (λ x. only_let_in card calls x)
  where
    by : (b : Bool) → is_served card (channel_named call) ≡ b → ((x : Station) → after_calls x card calls ≡ after_calls x card (let_in card calls))
        → after_calls (after_call st card call) card calls ≡ after_calls st card (pick b (call ∷ let_in card calls) (let_in card calls))
    by true e rest = rest (after_call st card call)
    by false e rest = ap (λ (x : Station). after_calls x card calls) (shut_call st card call e) ∙ rest st

-- ---- a card that there is not
module _ (card : ℕ) (none : is_card card ≡ false) where
  not_let_in : (call : Call) → is_served card (channel_named call) ≡ false
  not_let_in (Offer c epoch s) = (enters_no_card card c none).0
  not_let_in (Reset c) = (enters_no_card card c none).0

  said_16 : (st : Station) (call : Call) → answer_in st card call ≡ 16 ∷ []
  unfolding answer_in
  said_16 st (Offer c epoch s) =
      let e = enters_no_card card c none in
      shut_says_lem card c (offer_tests (held_at st c) epoch s) (told_in st c epoch s) e.0 ∙ sym e.1
  said_16 st (Reset c) = sym (enters_no_card card c none).1

  all_16 : (st : Station) (calls : List Call) → (answers_to st card calls ≡ replicate (length calls) (16 ∷ [])) × (after_calls st card calls ≡ st)
  unfolding answers_to after_calls
  all_16 st [] = (refl, refl)
  all_16 st (call ∷ calls) =
      let b = all_16 (after_call st card call) calls in
      (ap₂ (λ (l : List ℕ) (ls : List (List ℕ)). l ∷ ls) (said_16 st call) b.0, b.1 ∙ shut_call st card call (not_let_in call))

-- ---- a field
module _ (card : ℕ) (st st' : Station) (w : WellMade st) (w' : WellMade st') (agree : AgreeFor card st st') where
  among_alike : (calls : List Call) → answer_among st card calls ≡ answer_among st' card calls
  among_alike [] = refl
  among_alike (call ∷ calls) = (own_call card st st' w w' agree call).0

  says_alike : (block : List ℕ) (at : ℕ) → field_says st card block at ≡ field_says st' card block at
  unfolding field_says
  says_alike block at = rw (among_alike (call_in (drop at block)))

  own_field : (block : List ℕ) (at : ℕ) (r r' : Taken) → Takes st card block at r → Takes st' card block at r'
      → (r.told ≡ r'.told) × ((r.after ≡ r'.after) × AgreeFor card r.station r'.station)
  own_field block at r r' t t' = (
    told_same r.told r'.told (t.answer ∙ says_alike block at ∙ sym t'.answer),
    (
      t.next ∙ sym t'.next,
      subst (λ (x : Station). AgreeFor card x r'.station) (sym t.station)
          (subst (AgreeFor card (after_calls st card (calls_at block at))) (sym t'.station) (own_calls_lem card st st' w w' agree (calls_at block at)).1),
    ),
  )

  own_block : (block : List ℕ) (answers answers' : List (List ℕ)) (last last' : Station) (ended ended' : Result ⊤ (Why × ℕ)) → Along card block st 0 answers last ended
      → Along card block st' 0 answers' last' ended' → HandedAlike card answers answers' last last' ended ended'
  own_block block answers answers' last last' ended ended' along along' =
      let a = as_calls st card block answers last ended along in
      let b = as_calls st' card block answers' last' ended' along' in
      let o = own_calls_lem card st st' w w' agree (calls_in block) in
      record {
        same_answers = a.same_answers ∙ o.0 ∙ sym b.same_answers;
        same_end = ended_same ended ended' (a.end ∙ sym b.end);
        agree = subst (λ (x : Station). AgreeFor card x last') (sym a.same_station)
            (subst (AgreeFor card (after_calls st card (calls_in block))) (sym b.same_station) o.1);
      }

pub isolation : Isolation
isolation =
    record {
      shut_out = λ st card block r o. o.station ∙ only_let_in card (calls_in block) st;
      no_card = λ st card block answers last ended none along.
          let a = as_calls st card block answers last ended along in
          let n = all_16 card none st (calls_in block) in
          record { answered = a.same_answers ∙ n.0; station = a.same_station ∙ n.1; end = a.end };
      others_leave = λ card st other block r n o.
          subst (λ (x : Station). AgreeFor card x st) (sym o.station) (other_calls card st other n (calls_in block));
      others_field = λ card st other block at r n t.
          subst (λ (x : Station). AgreeFor card x st) (sym t.station) (other_calls card st other n (calls_at block at));
      own_field = λ card st st' block at r r' w w' agree. own_field card st st' w w' agree block at r r';
      own_block = λ card st st' block answers answers' last last' ended ended' w w' agree.
          own_block card st st' w w' agree block answers answers' last last' ended ended';
    }
