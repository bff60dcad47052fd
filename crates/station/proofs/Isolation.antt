-- Two cards on one book: a call by another card leaves a card's rows (others-leave), a card's own calls are answered by its own rows (answered-alike), and
-- so over any calls (isolated). Each answer and each station is computed from the calls (saidFrom, stationFrom), so that the lists need one induction each.
-- Assumes nothing.
use Prim.Native.Nat.{ℕ}
use mathlib.Core.Bool.{Bool, true, false, not, true≢false}
use mathlib.Core.List.{List, [], ◌∷◌, ◌++◌}
use mathlib.Core.Path.{◌≡◌, refl, sym, ap, ap₂, subst, ◌∙◌}
use borrow.Author.Tests.{eqb-true, eqb-false}
use lib.Dec.{eqb}
use lib.ListN.{length}
use Rattle.strings.specs.Pick.{pick}
use Rattle.strings.specs.declared.Refusal.{Refusal}
use Rattle.std.specs.Prelude.{Result, Ok, Err}
use Rattle.strings.specs.Numbers.{Test, test, answer_of}
use Rattle.strings.proofs.Answer.{refusal_same, not_taken, written_same}
use Rattle.channel.specs.declared.Row.{Row}
use Rattle.channel.specs.Row.{frame_of}
use Rattle.channel.specs.Offers.{offer_tests, told_to, offered_row}
use Rattle.channel.proofs.Answers.{answer_same}
use Rattle.records.specs.declared.named.ImmediateWords.{ImmediateWords}
use Rattle.words.specs.Immediate.{immediate_of}
use Rattle.immediate.specs.Kept.{has_record}
use Rattle.station.specs.declared.Station.{Station}
use Rattle.station.specs.Station.{channels, owner_of, row_at, is_served, gate_tests, station_tests, told_in, station_after, station_reset, shut_says}
use Rattle.station.specs.Queries.{record_paper, FindsRecord, all_counts, FindsTallies}
use Rattle.station.specs.Demand1.{WellMade}
use Rattle.station.specs.History.{Call, Offer, Reset, card_of}
use Rattle.station.specs.Said.{Said, said, RunsFrom, none, offers, resets, calls_of}
use Rattle.station.specs.Isolation.{AgreeFor, OthersLeave, AnsweredAlike, said_by, EveryIsolated}
use Rattle.station.proofs.Served.{shut_says_lem, shut_not_zero, served_below, owner_is}
use Rattle.station.proofs.ChannelRuns.{after_own, after_apart, reset_own, reset_apart}
use Rattle.station.proofs.EveryHistory.{some_answer, offer_answers, reset_answer, reset_answers}
use Rattle.station.proofs.QueriesOnce.{tallies_same}
use Rattle.station.proofs.WellMade.{offer_made, reset_made}

-- ---- another card's calls
module _ (card : ℕ) (st : Station) where
  -- a call that is let in on a channel is its owner's
  apart : (other c : ℕ) → (other ≡ card → ⊥) → (k : ℕ) → owner_of k ≡ card → is_served other c ≡ true → k ≡ c → ⊥
  apart other c n k w e q = n (sym (owner_is other c e) ∙ ap owner_of (sym q) ∙ w)

  pub others_leave : OthersLeave card st
  others_leave =
      record {
        offers = λ other c epoch s r n o k h w. ap (λ (x : Station). row_at x k) o.station ∙ after_apart st other c k (apart other c n k w) epoch s;
        resets = λ other c r n o k h w. ap (λ (x : Station). row_at x k) o.station ∙ reset_apart st other c k (apart other c n k w);
      }

-- ---- a card's own
module _ (card : ℕ) (st st' : Station) (agree : AgreeFor card st st') where
  -- an answer by the gate, and then by the channel's row alone
  pub by_row : (c : ℕ) (tests : Row → List Test) (told : Row → List ℕ)
      → answer_of (gate_tests card c ++ tests (row_at st c)) (told (row_at st c)) ≡ answer_of (gate_tests card c ++ tests (row_at st' c)) (told (row_at st' c))
  by_row c tests told = by (is_served card c) refl
    where
      by : (t : Bool) → is_served card c ≡ t
          → answer_of (gate_tests card c ++ tests (row_at st c)) (told (row_at st c)) ≡ answer_of (gate_tests card c ++ tests (row_at st' c)) (told (row_at st' c))
      by true e =
          ap (λ (x : Row). answer_of (gate_tests card c ++ tests x) (told x)) (agree c (served_below card c e) (owner_is card c e))
      by false e = shut_says_lem card c (tests (row_at st c)) (told (row_at st c)) e ∙ sym (shut_says_lem card c (tests (row_at st' c)) (told (row_at st' c)) e)

  -- a call that is not let in finds no record
  shut_finds : (x : Station) (c : ℕ) (w : ImmediateWords) (start : ℕ) → FindsRecord x card c (Ok (w, start)) → is_served card c ≡ false → ⊥
  shut_finds x c w start a q = shut_not_zero card c q (a.answer ∙ shut_says_lem card c (test 13 (not (has_record (row_at x c).immediate)) ∷ []) [] q)

  said_alike : (c epoch : ℕ) (s : List ℕ)
      → answer_of (station_tests st card c epoch s) (told_in st c epoch s) ≡ answer_of (station_tests st' card c epoch s) (told_in st' c epoch s)
  said_alike c epoch s = by_row c (λ x. offer_tests (frame_of x) epoch s) (λ x. told_to (frame_of x) epoch s)

  records_alike : (c : ℕ) (r r' : Result (ImmediateWords × ℕ) Refusal) → FindsRecord st card c r → FindsRecord st' card c r' → r ≡ r'
  records_alike c r r' a b = by r r' (a.answer ∙ by_row c (λ x. test 13 (not (has_record x.immediate)) ∷ []) (λ x. []) ∙ sym b.answer) a b
    where
      by : (r r' : Result (ImmediateWords × ℕ) Refusal) → record_paper r ≡ record_paper r' → FindsRecord st card c r → FindsRecord st' card c r' → r ≡ r'
      by (Ok (w, s)) (Ok (v, t)) e a b = found (is_served card c) refl
        where
          found : (served : Bool) → is_served card c ≡ served → ◌≡◌ {A = Result (ImmediateWords × ℕ) Refusal} (Ok (w, s)) (Ok (v, t))
          found true q =
              let same = agree c (served_below card c q) (owner_is card c q) in
              let x = a.words w s refl in
              let y = b.words v t refl in
              ap₂ (λ (u : ImmediateWords) (z : ℕ). Ok (u, z)) (x.0 ∙ ap (λ (z : Row). immediate_of z.immediate.strings) same ∙ sym y.0) (x.1 ∙ ap (λ (z : Row). z.immediate.start) same ∙ sym y.1)
          found false q = absurd (shut_finds st c w s a q)
      by (Ok (w, s)) (Err q) e a b = absurd (not_taken q [] (sym e))
      by (Err p) (Ok (v, s)) e a b = absurd (not_taken p [] e)
      by (Err p) (Err q) e a b = ap Err (refusal_same p q e)

  module _ (long : length st.rows ≡ channels) (long' : length st'.rows ≡ channels) where
    -- the row of the call is its card's, and every other stays
    agree_after : (c epoch : ℕ) (s : List ℕ) → AgreeFor card (station_after st card c epoch s) (station_after st' card c epoch s)
    agree_after c epoch s k h w = by (eqb k c) refl (is_served card c) refl
      where
        still : (is_served card c ≡ true → k ≡ c → ⊥) → row_at (station_after st card c epoch s) k ≡ row_at (station_after st' card c epoch s) k
        still n = after_apart st card c k n epoch s ∙ agree k h w ∙ sym (after_apart st' card c k n epoch s)

        by : (t : Bool) → eqb k c ≡ t → (u : Bool) → is_served card c ≡ u → row_at (station_after st card c epoch s) k ≡ row_at (station_after st' card c epoch s) k
        by false q u e = still (λ f p. eqb-false k c q p)
        by true q false e = still (λ f p. true≢false (sym f ∙ e))
        by true q true e =
            let p = eqb-true k c q in
            subst (λ (j : ℕ). row_at (station_after st card c epoch s) j ≡ row_at (station_after st' card c epoch s) j) (sym p)
            (after_own st card c long e epoch s
            ∙ ap (λ (x : Row). offered_row x epoch s) (agree c (served_below card c e) (owner_is card c e)) ∙ sym (after_own st' card c long' e epoch s))

    agree-reset : (c : ℕ) → AgreeFor card (station_reset st card c) (station_reset st' card c)
    agree-reset c k h w = by (eqb k c) refl (is_served card c) refl
      where
        still : (is_served card c ≡ true → k ≡ c → ⊥) → row_at (station_reset st card c) k ≡ row_at (station_reset st' card c) k
        still n = reset_apart st card c k n ∙ agree k h w ∙ sym (reset_apart st' card c k n)

        by : (t : Bool) → eqb k c ≡ t → (u : Bool) → is_served card c ≡ u → row_at (station_reset st card c) k ≡ row_at (station_reset st' card c) k
        by false q u e = still (λ f p. eqb-false k c q p)
        by true q false e = still (λ f p. true≢false (sym f ∙ e))
        by true q true e =
            let p = eqb-true k c q in
            subst (λ (j : ℕ). row_at (station_reset st card c) j ≡ row_at (station_reset st' card c) j) (sym p)
            (reset_own st card c long e ∙ sym (reset_own st' card c long' e))

    -- A CARD'S OWN CALLS ARE ANSWERED BY ITS OWN ROWS
    pub answered_alike : AnsweredAlike card st st'
    unfolding FindsTallies
    answered_alike =
        record {
          offers = λ c epoch s r r' o p. (
            answer_same r.answer r'.answer (o.answer ∙ said_alike c epoch s ∙ sym p.answer),
            subst (λ (x : Station). AgreeFor card x r'.station) (sym o.station)
                (subst (AgreeFor card (station_after st card c epoch s)) (sym p.station) (agree_after c epoch s)),
          );
          resets = λ c r r' o p. (
            written_same r.answer r'.answer (o.answer ∙ sym p.answer),
            subst (λ (x : Station). AgreeFor card x r'.station) (sym o.station)
                (subst (AgreeFor card (station_reset st card c)) (sym p.station) (agree-reset c)),
          );
          records = records_alike;
          tallies = λ c r r' a b. tallies_same r r' (a ∙ by_row c (λ x. []) (λ x. all_counts x.tallies) ∙ sym b);
        }

-- ---- calls one after the other, as the station they leave and the answers that they give
left_by : Station → Call → Station
left_by st (Offer card c epoch s) = station_after st card c epoch s
left_by st (Reset card c) = station_reset st card c

told_by : Station → Call → List ℕ
told_by st (Offer card c epoch s) = answer_of (station_tests st card c epoch s) (told_in st c epoch s)
told_by st (Reset card c) = shut_says card c

station_from : Station → List Call → Station
station_from from [] = from
station_from from (call ∷ cs) = left_by (station_from from cs) call

said_from : Station → List Call → List Said
said_from from [] = []
said_from from (call ∷ cs) = said call (told_by (station_from from cs) call) ∷ said_from from cs

run_left : {from : Station} (all : List Said) (st : Station) → RunsFrom from all st → st ≡ station_from from (calls_of all)
unfolding station_from left_by
run_left all st none = refl
run_left all st (offers card c epoch s before old r run o) = o.station ∙ ap (λ (x : Station). station_after x card c epoch s) (run_left before old run)
run_left all st (resets card c before old r run o) = o.station ∙ ap (λ (x : Station). station_reset x card c) (run_left before old run)

run_said : {from : Station} (all : List Said) (st : Station) → RunsFrom from all st → all ≡ said_from from (calls_of all)
unfolding said_from told_by
run_said all st none = refl
run_said {from} all st (offers card c epoch s before old r run o) =
    ap₂ (λ (a : List ℕ) (l : List Said). said (Offer card c epoch s) a ∷ l)
    (o.answer ∙ ap (λ (x : Station). answer_of (station_tests x card c epoch s) (told_in x c epoch s)) (run_left before old run)) (run_said before old run)
run_said {from} all st (resets card c before old r run o) =
    ap₂ (λ (a : List ℕ) (l : List Said). said (Reset card c) a ∷ l) o.answer (run_said before old run)

left_made : (st : Station) (call : Call) → WellMade st → WellMade (left_by st call)
unfolding left_by
left_made st (Offer card c epoch s) w =
    offer_made st card c epoch s (record { station = station_after st card c epoch s; answer = (some_answer st card c epoch s).answer }) w (offer_answers st card c epoch s)
left_made st (Reset card c) w = reset_made st card c (record { station = station_reset st card c; answer = reset_answer card c }) w (reset_answers st card c)

from_made : (from : Station) (cs : List Call) → WellMade from → WellMade (station_from from cs)
unfolding station_from
from_made from [] w = w
from_made from (call ∷ cs) w = left_made (station_from from cs) call (from_made from cs w)

-- one call of a card's own, on two stations that agree for it; and one of another's
own_call : (card : ℕ) (st st' : Station) → WellMade st → WellMade st' → AgreeFor card st st' → (call : Call) → card_of call ≡ card
    → (told_by st call ≡ told_by st' call) × AgreeFor card (left_by st call) (left_by st' call)
unfolding left_by told_by
own_call card st st' w w' agree (Offer asker c epoch s) q =
    subst
    (λ (k : ℕ). (answer_of (station_tests st k c epoch s) (told_in st c epoch s) ≡ answer_of (station_tests st' k c epoch s) (told_in st' c epoch s)) × AgreeFor card (station_after st k c epoch s) (station_after st' k c epoch s))
    (sym q) (said_alike card st st' agree c epoch s, agree_after card st st' agree w.rows w'.rows c epoch s)
own_call card st st' w w' agree (Reset asker c) q =
    (refl, subst (λ (k : ℕ). AgreeFor card (station_reset st k c) (station_reset st' k c)) (sym q) (agree-reset card st st' agree w.rows w'.rows c))

other_call : (card : ℕ) (st : Station) (call : Call) → (card_of call ≡ card → ⊥) → AgreeFor card (left_by st call) st
unfolding left_by
other_call card st (Offer asker c epoch s) n k h w = after_apart st asker c k (apart card st asker c n k w) epoch s
other_call card st (Reset asker c) n k h w = reset_apart st asker c k (apart card st asker c n k w)

-- ---- a card's own calls among others
calls_by : ℕ → List Call → List Call
calls_by card [] = []
calls_by card (call ∷ cs) = pick (eqb (card_of call) card) (call ∷ calls_by card cs) (calls_by card cs)

calls_by_lem : (card : ℕ) (all : List Said) → calls_of (said_by card all) ≡ calls_by card (calls_of all)
unfolding said_by calls_by
calls_by_lem card [] = refl
calls_by_lem card (x ∷ before) = by (eqb (card_of x.call) card) (calls_by_lem card before)
  where
    by : (t : Bool) → calls_of (said_by card before) ≡ calls_by card (calls_of before)
        → calls_of (pick t (x ∷ said_by card before) (said_by card before)) ≡ pick t (x.call ∷ calls_by card (calls_of before)) (calls_by card (calls_of before))
    by true e = ap (λ (l : List Call). x.call ∷ l) e
    by false e = e

agree_trans : (card : ℕ) (a b c : Station) → AgreeFor card a b → AgreeFor card b c → AgreeFor card a c
agree_trans card a b c p q k h w = p k h w ∙ q k h w

-- without the other's calls: the same answers, and stations that agree
module _ (card : ℕ) (from : Station) (made : WellMade from) where
  alone : (cs : List Call) → (said_by card (said_from from cs) ≡ said_from from (calls_by card cs)) × AgreeFor card (station_from from cs) (station_from from (calls_by card cs))
  unfolding said_by calls_by said_from station_from
  alone [] = (refl, λ k h w. refl)
  alone (call ∷ cs) = by (eqb (card_of call) card) refl (alone cs)
    where
      by : (t : Bool) → eqb (card_of call) card ≡ t
          → (said_by card (said_from from cs) ≡ said_from from (calls_by card cs)) × AgreeFor card (station_from from cs) (station_from from (calls_by card cs))
          → (pick t (said call (told_by (station_from from cs) call) ∷ said_by card (said_from from cs)) (said_by card (said_from from cs))
          ≡ said_from from (pick t (call ∷ calls_by card cs) (calls_by card cs)))
          × AgreeFor card (left_by (station_from from cs) call) (station_from from (pick t (call ∷ calls_by card cs) (calls_by card cs)))
      by true q ih =
          let o = own_call card (station_from from cs) (station_from from (calls_by card cs)) (from_made from cs made) (from_made from (calls_by card cs) made) ih.1 call
          (eqb-true (card_of call) card q)
          in
          (ap₂ (λ (a : List ℕ) (l : List Said). said call a ∷ l) o.0 ih.0, o.1)
      by false q ih =
          let st = station_from from cs in
          (ih.0, agree_trans card (left_by st call) st (station_from from (calls_by card cs)) (other_call card st call (eqb-false (card_of call) card q)) ih.1)

-- the same calls of a card from two stations that agree for it
module _ (card : ℕ) (from from' : Station) (made : WellMade from) (made' : WellMade from') (agree : AgreeFor card from from') where
  together : (cs : List Call)
      → (said_from from (calls_by card cs) ≡ said_from from' (calls_by card cs)) × AgreeFor card (station_from from (calls_by card cs)) (station_from from' (calls_by card cs))
  unfolding calls_by said_from station_from
  together [] = (refl, agree)
  together (call ∷ cs) = by (eqb (card_of call) card) refl (together cs)
    where
      by : (t : Bool) → eqb (card_of call) card ≡ t
          → (said_from from (calls_by card cs) ≡ said_from from' (calls_by card cs)) × AgreeFor card (station_from from (calls_by card cs)) (station_from from' (calls_by card cs))
          → (said_from from (pick t (call ∷ calls_by card cs) (calls_by card cs)) ≡ said_from from' (pick t (call ∷ calls_by card cs) (calls_by card cs)))
          × AgreeFor card (station_from from (pick t (call ∷ calls_by card cs) (calls_by card cs))) (station_from from' (pick t (call ∷ calls_by card cs) (calls_by card cs)))
      by true q ih =
          let o = own_call card (station_from from (calls_by card cs)) (station_from from' (calls_by card cs)) (from_made from (calls_by card cs) made)
          (from_made from' (calls_by card cs) made') ih.1 call (eqb-true (card_of call) card q)
          in
          (ap₂ (λ (a : List ℕ) (l : List Said). said call a ∷ l) o.0 ih.0, o.1)
      by false q ih = ih

-- "WHATEVER ONE CARD OFFERS OR RESETS, THE OTHER'S ROW ANSWERS, REFUSALS, RECORDS AND TALLIES ARE THE SAME"
pub isolated : EveryIsolated
isolated card from from' all other st st' made made' agree run run' same =
    let cs = calls_of all in
    let ds = calls_of other in
    let q : calls_by card cs ≡ calls_by card ds = sym (calls_by_lem card all) ∙ same ∙ calls_by_lem card other in
    let a = alone card from made cs in
    let b = alone card from' made' ds in
    let t = together card from from' made made' agree cs in
    let sides : AgreeFor card (station_from from cs) (station_from from' ds) =
    agree_trans card (station_from from cs) (station_from from (calls_by card cs)) (station_from from' ds) a.1
    (agree_trans card (station_from from (calls_by card cs)) (station_from from' (calls_by card cs)) (station_from from' ds) t.1
    (subst (λ (l : List Call). AgreeFor card (station_from from' l) (station_from from' ds)) (sym q) (λ k h w. sym (b.1 k h w))))
    in
    let ends : AgreeFor card st st' =
    subst (λ (x : Station). AgreeFor card x st') (sym (run_left all st run)) (subst (AgreeFor card (station_from from cs)) (sym (run_left other st' run')) sides)
    in
    let long : (x : Station) (f : Station) (l : List Said) → RunsFrom f l x → WellMade f → length x.rows ≡ channels =
    λ x f l r w. ap (λ (y : Station). length y.rows) (run_left l x r) ∙ (from_made f (calls_of l) w).rows
    in
    record {
      answers = ap (said_by card) (run_said all st run) ∙ a.0 ∙ t.0 ∙ ap (said_from from') q ∙ sym (ap (said_by card) (run_said other st' run') ∙ b.0);
      agree = ends;
      next = answered_alike card st st' ends (long st from all run made) (long st' from' other run' made');
    }
