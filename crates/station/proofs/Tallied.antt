-- The tallies are the counts of the answers that the calls gave since the channel's reset (tallied).
-- Assumes nothing.
use mathlib.Core.Path.{◌≡◌, refl, sym, ap, ap₂, ◌∙◌}
use mathlib.Core.Bool.{Bool, true, false, not, ◌&&◌, true≢false}
use mathlib.Core.List.{List, [], ◌∷◌, map}
use Prim.Native.Nat.{ℕ, ◌+◌, min}
use native.Mathlib.Omega.{arith}
use borrow.Author.Tests.{eqb-true}
use lib.Dec.{eqb}
use lib.ListN.{length, get_or}
use Rattle.strings.specs.Pick.{pick, is_one_of}
use Rattle.strings.specs.declared.Verdict.TheVariants.{Clean, Repaired}
use Rattle.tallies.specs.Tallies.{Outcome, is_offer, is_clean, is_repaired, is_refused, causes, is_refused_by, plus_if, how_many}
use Rattle.tallies.specs.Tallies.Outcome.{Refused, Taken}
use Rattle.tallies.proofs.Whose.{each}
use Rattle.channel.specs.History.{said_since, counts_as}
use Rattle.station.specs.declared.Station.{Station}
use Rattle.station.specs.Station.{fresh_station}
use Rattle.station.specs.History.{Call, Offer, Reset, itself, shut_said, is_on, calls_on, calls_by, said_on, said_after}
use Rattle.station.specs.Said.{Said, RunsFrom, calls_of}
use Rattle.station.specs.Demand2.{since_reset, answers_since, says_no, says_number, says_clean, says_repaired, count, Tallied, Counted}
use Rattle.station.proofs.ChannelRuns.{on_both}
use Rattle.station.proofs.Exchange.{AllTold, all_told}

-- ---- what an answer says, and what it counts as
refused_says : (a : List ℕ) → is_refused (counts_as a) ≡ says_no a
refused_says a = by (eqb (get_or a 0 0) 0) (eqb (get_or a 2 0) 0)
  where
    by : (t u : Bool) → is_refused (pick t (Taken (pick u Clean (Repaired (get_or a 3 0)))) (Refused (get_or a 0 0))) ≡ not t
    by true true = refl
    by true false = refl
    by false u = refl

clean_says : (a : List ℕ) → is_clean (counts_as a) ≡ says_clean a
clean_says a = by (eqb (get_or a 0 0) 0) (eqb (get_or a 2 0) 0)
  where
    by : (t u : Bool) → is_clean (pick t (Taken (pick u Clean (Repaired (get_or a 3 0)))) (Refused (get_or a 0 0))) ≡ (not (not t) && u)
    by true true = refl
    by true false = refl
    by false u = refl

repaired_says : (a : List ℕ) → is_repaired (counts_as a) ≡ says_repaired a
repaired_says a = by (eqb (get_or a 0 0) 0) (eqb (get_or a 2 0) 0)
  where
    by : (t u : Bool) → is_repaired (pick t (Taken (pick u Clean (Repaired (get_or a 3 0)))) (Refused (get_or a 0 0))) ≡ (not (not t) && not u)
    by true true = refl
    by true false = refl
    by false u = refl

-- no cause has the number 0, with which the answer to a taken offer begins
not_zero : (k : ℕ) → is_one_of causes k ≡ true → eqb 0 k ≡ false
not_zero = each (λ (k : ℕ). eqb 0 k ≡ false) causes (refl, (refl, (refl, (refl, (refl, (refl, (refl, (refl, (refl, (refl, tt))))))))))

cause_says : (k : ℕ) → is_one_of causes k ≡ true → (a : List ℕ) → is_refused_by k (counts_as a) ≡ says_number k a
cause_says k m a = by (eqb (get_or a 0 0) 0) refl
  where
    by : (t : Bool) → eqb (get_or a 0 0) 0 ≡ t
        → is_refused_by k (pick t (Taken (pick (eqb (get_or a 2 0) 0) Clean (Repaired (get_or a 3 0)))) (Refused (get_or a 0 0))) ≡ eqb (get_or a 0 0) k
    by true q = sym (not_zero k m) ∙ ap (λ (n : ℕ). eqb n k) (sym (eqb-true (get_or a 0 0) 0 q))
    by false q = refl

-- ---- counting
many_is : (p : Outcome → Bool) (says : List ℕ → Bool) → ((a : List ℕ) → p (counts_as a) ≡ says a) → (l : List (List ℕ)) → how_many p (map counts_as l) ≡ count says l
many_is p says e [] = refl
many_is p says e (a ∷ l) = by (p (counts_as a)) (says a) (e a) (many_is p says e l)
  where
    by : (t u : Bool) → t ≡ u → how_many p (map counts_as l) ≡ count says l → plus_if t (how_many p (map counts_as l)) ≡ pick u (count says l + 1) (count says l)
    by true true q ih = ap (λ (n : ℕ). n + 1) ih
    by true false q ih = absurd (true≢false q)
    by false true q ih = absurd (true≢false (sym q))
    by false false q ih = ih

all_are : (l : List (List ℕ)) → how_many is_offer (map counts_as l) ≡ length l
all_are [] = refl
all_are (a ∷ l) = omega (arith, all_are l)

-- ---- the answers since the reset are those that the calls on the channel determine
since_is : (all : List Said) → AllTold all → (c : ℕ) → answers_since c all ≡ said_since (calls_on c (calls_of all))
unfolding answers_since said_since calls_by said_after
since_is [] t c = refl
since_is (x ∷ before) t c = by x.call x.answer t.0 (since_is before t.1 c)
  where
    cs : List Call
    cs = calls_of before

    by : (call : Call) (a : List ℕ) → a ≡ said_after cs call → answers_since c before ≡ said_since (calls_on c cs)
        → since_reset c call a (answers_since c before) ≡ said_since (calls_on c (call ∷ cs))
    by (Offer card k epoch s) a q ih = own (is_on c (Offer card k epoch s)) refl
      where
        own : (b : Bool) → is_on c (Offer card k epoch s) ≡ b → pick b (a ∷ answers_since c before) (answers_since c before)
            ≡ said_since (pick b (itself (Offer card k epoch s) ∷ calls_on c cs) (calls_on c cs))
        own true w =
            ap₂ (λ (x : List ℕ) (l : List (List ℕ)). x ∷ l)
            (let p = on_both (Offer card k epoch s) c w in
            q ∙ ap (λ (b : Bool). pick b (said_on (itself (Offer card k epoch s)) (calls_on k cs)) (shut_said (Offer card k epoch s))) p.0
            ∙ ap (λ (j : ℕ). said_on (itself (Offer card k epoch s)) (calls_on j cs)) p.1) ih
        own false w = ih
    by (Reset card k) a q ih = own (is_on c (Reset card k))
      where
        own : (b : Bool) → pick b [] (answers_since c before) ≡ said_since (pick b (itself (Reset card k) ∷ calls_on c cs) (calls_on c cs))
        own true = refl
        own false = ih

-- THE TALLIES ARE THE TRUE COUNTS
pub tallied : (all : List Said) (st : Station) → RunsFrom fresh_station all st → (c : ℕ) → Counted (calls_of all) st c → Tallied all st c
tallied all st run c n =
    let l = answers_since c all in
    let q : map counts_as (said_since (calls_on c (calls_of all))) ≡ map counts_as l = ap (map counts_as) (sym (since_is all (all_told all st run) c)) in
    record {
      offered = n.offered ∙ ap (min 4294967295) (ap (how_many is_offer) q ∙ all_are l);
      clean = n.clean ∙ ap (min 4294967295) (ap (how_many is_clean) q ∙ many_is is_clean says_clean clean_says l);
      repaired = n.repaired ∙ ap (min 4294967295) (ap (how_many is_repaired) q ∙ many_is is_repaired says_repaired repaired_says l);
      refused = n.refused ∙ ap (min 4294967295) (ap (how_many is_refused) q ∙ many_is is_refused says_no refused_says l);
      cause = λ k m. n.cause k m ∙ ap (min 4294967295) (ap (how_many (is_refused_by k)) q ∙ many_is (is_refused_by k) (says_number k) (cause_says k m) l);
    }
