-- What `gather` finds: from what each query does (record-refused, five-refused, no-entry, all_there).
-- Assumes nothing.
use Prim.Native.Nat.{ℕ}
use mathlib.Core.Bool.{Bool, true, false, not, ◌&&◌}
use mathlib.Core.List.{[], ◌∷◌, ◌++◌}
use mathlib.Core.Path.{◌≡◌, refl, sym, ap, subst, ◌∙◌}
use lib.IntN.{ℤ, nat_abs}
use Rattle.strings.specs.declared.Refusal.{Refusal}
use Rattle.std.specs.Prelude.{Result, Ok, Err}
use Rattle.strings.specs.declared.Refusal.TheVariants.{Nothing, Slot}
use Rattle.strings.specs.Numbers.{refusal_paper, test, answer_of}
use Rattle.strings.proofs.Answer.{not_taken}
use Rattle.strings.proofs.Below.{both}
use Rattle.records.specs.declared.named.ImmediateWords.{ImmediateWords}
use Rattle.records.specs.declared.named.String5.{String5}
use Rattle.immediate.specs.Kept.{has_record}
use Rattle.rinex.specs.Record.{From}
use Rattle.station.specs.declared.Station.{Station}
use Rattle.station.specs.Station.{is_card, is_served, gate_tests}
use Rattle.station.specs.Queries.{kept_at, is_slot, is_empty, FindsRecord}
use Rattle.station.proofs.Served.{open_says, shut_says_lem, shut_not_zero, served_parts}
use Rattle.navigation_queries.specs.Five.{is_five_at, five_at, FindsFive}
use Rattle.navigation_queries.specs.Carrier.{has_entry, carrier_at, FindsCarrier}
use Rattle.navigation.specs.Writes.{words_at, n_at, is_there}
use Rattle.navigation.specs.Gathers.{Gathers, AsRead}
use Rattle.navigation.proofs.Read.{as_read}

-- a query that was refused gathered nothing
no_parts : {r : Refusal} {w v : ImmediateWords} {n4 h m k : ℤ} → ◌≡◌ {A = Result (ImmediateWords × ℤ × ℤ) Refusal} (Err r) (Ok (w, n4, h)) → (w ≡ v) × ((n4 ≡ m) × (h ≡ k))
no_parts q = (cc, (cc, cc))

same_parts : {w v : ImmediateWords} {n4 h m k : ℤ} → ◌≡◌ {A = Result (ImmediateWords × ℤ × ℤ) Refusal} (Ok (w, n4, h)) (Ok (v, m, k)) → (w ≡ v) × ((n4 ≡ m) × (h ≡ k))
same_parts {w = w} {n4 = n4} {h = h} q =
    (ap words q, (ap (number n4 true) q, ap (number h false) q))
  where
    words : Result (ImmediateWords × ℤ × ℤ) Refusal → ImmediateWords
    words (Ok (x, y, z)) = x
    words (Err r) = w

    number : ℤ → Bool → Result (ImmediateWords × ℤ × ℤ) Refusal → ℤ
    number d true (Ok (x, y, z)) = y
    number d false (Ok (x, y, z)) = z
    number d first (Err r) = d

-- the gate, and 13 where something is not there
module _ (card c : ℕ) where
  -- told 0: the call is served, and it is there
  pub told_zero : (a : Bool) → 0 ∷ [] ≡ answer_of (gate_tests card c ++ (test 13 (not a) ∷ [])) [] → (is_served card c ≡ true) × (a ≡ true)
  told_zero a e = by (is_served card c) refl a e
    where
      by : (t : Bool) → is_served card c ≡ t → (a : Bool) → 0 ∷ [] ≡ answer_of (gate_tests card c ++ (test 13 (not a) ∷ [])) [] → (is_served card c ≡ true) × (a ≡ true)
      by true s true e = (s, refl)
      by true s false e = absurd (not_taken Nothing [] (sym (e ∙ open_says card c (test 13 true ∷ []) [] s)))
      by false s a e = absurd (shut_not_zero card c s (e ∙ shut_says_lem card c (test 13 (not a) ∷ []) [] s))

  -- refused because it is not there: so is all that it is a part of
  pub told_no : (a b : Bool) (why : Refusal) → (a ≡ false → b ≡ false) → refusal_paper why ≡ answer_of (gate_tests card c ++ (test 13 (not a) ∷ [])) []
      → refusal_paper why ≡ answer_of (gate_tests card c ++ (test 13 (not b) ∷ [])) []
  told_no a b why f e = by (is_served card c) refl a refl
    where
      by : (t : Bool) → is_served card c ≡ t → (u : Bool) → a ≡ u → refusal_paper why ≡ answer_of (gate_tests card c ++ (test 13 (not b) ∷ [])) []
      by false s u q = e ∙ shut_says_lem card c (test 13 (not a) ∷ []) [] s ∙ sym (shut_says_lem card c (test 13 (not b) ∷ []) [] s)
      by true s true q = absurd (not_taken why [] (e ∙ open_says card c (test 13 (not a) ∷ []) [] s ∙ rw q))
      by true s false q = e ∙ ap (λ (x : Bool). answer_of (gate_tests card c ++ (test 13 (not x) ∷ [])) []) (q ∙ sym (f q))

-- a part that is not there
and_second : (a b : Bool) → b ≡ false → (a && b) ≡ false
and_second true b e = e
and_second false b e = refl

and_first : (a b : Bool) → a ≡ false → (a && b) ≡ false
and_first a b e = rw e

-- ---- the entry of n, by what the query of its carrier number says to one of the cards
module _ (st : Station) (card n : ℕ) (there : is_card card ≡ true) where
  entry_missing : (why : Refusal) → FindsCarrier st card n (Err why) → has_entry st n ≡ false
  entry_missing why a = by (is_slot n) (is_empty st.book n) refl refl (rw there at a.answer)
    where
      by : (t u : Bool) → is_slot n ≡ t → is_empty st.book n ≡ u → refusal_paper why ≡ answer_of (test 14 (not (is_slot n)) ∷ test 13 (is_empty st.book n) ∷ []) []
          → has_entry st n ≡ false
      by true true p q e = rw (p, q)
      by true false p q e = absurd (not_taken why [] (e ∙ rw (p, q)))
      by false u p q e = rw p

  entry_there : (h : ℤ) → FindsCarrier st card n (Ok h) → has_entry st n ≡ true
  entry_there h a = by (is_slot n) (is_empty st.book n) refl refl (rw there at a.answer)
    where
      by : (t u : Bool) → is_slot n ≡ t → is_empty st.book n ≡ u → 0 ∷ [] ≡ answer_of (test 14 (not (is_slot n)) ∷ test 13 (is_empty st.book n) ∷ []) []
          → has_entry st n ≡ true
      by true true p q e = absurd (not_taken Nothing [] (sym (e ∙ rw (p, q))))
      by true false p q e = rw (p, q)
      by false u p q e = absurd (not_taken Slot [] (sym (e ∙ rw p)))

-- ---- what the code gathers
module _ (st : Station) (card c : ℕ) where
  pub record_refused : (why : Refusal) → FindsRecord st card c (Err why) → Gathers st card c (Err why)
  record_refused why a =
      record {
        answer = told_no card c (has_record (kept_at st c)) (is_there st c) why (and_first (has_record (kept_at st c)) _) a.answer;
        parts = λ w n4 h q. no_parts q;
      }

  pub five_refused : (why : Refusal) → FindsFive st card c (Err why) → Gathers st card c (Err why)
  five_refused why a =
      record {
        answer =
            told_no card c (is_five_at st c) (is_there st c) why
            (λ e. and_second (has_record (kept_at st c)) _ (and_first (is_five_at st c) _ e)) a.answer;
        parts = λ w n4 h q. no_parts q;
      }

  module _ (w : ImmediateWords) (start : ℕ) (found : FindsRecord st card c (Ok (w, start))) where
    served : is_served card c ≡ true
    served = (told_zero card c (has_record (kept_at st c)) found.answer).0

    pub kept : has_record (kept_at st c) ≡ true
    kept = (told_zero card c (has_record (kept_at st c)) found.answer).1

    card_there : is_card card ≡ true
    card_there = (served_parts card c served).0

    pub words_are : w ≡ words_at st c
    words_are = (found.words w start refl).0

    pub n_read : From 0 31 w.four.n
    n_read = subst (λ (x : ImmediateWords). From 0 31 x.four.n) (sym words_are) (as_read st c kept).satellite

    n_is : nat_abs w.four.n ≡ n_at st c
    n_is = ap (λ (x : ImmediateWords). nat_abs x.four.n) words_are

    pub no_entry : (n : ℕ) → n ≡ nat_abs w.four.n → (why : Refusal) → FindsCarrier st card n (Err why) → Gathers st card c (Err Nothing)
    no_entry n e why a =
        let missing : has_entry st (n_at st c) ≡ false = subst (λ (k : ℕ). has_entry st k ≡ false) (e ∙ n_is) (entry_missing st card n card_there why a) in
        let nothing : is_there st c ≡ false = and_second (has_record (kept_at st c)) _ (and_second (is_five_at st c) _ missing) in
        record { answer = sym (open_says card c (test 13 (not (is_there st c)) ∷ []) [] served ∙ rw nothing); parts = λ w n4 h q. no_parts q }

    pub all_there : (n : ℕ) → n ≡ nat_abs w.four.n → (five : String5) → FindsFive st card c (Ok five) → (h : ℤ) → FindsCarrier st card n (Ok h)
        → Gathers st card c (Ok (w, five.n4, h))
    all_there n e five f h a =
        let has : has_entry st (n_at st c) ≡ true = subst (λ (k : ℕ). has_entry st k ≡ true) (e ∙ n_is) (entry_there st card n card_there h a) in
        let there : is_there st c ≡ true = rw (kept, (told_zero card c (is_five_at st c) f.answer).1, has) in
        record {
          answer = sym (open_says card c (test 13 (not (is_there st c)) ∷ []) [] served ∙ rw there);
          parts = λ v n4 k q. let s = same_parts q in (
            sym s.0 ∙ words_are,
            (
              sym s.1.0 ∙ ap (λ (x : String5). x.n4) (f.words five refl),
              sym s.1.1 ∙ a.carrier h refl ∙ ap (carrier_at st) (e ∙ n_is),
            ),
          );
        }

-- what was gathered is as a record's bits give it
pub gathered_read : (st : Station) (card c : ℕ) (w : ImmediateWords) (n4 h : ℤ) → Gathers st card c (Ok (w, n4, h)) → AsRead w n4
gathered_read st card c w n4 h g =
    let p = g.parts w n4 h refl in
    let there = (told_zero card c (is_there st c) g.answer).1 in
    subst (λ (x : ℤ). AsRead w x) (sym p.1.0) (subst (λ (x : ImmediateWords). AsRead x (five_at st c).n4) (sym p.0) (as_read st c (both (has_record (kept_at st c)) _ there).0))
