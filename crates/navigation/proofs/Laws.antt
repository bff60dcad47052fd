-- The laws of a navigation record, whole. Assumes nothing.
use Prim.Native.Nat.{ℕ, zero, suc, ◌+◌, ◌*◌, ◌≤◌}
use mathlib.Core.Bool.{Bool, true, false, not, ◌&&◌, true≢false}
use mathlib.Core.List.{List, [], ◌∷◌}
use mathlib.Core.Logic.{⊎_elim}
use mathlib.Core.Path.{◌≡◌, refl, sym, ap, ap₂, subst, ◌∙◌}
use native.Mathlib.Omega.{arith}
use borrow.Author.Tests.{not-false, leb-true}
use lib.Dec.{eqb, leb}
use lib.IntN.{nat_abs}
use lib.ListN.{length, get_or}
use Rattle.strings.specs.declared.Refusal.{Refusal}
use Rattle.navigation.specs.declared.Unwritten.{Unwritten}
use Rattle.std.specs.Prelude.{Result, Ok, Err}
use Rattle.strings.specs.declared.Refusal.TheVariants.{Nothing, Range}
use Rattle.strings.specs.Numbers.{refusal_paper, Test, test, first_of, place_of, answer_of, left_by}
use Rattle.strings.proofs.Answer.{refusal_known, refusal_same, refusal_of, not_taken, exactly, first_given}
use Rattle.strings.proofs.Tests.{past_first}
use Rattle.strings.proofs.Below.{both}
use Rattle.book.specs.Book.{slots}
use Rattle.immediate.specs.Kept.{has_record}
use Rattle.rinex.specs.Times.{InFourYears, day_of}
use Rattle.rinex.specs.Theorems.{FourLines}
use Rattle.rinex.proofs.Shape.{four_lines}
use Rattle.station.specs.declared.Station.{Station}
use Rattle.station.specs.Station.{is_served, gate_tests}
use Rattle.station.specs.Queries.{kept_at, is_slot}
use Rattle.station.specs.Demand1.{OneAnswer}
use Rattle.station.proofs.Served.{open_says, shut_says_lem, zero_served, past_gate}
use Rattle.station.proofs.Refusals.{Fitting, settles}
use Rattle.station.proofs.EveryCall.{one}
use Rattle.navigation_queries.specs.Five.{is_five_at, five_at}
use Rattle.navigation_queries.specs.Carrier.{carrier_at}
use Rattle.navigation.specs.declared.Unwritten.TheVariants.{Refused, Lines}
use Rattle.navigation.specs.Writes.{words_at, n_at, nt_at, tb_at, n4_at, is_there, is_day, is_four_years, place_out, record_bytes, record_tests, quarter_of, quarter_at, text_at, answer_paper, Writes}
use Rattle.navigation.specs.Gathers.{all_tests}
use Rattle.navigation.specs.Laws.{IsWritten, SameEpoch, AllLaws}
use Rattle.navigation.proofs.Read.{as_read}
use Rattle.navigation.proofs.Answered.{refusal_leaves}

-- ---- no second answer
-- 17 is no refusal of another call's
not_lines : (q : Refusal) → refusal_paper q ≡ 17 ∷ [] → ⊥
not_lines q e = let d = sym (refusal_known q).0 ∙ ap refusal_of e in true≢false (apart (ap refusal_paper (sym d) ∙ e))
  where
    apart : refusal_paper (refusal_of (17 ∷ [])) ≡ 17 ∷ [] → true ≡ false
    apart f = cc

answer_same : (r q : Result (ℕ × ℕ) Unwritten) → answer_paper r ≡ answer_paper q → r ≡ q
answer_same (Ok (n, x)) (Ok (m, y)) e = ap₂ (λ (x y : ℕ). Ok (x, y)) (ap (λ (l : List ℕ). get_or l 1 0) e) (ap (λ (l : List ℕ). get_or l 2 0) e)
answer_same (Ok (n, x)) (Err (Refused q)) e = absurd (not_taken q _ (sym e))
answer_same (Ok (n, x)) (Err Lines) e = cc
answer_same (Err (Refused p)) (Ok (m, y)) e = absurd (not_taken p _ e)
answer_same (Err (Refused p)) (Err (Refused q)) e = ap (λ (x : Refusal). Err (Refused x)) (refusal_same p q e)
answer_same (Err (Refused p)) (Err Lines) e = absurd (not_lines p e)
answer_same (Err Lines) (Ok (m, y)) e = cc
answer_same (Err Lines) (Err (Refused q)) e = absurd (not_lines q (sym e))
answer_same (Err Lines) (Err Lines) e = refl

module _ (st : Station) (card c : ℕ) (out : List ℕ) where
  abbrev tests : List Test
  tests = record_tests st card c (length out)

  abbrev rest : List Test
  rest = all_tests (words_at st c) (five_at st c).n4 (length out)

  abbrev told : List ℕ
  told = n_at st c ∷ quarter_at st c ∷ []

  -- NO SECOND ANSWER AND NO SECOND OUTPUT FITS
  once : (r q : Result (ℕ × ℕ) Unwritten × List ℕ) → Writes st card c out r.0 r.1 → Writes st card c out q.0 q.1 → r ≡ q
  unfolding Writes
  once r q a b = ap₂ (λ (x : Result (ℕ × ℕ) Unwritten) (y : List ℕ). (x, y)) (answer_same r.0 q.0 (a.answer ∙ sym b.answer)) (a.output ∙ sym b.output)

  -- ---- there is one
  refused_so : (why : Refusal) → refusal_paper why ≡ answer_of tests told → OneAnswer (Result (ℕ × ℕ) Unwritten × List ℕ) (λ r. Writes st card c out r.0 r.1)
  unfolding Writes
  refused_so why e =
      one (Result (ℕ × ℕ) Unwritten × List ℕ) (λ r. Writes st card c out r.0 r.1) once (Err (Refused why), out)
      (record { answer = e; output = refusal_leaves (first_of tests) (place_of tests) told (text_at st c) out why e })

  answers : OneAnswer (Result (ℕ × ℕ) Unwritten × List ℕ) (λ r. Writes st card c out r.0 r.1)
  unfolding Writes
  answers = by (is_served card c) refl (is_there st c) refl (is_day st c && is_four_years st c) refl (eqb (length out) record_bytes) refl
    where
      by : (t : Bool) → is_served card c ≡ t → (u : Bool) → is_there st c ≡ u → (v : Bool) → (is_day st c && is_four_years st c) ≡ v → (w : Bool) → eqb (length out) record_bytes ≡ w
          → OneAnswer (Result (ℕ × ℕ) Unwritten × List ℕ) (λ r. Writes st card c out r.0 r.1)
      by false s u p v q w x =
          ⊎_elim (λ (z : first_of (gate_tests card c) ≡ 0). absurd (true≢false (sym (zero_served card c z) ∙ s)))
          (λ (f : Fitting (gate_tests card c)). refused_so f.refusal (f.says [] ∙ sym (shut_says_lem card c (test 13 (not (is_there st c)) ∷ rest) told s)))
          (settles (gate_tests card c) tt)
      by true s false p v q w x = refused_so Nothing (sym (open_says card c (test 13 (not (is_there st c)) ∷ rest) told s ∙ rw p))
      by true s true p false q w x = refused_so (Range (place_out st c)) (sym (open_says card c (test 13 (not (is_there st c)) ∷ rest) told s ∙ rw (p, q)))
      by true s true p true q false x =
          let e : 17 ∷ [] ≡ answer_of tests told = sym (open_says card c (test 13 (not (is_there st c)) ∷ rest) told s ∙ rw (p, q, x)) in
          let f = first_given tests told e in
          one (Result (ℕ × ℕ) Unwritten × List ℕ) (λ r. Writes st card c out r.0 r.1) once (Err Lines, out) (record { answer = e; output = rw f })
      by true s true p true q true x =
          let e : 0 ∷ told ≡ answer_of tests told = sym (open_says card c (test 13 (not (is_there st c)) ∷ rest) told s ∙ rw (p, q, x)) in
          let f = first_given tests told e in
          one (Result (ℕ × ℕ) Unwritten × List ℕ) (λ r. Writes st card c out r.0 r.1) once (Ok (n_at st c, quarter_at st c), text_at st c) (record { answer = e; output = rw f })

  module _ (r : Result (ℕ × ℕ) Unwritten) (out' : List ℕ) (a : Writes st card c out r out') where
    day_out : is_served card c ≡ true → is_there st c ≡ true → is_day st c ≡ false → answer_paper r ≡ 10 ∷ 26 ∷ []
    unfolding Writes
    day_out s p d = a.answer ∙ open_says card c (test 13 (not (is_there st c)) ∷ rest) told s ∙ rw (p, d)

    years_out : is_served card c ≡ true → is_there st c ≡ true → is_day st c ≡ true → is_four_years st c ≡ false → answer_paper r ≡ 10 ∷ 36 ∷ []
    unfolding Writes
    years_out s p d y = a.answer ∙ open_says card c (test 13 (not (is_there st c)) ∷ rest) told s ∙ rw (p, d, y)

    untouched : (get_or (answer_paper r) 0 0 ≡ 0 → ⊥) → out' ≡ out
    unfolding Writes
    untouched n =
        by (first_of tests) a.output
        (λ z. let e : answer_of tests told ≡ 0 ∷ told = rw z in n (ap (λ (l : List ℕ). get_or l 0 0) (a.answer ∙ e)))
      where
        by : (k : ℕ) → out' ≡ left_by k (text_at st c) out → (k ≡ 0 → ⊥) → out' ≡ out
        by zero e m = absurd (m refl)
        by (suc k) e m = e

  -- ---- a record that is written
  written : (n quarter : ℕ) (out' : List ℕ) → Writes st card c out (Ok (n, quarter)) out' → IsWritten st c n quarter out'
  unfolding Writes text_at
  written n quarter out' a =
      let f = first_given tests told a.answer in
      let there = past_first 12 (not (is_there st c)) rest (past_gate card c (test 13 (not (is_there st c)) ∷ rest) f) in
      let range = past_first 9 (not (is_day st c && is_four_years st c)) (test 17 (not (eqb (length out) record_bytes)) ∷ []) there.1 in
      let all = both (has_record (kept_at st c)) _ (not-false (is_there st c) there.0) in
      let entry = (both (is_five_at st c) _ all.1).1 in
      let slot = both (leb 1 (n_at st c)) (leb (n_at st c) slots) (both (is_slot (n_at st c)) _ entry).0 in
      let times = both (is_day st c) (is_four_years st c) (not-false (is_day st c && is_four_years st c) range.0) in
      let day = both (leb 1 (nt_at st c)) (leb (nt_at st c) 1461) times.0 in
      let years = both (leb 1 (n4_at st c)) (leb (n4_at st c) 21) times.1 in
      let tb = (as_read st c all.0).interval in
      let tb-is : tb_at st c ≡ tb.number = ap nat_abs tb.is in
      let tells : 0 ∷ n ∷ quarter ∷ [] ≡ 0 ∷ told = a.answer ∙ rw f in
      let n_is : n ≡ n_at st c = ap (λ (l : List ℕ). get_or l 1 0) tells in
      let text : out' ≡ text_at st c = a.output ∙ rw f in
      record {
        satellite = n_is;
        least = rw n_is (leb-true 1 (n_at st c) slot.0);
        most = rw n_is (leb-true (n_at st c) slots slot.1);
        epoch = ap (λ (l : List ℕ). get_or l 2 0) tells;
        in_time =
            record {
              n4_least = leb-true 1 (n4_at st c) years.0;
              n4_most = leb-true (n4_at st c) 21 years.1;
              nt_least = leb-true 1 (nt_at st c) day.0;
              nt_most = leb-true (nt_at st c) 1461 day.1;
              tb_most = omega (arith, tb-is, tb.not_more);
            };
        text = text;
        lines = subst FourLines (sym text) (four_lines (words_at st c) (five_at st c).n4 (carrier_at st (n_at st c)));
      }

-- ---- one number tells the epoch
quarter_parts : (x y c d : ℕ) → c ≤ 95 → d ≤ 95 → x * 96 + c ≡ y * 96 + d → (x ≡ y) × (c ≡ d)
quarter_parts x y c d h k e = (omega arith, omega arith)

day_parts : (x y c d : ℕ) → 1 ≤ x → 1 ≤ y → 1 ≤ c → c ≤ 1461 → 1 ≤ d → d ≤ 1461 → day_of x c ≡ day_of y d → (x ≡ y) × (c ≡ d)
day_parts x y c d a b h₁ h₂ k₁ k₂ e = (omega arith, omega arith)

one_epoch : (n4 nt tb n4' nt' tb' : ℕ) → InFourYears n4 nt tb → InFourYears n4' nt' tb' → quarter_of n4 nt tb ≡ quarter_of n4' nt' tb'
    → SameEpoch n4 nt tb n4' nt' tb'
one_epoch n4 nt tb n4' nt' tb' a b e =
    let q = quarter_parts (day_of n4 nt) (day_of n4' nt') tb tb' a.tb_most b.tb_most e in
    let d = day_parts n4 n4' nt nt' a.n4_least b.n4_least a.nt_least a.nt_most b.nt_least b.nt_most q.0 in
    record { four_years = d.0; day = d.1; interval = q.1 }

pub laws : AllLaws
unfolding Writes
laws =
    record {
      answers = answers;
      exactly = λ st card c out r out' a. exactly tt a;
      order = λ st card c room. refl;
      day_out = day_out;
      years_out = years_out;
      untouched = untouched;
      written = written;
      one_epoch = one_epoch;
    }
