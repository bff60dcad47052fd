-- A record written from what was gathered (writes-refused, writes-gathered), and the branches of `write_all`: NT or N4 out of range, an output that is not four
-- lines long, and a record (day-refused, years-refused, lines-refused, all-written).
-- Assumes nothing.
use Prim.Native.Nat.{ℕ, zero, suc}
use mathlib.Core.Bool.{Bool, true, false, not}
use mathlib.Core.List.{List, [], ◌∷◌}
use mathlib.Core.Path.{◌≡◌, refl, sym, ap, subst, ◌∙◌}
use native.Mathlib.Omega.{arith}
use borrow.Author.Tests.{leb-true}
use lib.Dec.{eqb, leb}
use lib.IntN.{ℤ, nat_abs}
use lib.ListN.{length, get_or}
use Rattle.strings.specs.declared.Refusal.{Refusal}
use Rattle.navigation.specs.declared.Unwritten.{Unwritten}
use Rattle.std.specs.Prelude.{Result, Ok, Err}
use Rattle.strings.specs.declared.Refusal.TheVariants.{Range}
use Rattle.strings.specs.Numbers.{refusal_paper, Test, test, first_of, place_of, said_by, answer_of, left_by}
use Rattle.strings.proofs.Answer.{not_taken}
use Rattle.strings.proofs.Below.{both}
use Rattle.records.specs.declared.named.ImmediateWords.{ImmediateWords}
use Rattle.rinex.specs.Record.{record_text, From, IsWritable}
use Rattle.channel.proofs.HeldFrame.{first_said}
use Rattle.station.specs.declared.Station.{Station}
use Rattle.station.specs.Station.{is_served}
use Rattle.station.proofs.Served.{open_says, shut_says_lem}
use Rattle.navigation_queries.specs.Five.{five_at}
use Rattle.navigation_queries.specs.Carrier.{carrier_at}
use Rattle.navigation.specs.declared.Unwritten.TheVariants.{Refused, Lines}
use Rattle.navigation.specs.Writes.{words_at, n_at, is_there, is_within, record_bytes, record_tests, quarter_at, text_at, Writes}
use Rattle.navigation.specs.Gathers.{all_tests, told_of, Gathers, WritesAll, AsRead}
use Rattle.navigation.proofs.Found.{told_zero}

-- a refusal leaves the output
pub refusal_leaves : (k : ℕ) (place told made out : List ℕ) (why : Refusal) → refusal_paper why ≡ said_by k place told → out ≡ left_by k made out
refusal_leaves zero place told made out why e = absurd (not_taken why told e)
refusal_leaves (suc k) place told made out why e = refl

-- ---- after what was gathered
module _ (st : Station) (card c : ℕ) (out : List ℕ) where
  abbrev rest : List Test
  rest = all_tests (words_at st c) (five_at st c).n4 (length out)

  abbrev told : List ℕ
  told = n_at st c ∷ quarter_at st c ∷ []

  pub writes_refused : (why : Refusal) → Gathers st card c (Err why) → Writes st card c out (Err (Refused why)) out
  unfolding Writes
  writes_refused why g =
      let said = by (is_served card c) refl (is_there st c) refl in
      record { answer = said; output = refusal_leaves (first_of (record_tests st card c (length out))) (place_of (record_tests st card c (length out))) told (text_at st c) out why said }
    where
      by : (t : Bool) → is_served card c ≡ t → (u : Bool) → is_there st c ≡ u → refusal_paper why ≡ answer_of (record_tests st card c (length out)) told
      by false s u q = g.answer ∙ shut_says_lem card c (test 13 (not (is_there st c)) ∷ []) [] s ∙ sym (shut_says_lem card c (test 13 (not (is_there st c)) ∷ rest) told s)
      by true s true q = absurd (not_taken why [] (g.answer ∙ open_says card c (test 13 (not (is_there st c)) ∷ []) [] s ∙ rw q))
      by true s false q =
          let here : answer_of (test 13 (not (is_there st c)) ∷ []) [] ≡ 13 ∷ [] = rw q in
          let so : answer_of (test 13 (not (is_there st c)) ∷ rest) told ≡ 13 ∷ [] = rw q in
          g.answer ∙ open_says card c (test 13 (not (is_there st c)) ∷ []) [] s ∙ here ∙ sym (open_says card c (test 13 (not (is_there st c)) ∷ rest) told s ∙ so)

  -- where all is there, the answer is by the words alone
  same_answer : is_served card c ≡ true → is_there st c ≡ true → answer_of (record_tests st card c (length out)) told ≡ answer_of rest told
  same_answer s q = open_says card c (test 13 (not (is_there st c)) ∷ rest) told s ∙ rw q

  pub writes_gathered : (w : ImmediateWords) (n4 h : ℤ) (r : Result (ℕ × ℕ) Unwritten) (out' : List ℕ) → Gathers st card c (Ok (w, n4, h)) → WritesAll w n4 h out r out'
      → Writes st card c out r out'
  unfolding Writes WritesAll text_at
  writes_gathered w n4 h r out' g a =
      let z = told_zero card c (is_there st c) g.answer in
      let p = g.parts w n4 h refl in
      let b : WritesAll (words_at st c) (five_at st c).n4 (carrier_at st (n_at st c)) out r out' =
      subst (λ (x : ℤ). WritesAll (words_at st c) (five_at st c).n4 x out r out') p.1.1
      (subst (λ (x : ℤ). WritesAll (words_at st c) x h out r out') p.1.0 (subst (λ (x : ImmediateWords). WritesAll x n4 h out r out') p.0 a))
      in
      let e = same_answer z.0 z.1 in
      let f : first_of rest ≡ first_of (record_tests st card c (length out)) =
      sym (first_said rest told) ∙ ap (λ (l : List ℕ). get_or l 0 0) (sym e) ∙ first_said (record_tests st card c (length out)) told
      in
      record { answer = b.answer ∙ sym e; output = b.output ∙ ap (λ (k : ℕ). left_by k (text_at st c) out) f }

-- ---- what the words are in range for
module _ (w : ImmediateWords) (n4 : ℤ) (read : AsRead w n4) (day : is_within 1 1461 (nat_abs w.four.nt) ≡ true) (years : is_within 1 21 (nat_abs n4) ≡ true) where
  -- within, of a number that is not below 0
  within : {least most : ℕ} (z : ℤ) → From least most z → (a b : ℕ) → is_within a b (nat_abs z) ≡ true → From a b z
  within z f a b e =
      let k = both (leb a (nat_abs z)) (leb (nat_abs z) b) e in
      let is : nat_abs z ≡ f.number = ap nat_abs f.is in
      record { number = f.number; is = f.is; not_less = omega (arith, is, leb-true a (nat_abs z) k.0); not_more = omega (arith, is, leb-true (nat_abs z) b k.1) }

  pub writable : IsWritable w n4
  writable =
      record {
        four_years = within n4 read.four_years 1 21 years;
        day = within w.four.nt read.day 1 1461 day;
        interval = read.interval;
        time = read.time;
        satellite = record { number = read.satellite.number; is = read.satellite.is; not_less = read.satellite.not_less; not_more = omega (arith, read.satellite.not_more) };
      }

-- ---- the branches
module _ (w : ImmediateWords) (n4 h : ℤ) (out : List ℕ) where
  abbrev day : Bool
  day = is_within 1 1461 (nat_abs w.four.nt)

  abbrev years : Bool
  years = is_within 1 21 (nat_abs n4)

  pub day_refused : day ≡ false → WritesAll w n4 h out (Err (Refused (Range 26))) out
  unfolding WritesAll
  day_refused d = record { answer = rw d; output = rw d }

  module _ (d : day ≡ true) where
    pub years_refused : years ≡ false → WritesAll w n4 h out (Err (Refused (Range 36))) out
    unfolding WritesAll
    years_refused y = record { answer = rw (d, y); output = rw (d, y) }

    module _ (y : years ≡ true) where
      pub lines_refused : eqb (length out) record_bytes ≡ false → WritesAll w n4 h out (Err Lines) out
      unfolding WritesAll
      lines_refused l = record { answer = rw (d, y, l); output = rw (d, y, l) }

      pub all_written_lem : eqb (length out) record_bytes ≡ true → (n quarter : ℕ) (out' : List ℕ) → n ∷ quarter ∷ [] ≡ told_of w n4 → out' ≡ record_text w n4 h
          → WritesAll w n4 h out (Ok (n, quarter)) out'
      unfolding WritesAll
      all_written_lem l n quarter out' t e = record { answer = rw (d, y, l) (ap (λ (x : List ℕ). 0 ∷ x) t); output = rw (d, y, l) e }
