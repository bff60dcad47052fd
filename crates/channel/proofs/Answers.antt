-- An answer by its numbers: what it counts as, whether it tells of a record; and that no second answer has the same.
-- Assumes nothing.
use mathlib.Core.Path.{◌≡◌, refl, sym, ap, ap₂, ◌∙◌}
use mathlib.Core.Bool.{false}
use mathlib.Core.List.{List, [], ◌∷◌, ◌++◌}
use Prim.Native.Nat.{ℕ, zero, suc}
use native.Mathlib.Omega.{arith}
use borrow.Author.Tests.{ne_eqb}
use lib.Dec.{eqb}
use lib.ListN.{get_or}
use Rattle.strings.specs.Pick.{pick}
use Rattle.channel.specs.declared.TakenString.{TakenString}
use Rattle.strings.specs.declared.Refusal.{Refusal}
use Rattle.std.specs.Prelude.{Result, Ok, Err}
use Rattle.strings.specs.declared.Verdict.{Verdict}
use Rattle.strings.specs.declared.Verdict.TheVariants.{Clean, Repaired}
use Rattle.strings.specs.Numbers.{said_by}
use Rattle.strings.proofs.Answer.{refusal_same, not_taken}
use Rattle.channel.specs.declared.News.{News}
use Rattle.channel.specs.declared.News.TheVariants.{AlreadyHeld, Kept, RecordBuilt, RecordOutOfRange}
use Rattle.relative.specs.declared.Polarity.{Polarity}
use Rattle.relative.specs.declared.Polarity.TheVariants.{Upright, Inverted}
use Rattle.relative.specs.Polarity.{polarity_number}
use Rattle.tallies.specs.Tallies.Outcome.{Refused as REFUSED, Taken as TAKEN}
use Rattle.channel.specs.Row.{is_built}
use Rattle.channel.specs.Offers.{news_number, told_as, placed_paper, answer_paper, told_with, outcome_of, tells_record, took}

-- ---- an answer is known by its numbers
abbrev news_by : ℕ → News
news_by k = pick (eqb k 0) AlreadyHeld (pick (eqb k 1) Kept (pick (eqb k 2) RecordBuilt RecordOutOfRange))

abbrev verdict_by : ℕ → ℕ → Verdict
verdict_by k i = pick (eqb k 0) Clean (Repaired i)

abbrev polarity_by : ℕ → Polarity
polarity_by k = pick (eqb k 0) Upright Inverted

-- what is told of a plain string, and a taken answer, by the numbers after the 0
abbrev placed_by : List ℕ → Result (ℕ × Verdict × News) Refusal
placed_by l = Ok (get_or l 1 0, verdict_by (get_or l 2 0) (get_or l 3 0), news_by (get_or l 4 0))

abbrev taken_by : List ℕ → Result TakenString Refusal
taken_by l = told_with (placed_by l) (polarity_by (get_or l 5 0))

news_by_lem : (w : News) → news_by (news_number w) ≡ w
news_by_lem AlreadyHeld = refl
news_by_lem Kept = refl
news_by_lem RecordBuilt = refl
news_by_lem RecordOutOfRange = refl

polarity_by_lem : (p : Polarity) → polarity_by (polarity_number p) ≡ p
polarity_by_lem Upright = refl
polarity_by_lem Inverted = refl

placed_by_lem : (m : ℕ) (v : Verdict) (w : News) → placed_by (placed_paper (Ok (m, v, w))) ≡ Ok (m, v, w)
placed_by_lem m Clean w = ap (λ (y : News). Ok (m, Clean, y)) (news_by_lem w)
placed_by_lem m (Repaired i) w = ap (λ (y : News). Ok (m, Repaired i, y)) (news_by_lem w)

taken_by_lem : (m : ℕ) (v : Verdict) (w : News) (p : Polarity) → taken_by (answer_paper (took m v w p)) ≡ took m v w p
taken_by_lem m Clean w p = ap₂ (took m Clean) (news_by_lem w) (polarity_by_lem p)
taken_by_lem m (Repaired i) w p = ap₂ (took m (Repaired i)) (news_by_lem w) (polarity_by_lem p)

pub answer_same : (a b : Result TakenString Refusal) → answer_paper a ≡ answer_paper b → a ≡ b
answer_same (Ok said) (Ok told) e = sym (taken_by_lem said.m said.verdict said.news said.polarity) ∙ ap taken_by e ∙ taken_by_lem told.m told.verdict told.news told.polarity
answer_same (Ok said) (Err q) e = absurd (not_taken q _ (sym e))
answer_same (Err q) (Ok said) e = absurd (not_taken q _ e)
answer_same (Err q) (Err p) e = ap Err (refusal_same q p e)

-- ---- the answer to a plain string, told with a polarity: the same number that says no, or one number more
pub told_with_lem : (a : Result (ℕ × Verdict × News) Refusal) (p : Polarity) (k : ℕ) (place told : List ℕ) → placed_paper a ≡ said_by k place told
    → answer_paper (told_with a p) ≡ said_by k place (told ++ (polarity_number p ∷ []))
told_with_lem (Ok (m, v, w)) p zero place told e = ap (λ (l : List ℕ). l ++ (polarity_number p ∷ [])) e
told_with_lem (Err q) p zero place told e = absurd (not_taken q told e)
told_with_lem (Ok (m, v, w)) p (suc k) place told e = let z : ◌≡◌ {A = ℕ} 0 (suc k) = ap (λ (l : List ℕ). get_or l 0 0) e in absurd (omega arith)
told_with_lem (Err q) p (suc k) place told e = e

-- ---- what an answer counts as, and whether a record is told of: by the first test that fits
module _ (place : List ℕ) (m : ℕ) (v : Verdict) (w : News) where
  abbrev Places : Result (ℕ × Verdict × News) Refusal → ℕ → Type 0
  Places a k = placed_paper a ≡ said_by k place (told_as m v w)

  pub tells_by : (a : Result (ℕ × Verdict × News) Refusal) (k : ℕ) → Places a k → tells_record a ≡ pick (eqb k 0) (is_built w) false
  tells_by (Ok (i, x, y)) zero e = ap tells_record (sym (placed_by_lem i x y) ∙ ap placed_by e ∙ placed_by_lem m v w)
  tells_by (Err q) zero e = absurd (not_taken q _ e)
  tells_by (Ok (i, x, y)) (suc k) e = let z : ◌≡◌ {A = ℕ} 0 (suc k) = ap (λ (l : List ℕ). get_or l 0 0) e in absurd (omega arith)
  tells_by (Err q) (suc k) e = rw (ne_eqb (suc k) 0 (λ z. omega arith))

  module _ (p : Polarity) where
    abbrev Says : Result TakenString Refusal → ℕ → Type 0
    Says a k = answer_paper a ≡ said_by k place (told_as m v w ++ (polarity_number p ∷ []))

    pub counts_by : (a : Result TakenString Refusal) (k : ℕ) → Says a k → outcome_of a ≡ pick (eqb k 0) (TAKEN v) (REFUSED k)
    counts_by a zero e = ap outcome_of (answer_same a (took m v w p) e)
    counts_by (Ok said) (suc k) e = let z : ◌≡◌ {A = ℕ} 0 (suc k) = ap (λ (l : List ℕ). get_or l 0 0) e in absurd (omega arith)
    counts_by (Err q) (suc k) e = rw (ne_eqb (suc k) 0 (λ z. omega arith)) (ap (λ (l : List ℕ). REFUSED (get_or l 0 0)) e)
