-- The sorts add up to offered and the causes to refused (add-up): as true counts always, as tallies below the limit. For an offer is of exactly one of the
-- three sorts, and one that is refused with one of the ten numbers counts under exactly one of the ten (one-cause, once).
-- Assumes nothing.
use mathlib.Core.Path.{◌≡◌, refl, sym, ap, ap₂, ◌∙◌}
use mathlib.Core.Bool.{Bool, true, false, ◌&&◌, ◌||◌, true≢false}
use mathlib.Core.List.{List, [], ◌∷◌}
use Prim.Native.Nat.{ℕ, ◌+◌, ◌≤◌, ◌<◌, min}
use native.Mathlib.Omega.{arith}
use borrow.Author.Tests.{eqb-true, eq-eqb}
use lib.Dec.{eqb}
use Rattle.strings.specs.Pick.{is_one_of}
use Rattle.strings.specs.declared.Verdict.TheVariants.{Clean, Repaired}
use Rattle.tallies.specs.declared.Tallies.{Tallies}
use Rattle.tallies.specs.Tallies.{Outcome, is_offer, is_clean, is_repaired, is_refused, causes, is_refused_by, cause_of, limit, how_many, plus_if}
use Rattle.tallies.specs.Tallies.Outcome.{Refused, Taken}
use Rattle.tallies.specs.Counts.{TrueCounts, have_causes, OneCause, sum_of, AddUp}
use Rattle.tallies.proofs.Whose.{each}

-- ---- the three sorts
sorts_add_up : (os : List Outcome) → how_many is_clean os + (how_many is_repaired os + how_many is_refused os) ≡ how_many is_offer os
sorts_add_up [] = refl
sorts_add_up (Refused k ∷ os) = omega (sorts_add_up os, arith)
sorts_add_up (Taken Clean ∷ os) = omega (sorts_add_up os, arith)
sorts_add_up (Taken (Repaired i) ∷ os) = omega (sorts_add_up os, arith)

-- ---- the ten causes
pub one_cause : (number : ℕ) → is_one_of causes number ≡ true → OneCause number
one_cause number m = record { among = m; counts = eq-eqb number number refl; only = λ (k : ℕ) e. sym (eqb-true number k e) }

-- how often a number stands in a list: each of the ten stands once among them
abbrev times_in : ℕ → List ℕ → ℕ
times_in j [] = 0
times_in j (k ∷ ks) = plus_if (is_refused_by k (Refused j)) (times_in j ks)

once : (j : ℕ) → is_one_of causes j ≡ true → times_in j causes ≡ 1
once = each (λ (j : ℕ). times_in j causes ≡ 1) causes (refl, (refl, (refl, (refl, (refl, (refl, (refl, (refl, (refl, (refl, tt))))))))))

-- so it adds one to the sum of the ten
sum_more : (j : ℕ) (f : ℕ → ℕ) (l : List ℕ) → sum_of (λ (k : ℕ). plus_if (is_refused_by k (Refused j)) (f k)) l ≡ sum_of f l + times_in j l
sum_more j f [] = refl
sum_more j f (k ∷ l) = by (is_refused_by k (Refused j)) (f k) _ (sum_of f l) (times_in j l) (sum_more j f l)
  where
    by : (t : Bool) (a s b n : ℕ) → s ≡ b + n → plus_if t a + s ≡ (a + b) + plus_if t n
    by true a s b n e = omega (e, arith)
    by false a s b n e = omega (e, arith)

both : (a b : Bool) → (a && b) ≡ true → (a ≡ true) × (b ≡ true)
both true b e = (refl, e)
both false b e = absurd (true≢false (sym e))

causes_add_up : (os : List Outcome) → have_causes os ≡ true → sum_of (λ (k : ℕ). how_many (is_refused_by k) os) causes ≡ how_many is_refused os
causes_add_up [] e = refl
causes_add_up (Refused j ∷ os) e =
    let p = both (is_one_of causes j) (have_causes os) e in
    sum_more j (λ (k : ℕ). how_many (is_refused_by k) os) causes ∙ ap₂ ◌+◌ (causes_add_up os p.1) (once j p.0)
causes_add_up (Taken v ∷ os) e = causes_add_up os e

-- ---- as tallies: below the limit a tally is the count itself, and so is that of a part of it
part : (t n m : ℕ) → t ≡ min limit n → n ≤ m → m < limit → t ≡ n
part t n m e h below = omega (e, h, below, arith)

in_rest : (a b : Bool) → b ≡ true → (a || b) ≡ true
in_rest true b e = refl
in_rest false b e = e

parts : (f g : ℕ → ℕ) (l : List ℕ) (m : ℕ) → ((k : ℕ) → is_one_of l k ≡ true → f k ≡ min limit (g k)) → sum_of g l ≤ m → m < limit → sum_of f l ≡ sum_of g l
parts f g [] m all h below = refl
parts f g (k ∷ l) m all h below =
    ap₂ ◌+◌ (part (f k) (g k) m (all k (ap (λ (t : Bool). t || is_one_of l k) (eq-eqb k k refl))) (omega (h, arith)) below)
    (parts f g l m (λ (j : ℕ) e. all j (in_rest (eqb j k) (is_one_of l j) e)) (omega (h, arith)) below)

pub add_up_lem : (os : List Outcome) (t : Tallies) → have_causes os ≡ true → TrueCounts os t → AddUp os t
add_up_lem os t known counts =
    let sum = causes_add_up os known in
    record {
      sorts = sorts_add_up os;
      causes_too = sum;
      tallied_sorts = λ h. omega (h, counts.offered, counts.clean, counts.repaired, counts.refused, sorts_add_up os, arith);
      tallied_causes =
          λ h.
          let below : how_many is_refused os < limit = omega (h, counts.refused, arith) in
          parts (cause_of t) (λ (k : ℕ). how_many (is_refused_by k) os) causes (how_many is_refused os) counts.cause (omega (sum, arith)) below
          ∙ sum ∙ sym (part t.refused (how_many is_refused os) (how_many is_refused os) counts.refused (omega arith) below);
    }
