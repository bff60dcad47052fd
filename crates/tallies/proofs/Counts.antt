-- A tally is the true count, and stays at its limit (true-counts, truly-counted): after any offers since the reset each of the fourteen is the lesser of
-- 4,294,967,295 and how many of the offers were of its sort.
-- Assumes nothing.
use mathlib.Core.Path.{◌≡◌, refl, sym, ap, ◌∙◌}
use mathlib.Core.Bool.{Bool, true, false}
use mathlib.Core.List.{List, [], ◌∷◌}
use Prim.Native.Nat.{ℕ, ◌+◌, ◌≤◌, ◌<◌, min}
use native.Mathlib.Nat.{min-eq_left, min-eq_right}
use native.Mathlib.Omega.{arith}
use borrow.Author.Tests.{ltb-true, ltb-false}
use lib.Dec.{ltb}
use Rattle.tallies.specs.declared.Tallies.{Tallies}
use Rattle.tallies.specs.Tallies.{Outcome, is_offer, is_clean, is_repaired, is_refused, causes, is_refused_by, cause_of, limit, one_more, one_more_if, after_offers, how_many, plus_if}
use Rattle.tallies.specs.Counts.{TrueCounts}
use Rattle.tallies.proofs.Whose.{each, cause_after}

-- ---- one more: a step below the limit, none there
module _ (n : ℕ) where
  pub more_below : n < limit → one_more n ≡ n + 1
  unfolding one_more
  more_below h = omega (h, arith)

  pub more_there : limit ≤ n → one_more n ≡ limit
  unfolding one_more
  more_there h = omega (h, arith)

-- what one more makes of a tally that is the lesser of the limit and a count
more_of_least : (n : ℕ) → one_more (min limit n) ≡ min limit (n + 1)
unfolding one_more
more_of_least n = by (ltb n limit) refl
  where
    by : (t : Bool) → ltb n limit ≡ t → one_more (min limit n) ≡ min limit (n + 1)
    by true p =
        let g : n ≤ limit = omega (ltb-true n limit p, arith) in
        ap one_more (min-eq_right g)
    by false p =
        let h : limit ≤ n = ltb-false n limit p in
        let g : limit ≤ n + 1 = omega (h, arith) in
        ap one_more (min-eq_left h) ∙ more_there limit (omega arith) ∙ sym (min-eq_left g)

more_if : (b : Bool) (n : ℕ) → one_more_if b (min limit n) ≡ min limit (plus_if b n)
more_if true n = more_of_least n
more_if false n = refl

-- a tally that an offer moves by its sort
moved : (is : Outcome → Bool) (o : Outcome) (os : List Outcome) (n : ℕ) → n ≡ min limit (how_many is os) → one_more_if (is o) n ≡ min limit (how_many is (o ∷ os))
moved is o os n e = ap (one_more_if (is o)) e ∙ more_if (is o) (how_many is os)

pub true_counts_lem : (os : List Outcome) → TrueCounts os (after_offers os)
true_counts_lem [] =
    record {
      offered = refl;
      clean = refl;
      repaired = refl;
      refused = refl;
      cause = each (λ (k : ℕ). cause_of (after_offers []) k ≡ 0) causes (refl, (refl, (refl, (refl, (refl, (refl, (refl, (refl, (refl, (refl, tt))))))))));
    }
true_counts_lem (o ∷ os) =
    let before = true_counts_lem os in
    let t : Tallies = after_offers os in
    record {
      offered = moved is_offer o os t.offered before.offered;
      clean = moved is_clean o os t.clean before.clean;
      repaired = moved is_repaired o os t.repaired before.repaired;
      refused = moved is_refused o os t.refused before.refused;
      cause = λ (k : ℕ) m. cause_after o t k m ∙ moved (is_refused_by k) o os (cause_of t k) (before.cause k m);
    }
