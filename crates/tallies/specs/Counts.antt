-- What the tallies of some offers say: they are the true counts, and the sorts and the causes add up. Proved in `proofs/Counts.antt` and
-- `proofs/AddUp.antt`.
-- Assumes nothing.
use Rattle.std.specs.Prelude.{ℕ, ◌+◌, ◌<◌, min, Bool, true, ◌&&◌, List, [], ◌∷◌, ◌≡◌}
use Rattle.strings.specs.Pick.{is_one_of}
use Rattle.tallies.specs.declared.Tallies.{Tallies}
use Rattle.tallies.specs.Tallies.{Outcome, is_offer, is_clean, is_repaired, is_refused, causes, is_refused_by, cause_of, limit, how_many}
use Rattle.tallies.specs.Tallies.Outcome.{Refused, Taken}

-- ---- "true counts": fourteen, each the lesser of the limit and how many of the offers are of its sort
pub record TrueCounts (os : List Outcome) (t : Tallies) : Type 0 where
  pub offered : t.offered ≡ min limit (how_many is_offer os)
  pub clean : t.clean ≡ min limit (how_many is_clean os)
  pub repaired : t.repaired ≡ min limit (how_many is_repaired os)
  pub refused : t.refused ≡ min limit (how_many is_refused os)
  pub cause : (k : ℕ) → is_one_of causes k ≡ true → cause_of t k ≡ min limit (how_many (is_refused_by k) os)

-- ---- offers on a channel: one that is refused has one of the ten numbers
abbrev pub has_cause : Outcome → Bool
has_cause (Refused k) = is_one_of causes k
has_cause (Taken v) = true

abbrev pub have_causes : List Outcome → Bool
have_causes [] = true
have_causes (o ∷ os) = has_cause o && have_causes os

-- it counts under exactly one cause, which is the number that it was refused with
pub record OneCause (number : ℕ) : Type 0 where
  pub among : is_one_of causes number ≡ true
  pub counts : is_refused_by number (Refused number) ≡ true
  pub only : (k : ℕ) → is_refused_by k (Refused number) ≡ true → k ≡ number

-- ---- the three sorts add up to offered, and the ten causes to refused
abbrev pub sum_of : (ℕ → ℕ) → List ℕ → ℕ
sum_of f [] = 0
sum_of f (k ∷ ks) = f k + sum_of f ks

pub record AddUp (os : List Outcome) (t : Tallies) : Type 0 where
  -- as true counts
  pub sorts : how_many is_clean os + (how_many is_repaired os + how_many is_refused os) ≡ how_many is_offer os
  pub causes_too : sum_of (λ (k : ℕ). how_many (is_refused_by k) os) causes ≡ how_many is_refused os
  -- as tallies, while the sum's is below the limit. At the limit each tally stays for itself, and the sum of its parts may be greater: `Known` has a row
  pub tallied_sorts : t.offered < limit → t.clean + (t.repaired + t.refused) ≡ t.offered
  pub tallied_causes : t.refused < limit → sum_of (cause_of t) causes ≡ t.refused
