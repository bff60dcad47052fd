-- A channel's tallies (the paper, demand 2, "Numbers that say no" and request 9): "Each tally is still counted from the history since reset."
-- Assumes nothing.
use Rattle.std.specs.Prelude.{ℕ, ◌+◌, min, Bool, true, false, List, [], ◌∷◌, eqb}
use Rattle.strings.specs.Pick.{pick}
use Rattle.strings.specs.declared.Verdict.{Verdict}
use Rattle.strings.specs.declared.Verdict.TheVariants.{Clean, Repaired}
use Rattle.tallies.specs.declared.Causes.{Causes}
use Rattle.tallies.specs.declared.Tallies.{Tallies}

-- what became of an offer, as far as the tallies go: refused with the paper's number, or taken
pub data Outcome : Type 0 where
  Refused : ℕ → Outcome
  Taken : Verdict → Outcome

abbrev pub is_offer : Outcome → Bool
is_offer o = true

abbrev pub is_refused : Outcome → Bool
is_refused (Refused k) = true
is_refused (Taken v) = false

abbrev pub is_clean : Outcome → Bool
is_clean (Refused k) = false
is_clean (Taken Clean) = true
is_clean (Taken (Repaired i)) = false

abbrev pub is_repaired : Outcome → Bool
is_repaired (Refused k) = false
is_repaired (Taken Clean) = false
is_repaired (Taken (Repaired i)) = true

-- ---- the causes: "one such tally for each refusal that an offer on a valid channel can get, R-1's included", in the order of the tests
abbrev pub causes : List ℕ
causes = 2 ∷ 31 ∷ 32 ∷ 33 ∷ 4 ∷ 5 ∷ 6 ∷ 7 ∷ 8 ∷ 9 ∷ []

abbrev pub is_refused_by : ℕ → Outcome → Bool
is_refused_by k (Refused j) = eqb j k
is_refused_by k (Taken v) = false

-- which tally is whose. Made: each of its number
abbrev pub causes_by : (ℕ → ℕ) → Causes
causes_by f =
    record {
      shape = f 2;
      unplaced = f 31;
      even = f 32;
      outside = f 33;
      idle = f 4;
      number = f 5;
      early = f 6;
      stale = f 7;
      offbeat = f 8;
      conflict = f 9;
    }

-- and read: the tally of a number; 0 where it is none of the ten
abbrev pub cause_of : Tallies → ℕ → ℕ
cause_of t k =
    pick (eqb k 2) t.causes.shape
    (pick (eqb k 31) t.causes.unplaced
    (pick (eqb k 32) t.causes.even
    (pick (eqb k 33) t.causes.outside
    (pick (eqb k 4) t.causes.idle
    (pick (eqb k 5) t.causes.number
    (pick (eqb k 6) t.causes.early
    (pick (eqb k 7) t.causes.stale
    (pick (eqb k 8) t.causes.offbeat
    (pick (eqb k 9) t.causes.conflict 0)))))))))

-- ---- "32 bits wide and stay at 4,294,967,295"
abbrev pub limit : ℕ
limit = 4294967295

unfoldable pub one_more : ℕ → ℕ
one_more n = min limit (n + 1)

abbrev pub one_more_if : Bool → ℕ → ℕ
one_more_if true n = one_more n
one_more_if false n = n

-- "demand 1 lets a refused string move its own cause's tally too"
unfoldable pub causes_after : Outcome → Tallies → Causes
causes_after o t = causes_by (λ (k : ℕ). one_more_if (is_refused_by k o) (cause_of t k))

-- offers refused "add to the tallies offered and refused"; one taken "adds to offered and to clean or repaired by the verdict"
abbrev pub after_offer : Outcome → Tallies → Tallies
after_offer o t =
    record {
      offered = one_more_if (is_offer o) t.offered;
      clean = one_more_if (is_clean o) t.clean;
      repaired = one_more_if (is_repaired o) t.repaired;
      refused = one_more_if (is_refused o) t.refused;
      causes = causes_after o t;
    }

-- after a reset
abbrev pub none_counted : Tallies
none_counted = record { offered = 0; clean = 0; repaired = 0; refused = 0; causes = causes_by (λ (k : ℕ). 0) }

-- after some offers since the reset, the latest first
abbrev pub after_offers : List Outcome → Tallies
after_offers [] = none_counted
after_offers (o ∷ os) = after_offer o (after_offers os)

-- ---- true counts
-- how many of some offers are of a sort
abbrev pub plus_if : Bool → ℕ → ℕ
plus_if true n = n + 1
plus_if false n = n

abbrev pub how_many : (Outcome → Bool) → List Outcome → ℕ
how_many p [] = 0
how_many p (o ∷ os) = plus_if (p o) (how_many p os)
