-- Which tally is whose, made and read alike: the tally of a cause is what it was made of (of-each). So an offer moves the tallies of the causes that it
-- counts under (cause-after), and tallies are known by their fourteen numbers (same-tallies).
-- Assumes nothing.
use mathlib.Core.Path.{◌≡◌, refl, sym, ap, subst}
use mathlib.Core.Bool.{Bool, true, false, ◌||◌, true≢false}
use mathlib.Core.List.{List, [], ◌∷◌}
use Prim.Native.Nat.{ℕ}
use borrow.Author.Tests.{eqb-true}
use lib.Dec.{eqb}
use Rattle.strings.specs.Pick.{is_one_of}
use Rattle.tallies.specs.declared.Causes.{Causes}
use Rattle.tallies.specs.declared.Tallies.{Tallies}
use Rattle.tallies.specs.Tallies.{Outcome, causes, is_refused_by, causes_by, cause_of, one_more_if, causes_after, after_offer}

-- what holds of each of some numbers holds of any one of them
abbrev pub Each : (ℕ → Type 0) → List ℕ → Type 0
Each P [] = Unit {0}
Each P (k ∷ ks) = P k × Each P ks

pub each : (P : ℕ → Type 0) (l : List ℕ) → Each P l → (k : ℕ) → is_one_of l k ≡ true → P k
each P [] all k e = absurd (true≢false (sym e))
each P (j ∷ l) all k e = by (eqb k j) refl (each P l all.1 k) e
  where
    by : (t : Bool) → eqb k j ≡ t → (is_one_of l k ≡ true → P k) → (t || is_one_of l k) ≡ true → P k
    by true q later u = subst P (sym (eqb-true k j q)) all.0
    by false q later u = later u

-- ---- made, and read
pub of_each : (t : Tallies) (f : ℕ → ℕ) → t.causes ≡ causes_by f → (k : ℕ) → is_one_of causes k ≡ true → cause_of t k ≡ f k
of_each t f e =
    each (λ (k : ℕ). cause_of t k ≡ f k) causes (
      ap (λ (c : Causes). c.shape) e,
      (
        ap (λ (c : Causes). c.unplaced) e,
        (
          ap (λ (c : Causes). c.even) e,
          (
            ap (λ (c : Causes). c.outside) e,
            (
              ap (λ (c : Causes). c.idle) e,
              (
                ap (λ (c : Causes). c.number) e,
                (ap (λ (c : Causes). c.early) e, (ap (λ (c : Causes). c.stale) e, (ap (λ (c : Causes). c.offbeat) e, (ap (λ (c : Causes). c.conflict) e, tt)))),
              ),
            ),
          ),
        ),
      ),
    )

-- ---- an offer
pub cause_after : (o : Outcome) (t : Tallies) (k : ℕ) → is_one_of causes k ≡ true → cause_of (after_offer o t) k ≡ one_more_if (is_refused_by k o) (cause_of t k)
unfolding causes_after
cause_after o t = of_each (after_offer o t) (λ (k : ℕ). one_more_if (is_refused_by k o) (cause_of t k)) refl
