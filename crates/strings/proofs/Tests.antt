-- Lists of tests, of any length: what a test that does not fit leaves to the others (past_first), what is known of the number and the place that are
-- given (first-of, no_place), and which of two lists, one after the other, gives the number (first_by).
-- Assumes nothing.
use mathlib.Core.Path.{◌≡◌, refl, sym, subst}
use mathlib.Core.Bool.{Bool, true, false, not, ◌&&◌}
use mathlib.Core.List.{List, [], ◌∷◌, ◌++◌}
use mathlib.Core.Logic.{◌⊎◌, inl, inr}
use Prim.Native.Nat.{ℕ, suc}
use native.Mathlib.Omega.{arith}
use lib.Dec.{T, eqb, eqb_refl, T_not}
use Rattle.strings.specs.Pick.{pick}
use Rattle.strings.specs.Numbers.{Test, first_of, place_of}
use Rattle.strings.proofs.Below.{and_left, and_right}

-- another number is given than the first test's: it does not fit, and the others give it
pub past_other : (k j : ℕ) (b : Bool) (ts : List Test) → (k ≡ j → ⊥) → pick b k (first_of ts) ≡ j → (b ≡ false) × (first_of ts ≡ j)
past_other k j true ts n e = absurd (n e)
past_other k j false ts n e = (refl, e)

-- none fits: the first does not, and none of the others
pub past_first : (k : ℕ) (b : Bool) (ts : List Test) → pick b (suc k) (first_of ts) ≡ 0 → (b ≡ false) × (first_of ts ≡ 0)
past_first k b ts e = past_other (suc k) 0 b ts (λ q. omega arith) e

-- no test tells a place, and so neither does the answer
abbrev pub is_empty : List ℕ → Bool
is_empty [] = true
is_empty (x ∷ xs) = false

pub empty_is : (l : List ℕ) → T (is_empty l) → l ≡ []
empty_is [] t = refl
empty_is (x ∷ xs) t = absurd t

abbrev pub placeless : List Test → Bool
placeless [] = true
placeless (t ∷ ts) = is_empty t.place && placeless ts

pub no_place : (ts : List Test) → T (placeless ts) → place_of ts ≡ []
no_place [] a = refl
no_place (t ∷ ts) a =
    by t.fits t.place (place_of ts) (empty_is t.place (and_left (is_empty t.place) (placeless ts) a))
    (no_place ts (and_right (is_empty t.place) (placeless ts) a))
  where
    by : (b : Bool) (p q : List ℕ) → p ≡ [] → q ≡ [] → pick b p q ≡ []
    by true p q e f = e
    by false p q e f = f

-- p of every number of the tests
abbrev pub all_of : (ℕ → Bool) → List Test → Bool
all_of p [] = true
all_of p (t ∷ ts) = p t.number && all_of p ts

module _ (p : ℕ → Bool) where
  picked : (b : Bool) (x y : ℕ) → T (p x) → T (p y) → T (p (pick b x y))
  picked true x y a c = a
  picked false x y a c = c

  -- then p of the number that is given
  pub first_of_lem : (ts : List Test) → T (all_of p ts) → T (p 0) → T (p (first_of ts))
  first_of_lem [] a z = z
  first_of_lem (t ∷ ts) a z =
      picked t.fits t.number (first_of ts) (and_left (p t.number) (all_of p ts) a) (first_of_lem ts (and_right (p t.number) (all_of p ts) a) z)

  -- x is one of the first numbers, and has p; or it comes from the others
  by_one : (b : Bool) (x y z u : ℕ) → T (p x) → T (p z) ⊎ ((y ≡ 0) × (z ≡ u)) → T (p (pick b x z)) ⊎ ((pick b x y ≡ 0) × (pick b x z ≡ u))
  by_one true x y z u a o = inl a
  by_one false x y z u a o = o

  -- one of ts gives the number, and it has p; or none of them fits, and us give it
  pub first_by : (ts us : List Test) → T (all_of p ts) → T (p (first_of (ts ++ us))) ⊎ ((first_of ts ≡ 0) × (first_of (ts ++ us) ≡ first_of us))
  first_by [] us a = inr (refl, refl)
  first_by (t ∷ ts) us a =
      by_one t.fits t.number (first_of ts) (first_of (ts ++ us)) (first_of us) (and_left (p t.number) (all_of p ts) a)
      (first_by ts us (and_right (p t.number) (all_of p ts) a))

-- the number that is given is the first test's, and none of the others': it fits
pub first_fits : (k : ℕ) (b : Bool) (ts : List Test) → T (all_of (λ j. not (eqb j k)) ts) → T (not (eqb 0 k)) → pick b k (first_of ts) ≡ k → b ≡ true
first_fits k true ts a z e = refl
first_fits k false ts a z e =
    absurd (T_not (eqb (first_of ts) k) (first_of_lem (λ j. not (eqb j k)) ts a z) (subst (λ (j : ℕ). T (eqb j k)) (sym e) (eqb_refl k)))
