-- A test that is computed once for all eight kinds, and what it says of each.
-- Assumes nothing.
use mathlib.Core.Path.{◌≡◌, refl, subst}
use mathlib.Core.Bool.{Bool, true, ◌&&◌}
use mathlib.Core.List.{List, [], ◌∷◌}
use Prim.Native.Nat.{ℕ, zero, suc, ◌-◌}
use lib.Dec.{T}
use lib.ListN.{get_or}
use Rattle.strings.proofs.Below.{and_left, and_right}
use Rattle.records.specs.declared.kinds.Kind.{Kind}
use Rattle.records.specs.declared.kinds.Kind.TheVariants.{One, Two, Three, Four, Five, Even, Odd, Fourteen}
use Rattle.layout.specs.Layout.{kind_number}

abbrev pub kinds : List Kind
kinds = One ∷ Two ∷ Three ∷ Four ∷ Five ∷ Even ∷ Odd ∷ Fourteen ∷ []

-- the kind of a number
abbrev pub kind_at : ℕ → Kind
kind_at n = get_or kinds (n - 1) One

pub kind_back : (k : Kind) → kind_at (kind_number k) ≡ k
kind_back One = refl
kind_back Two = refl
kind_back Three = refl
kind_back Four = refl
kind_back Five = refl
kind_back Even = refl
kind_back Odd = refl
kind_back Fourteen = refl

abbrev pub every : {A : Type 0} → (A → Bool) → List A → Bool
every f [] = true
every f (x ∷ xs) = f x && every f xs

-- a test that is computed for every element holds at each place
pub every_at : {A : Type 0} (f : A → Bool) (l : List A) (d : A) → T (every f l) → T (f d) → (j : ℕ) → T (f (get_or l j d))
every_at f [] d t u j = u
every_at f (x ∷ xs) d t u zero = and_left (f x) _ t
every_at f (x ∷ xs) d t u (suc j) = every_at f xs d (and_right (f x) _ t) u j

-- a test that is computed for the eight kinds holds of each
pub every_kind : (f : Kind → Bool) → T (every f kinds) → (k : Kind) → T (f k)
every_kind f t k = subst (λ (k : Kind). T (f k)) (kind_back k) (every_at f kinds One t (and_left (f One) _ t) (kind_number k - 1))
