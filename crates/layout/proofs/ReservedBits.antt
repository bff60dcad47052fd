-- Each bit that Table 4.12 prints as reserved is one of 9..80 and in no word of the kind, by one computed test.
-- Assumes nothing.
use mathlib.Core.Path.{◌≡◌, refl, sym, subst}
use mathlib.Core.Bool.{Bool, true, false, not, ◌&&◌, ◌||◌}
use mathlib.Core.List.{List, [], ◌∷◌}
use Prim.Native.Nat.{ℕ, ◌≤◌}
use borrow.Author.Tests.{eqb-true}
use lib.Dec.{T, eqb, leb, leb→le}
use Rattle.strings.specs.Pick.{is_one_of}
use Rattle.strings.proofs.Below.{and_left, and_right}
use Rattle.records.specs.declared.kinds.Kind.{Kind}
use Rattle.layout.specs.Layout.{layout}
use Rattle.layout.specs.Reserved.{reserved, in_words}
use Rattle.layout.proofs.EveryKind.{kinds, every, every_kind}

abbrev free_test : Kind → ℕ → Bool
free_test k i = leb 9 i && (leb i 80 && not (in_words (layout k) i))

all_free : T (every (λ k. every (free_test k) (reserved k)) kinds)
unfolding layout
all_free = tt

one_test_lem : (f : ℕ → Bool) (l : List ℕ) (i : ℕ) → T (every f l) → T (is_one_of l i) → T (f i)
one_test_lem f [] i t h = absurd h
one_test_lem f (x ∷ xs) i t h = by (eqb i x) refl (one_test_lem f xs i (and_right (f x) _ t)) h
  where
    by : (b : Bool) → eqb i x ≡ b → (T (is_one_of xs i) → T (f i)) → T (b || is_one_of xs i) → T (f i)
    by true q ih u = subst (λ (y : ℕ). T (f y)) (sym (eqb-true i x q)) (and_left (f x) _ t)
    by false q ih u = ih u

unworded : (b : Bool) → T (not b) → b ≡ false
unworded true t = absurd t
unworded false t = refl

pub reserved_free : (k : Kind) (i : ℕ) → T (is_one_of (reserved k) i) → ((9 ≤ i) × (i ≤ 80)) × (in_words (layout k) i ≡ false)
reserved_free k i h =
    let t = one_test_lem (free_test k) (reserved k) i (every_kind (λ k. every (free_test k) (reserved k)) all_free k) h in
    let u = and_right (leb 9 i) _ t in
    ((leb→le 9 i (and_left (leb 9 i) _ t), leb→le i 80 (and_left (leb i 80) _ u)), unworded (in_words (layout k) i) (and_right (leb i 80) _ u))
