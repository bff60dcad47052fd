-- What the three tests of a field say: of a good one what it tells (good-tells); of another never 0 (refused-never), and the same whatever it would tell
-- (refused-tells).
-- Assumes nothing.
use mathlib.Core.Path.{◌≡◌, refl, sym, ap}
use mathlib.Core.Bool.{Bool, true, false, not, ◌||◌, true≢false}
use mathlib.Core.List.{List, [], ◌∷◌}
use Prim.Native.Nat.{ℕ}
use native.Mathlib.Omega.{arith}
use lib.ListN.{length, get_or}
use Rattle.strings.specs.Numbers.{Test, test_at, answer_of}
use Rattle.fields.specs.Fields.{tag_in, length_in, is_unknown, is_wrong, is_cut, tests_in, is_good}

abbrev pub three : ℕ → Bool → Bool → Bool → List Test
three at a b c = test_at 43 at a ∷ test_at 41 at b ∷ test_at 42 at c ∷ []

-- ---- of any three
tells : (a b c : Bool) (at : ℕ) (told : List ℕ) → not (a || (b || c)) ≡ true → answer_of (three at a b c) told ≡ 0 ∷ told
tells true b c at told e = absurd (true≢false (sym e))
tells false true c at told e = absurd (true≢false (sym e))
tells false false true at told e = absurd (true≢false (sym e))
tells false false false at told e = refl

tells_none : (a b c : Bool) (at : ℕ) (told : List ℕ) → not (a || (b || c)) ≡ false → answer_of (three at a b c) told ≡ answer_of (three at a b c) []
tells_none true b c at told e = refl
tells_none false true c at told e = refl
tells_none false false true at told e = refl
tells_none false false false at told e = absurd (true≢false e)

never : (a b c : Bool) (at : ℕ) (told l : List ℕ) → not (a || (b || c)) ≡ false → answer_of (three at a b c) told ≡ 0 ∷ l → ⊥
never true b c at told l e p = let z : ◌≡◌ {A = ℕ} 43 0 = ap (λ (x : List ℕ). get_or x 0 0) p in omega arith
never false true c at told l e p = let z : ◌≡◌ {A = ℕ} 41 0 = ap (λ (x : List ℕ). get_or x 0 0) p in omega arith
never false false true at told l e p = let z : ◌≡◌ {A = ℕ} 42 0 = ap (λ (x : List ℕ). get_or x 0 0) p in omega arith
never false false false at told l e p = true≢false e

-- ---- of the field at the head of what is left
module _ (at : ℕ) (rest told : List ℕ) where
  abbrev cut : Bool
  cut = is_cut (length_in rest) (length rest)

  abbrev unknown : Bool
  unknown = is_unknown (tag_in rest)

  abbrev wrong : Bool
  wrong = is_wrong (tag_in rest) (length_in rest)

  pub good_tells : is_good rest ≡ true → answer_of (tests_in at rest) told ≡ 0 ∷ told
  unfolding is_good
  good_tells = tells cut unknown wrong at told

  pub refused_tells : is_good rest ≡ false → answer_of (tests_in at rest) told ≡ answer_of (tests_in at rest) []
  unfolding is_good
  refused_tells = tells_none cut unknown wrong at told

  pub refused_never : (l : List ℕ) → is_good rest ≡ false → answer_of (tests_in at rest) told ≡ 0 ∷ l → ⊥
  unfolding is_good
  refused_never = never cut unknown wrong at told
