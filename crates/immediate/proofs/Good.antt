-- Four strings are in range where the first two are. Assumes nothing.
use mathlib.Core.Path.{◌≡◌, refl, ap}
use mathlib.Core.Bool.{Bool, true, false, ◌&&◌}
use Prim.Native.Nat.{ℕ}
use lib.Dec.{eqb}
use Rattle.records.specs.declared.kinds.Kind.TheVariants.{One, Two, Three, Four}
use Rattle.words.proofs.Ranges.{reading_fails}
use Rattle.words.specs.Good.{is_good}
use Rattle.immediate.specs.Kept.{four_good}

-- a string 3 has no word that can be out of range
good_three : (n : ℕ) → is_good Three n ≡ true
unfolding is_good
good_three n = ap (λ (x : ℕ). eqb x 0) (reading_fails n Three)

-- nor has a string 4
good_four : (n : ℕ) → is_good Four n ≡ true
unfolding is_good
good_four n = ap (λ (x : ℕ). eqb x 0) (reading_fails n Four)

pub four_good_lem : (one two three four : ℕ) → four_good one two three four ≡ (is_good One one && is_good Two two)
four_good_lem one two three four = rw (good_three three, good_four four) (ap (λ (t : Bool). is_good One one && t) (and-true (is_good Two two)))
  where
    and-true : (t : Bool) → (t && true) ≡ t
    and-true true = refl
    and-true false = refl
