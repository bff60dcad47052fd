-- What is known of the ranging code, computed from its rule.
-- Assumes nothing.
use Rattle.std.specs.Prelude.{ℕ, ◌+◌, List, [], ◌∷◌, ◌≡◌, refl}
use Rattle.chips.specs.Register.{ones, after, outputs}

abbrev pub sum : List ℕ → ℕ
sum [] = 0
sum (x ∷ xs) = x + sum xs

pub record Known : Type 0 where
  -- "first chips 111111100"
  pub first : outputs 9 ones ≡ 1 ∷ 1 ∷ 1 ∷ 1 ∷ 1 ∷ 1 ∷ 1 ∷ 0 ∷ 0 ∷ []
  -- the register is back after 511 steps, in which it puts out 256 ones
  pub back : after 511 ones ≡ ones
  pub count : sum (outputs 511 ones) ≡ 256

pub known : Known
known = record { first = refl; back = refl; count = refl }
