-- The order of the tests of the relative code's two calls, whatever they are handed (the paper, "Numbers that say no").
-- Assumes nothing.
use Rattle.std.specs.Prelude.{List, [], ◌∷◌, ◌≡◌, refl, ℕ}
use Rattle.strings.specs.Numbers.{numbers_of}
use Rattle.relative.specs.Calls.{reading_tests, writing_tests}

-- "Relative code, reading: 12, 2; writing: 12, 2, 4"
pub reading_order : (s out : List ℕ) → numbers_of (reading_tests s out) ≡ 12 ∷ 2 ∷ []
reading_order s out = refl

pub writing_order : (s out : List ℕ) → numbers_of (writing_tests s out) ≡ 12 ∷ 2 ∷ 4 ∷ []
writing_order s out = refl
