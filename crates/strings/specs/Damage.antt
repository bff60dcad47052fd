-- The three numbers of a damaged string: "What is refused stays as it was".
-- Assumes nothing.
use Rattle.std.specs.Prelude.{ℕ, ◌+◌, List, [], ◌∷◌, ◌≡◌, Err}
use Rattle.strings.specs.declared.hamming.Damage.{Damage}
use Rattle.strings.specs.Pick.{pick}
use Rattle.strings.specs.Hamming.{sum_all, syndrome, ruling, is_damaged}
use Rattle.strings.specs.Numbers.{damage_number, Test, first_of}
use Rattle.strings.specs.Calls.{damage_tests}

-- how many tests fit
abbrev pub fitting : List Test → ℕ
fitting [] = 0
fitting (t ∷ ts) = pick t.fits 1 0 + fitting ts

-- of every string n: proved as `damaged_exactly`
pub record DamagedExactly (n : ℕ) : Type 0 where
  -- one of the three fits, and no second, where the check rule calls the string damaged; and else none
  pub one : fitting (damage_tests (syndrome n) (sum_all n)) ≡ pick (is_damaged (ruling n)) 1 0
  -- it has the number of the cause that the ruling tells
  pub cause : (d : Damage) → ruling n ≡ Err d → first_of (damage_tests (syndrome n) (sum_all n)) ≡ damage_number d
