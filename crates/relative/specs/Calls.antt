-- The two public calls of the relative code, each with one relation between what it was handed, its answer and what it left in the output.
-- Assumes nothing.
use Rattle.std.specs.Prelude.{ℕ, List, [], ◌∷◌, ◌⊎◌, ◌↔◌, ◌≡◌, Result, Ok, Err, ⊤}
use Rattle.relative.specs.declared.Polarity.{Polarity}
use Rattle.strings.specs.declared.Refusal.{Refusal}
use Rattle.strings.specs.Number.{number_of, misshapen, bytes_of_string}
use Rattle.strings.specs.Numbers.{refusal_paper, Test, test, Answers}
use Rattle.strings.specs.Calls.{no_room, is_idle, written_paper}
use Rattle.relative.specs.declared.Polarity.TheVariants.{Upright, Inverted}
use Rattle.relative.specs.Relative.{read_relative, write_relative, inverse}
use Rattle.relative.specs.Polarity.{first_symbol, polarity_number, turned}

-- ---- a reading's answer in the paper's numbers: 0 and the polarity, or the number that says no
abbrev pub decoded_paper : Result Polarity Refusal → List ℕ
decoded_paper (Ok p) = 0 ∷ polarity_number p ∷ []
decoded_paper (Err r) = refusal_paper r

-- ---- "Relative code, reading: 12, 2"
abbrev pub reading_tests : List ℕ → List ℕ → List Test
reading_tests s out = test 12 (no_room out) ∷ test 2 (misshapen s) ∷ []

-- what is read tells its first symbol: "The decoder shall hand that on: upright if the first symbol is 0, inverted if 1"
unfoldable pub ReadsRelative : List ℕ → List ℕ → Result Polarity Refusal → List ℕ → Type 0
ReadsRelative s out r out' =
    Answers (reading_tests s out) (first_symbol (number_of s) ∷ []) (bytes_of_string (read_relative (number_of s))) out (decoded_paper r) out'

-- ---- "writing: 12, 2, 4"
abbrev pub writing_tests : List ℕ → List ℕ → List Test
writing_tests s out = test 12 (no_room out) ∷ test 2 (misshapen s) ∷ test 4 (is_idle (number_of s)) ∷ []

unfoldable pub WritesRelative : List ℕ → List ℕ → Result ⊤ Refusal → List ℕ → Type 0
WritesRelative s out r out' = Answers (writing_tests s out) [] (bytes_of_string (write_relative (number_of s))) out (written_paper r) out'

-- ---- what the polarity means: x was read with the answer r, and what that left was written with the answer q and left `back`
pub record Meant (x : ℕ) (r : Result Polarity Refusal) (q : Result ⊤ Refusal) (back : List ℕ) : Type 0 where
  pub read : (r ≡ Ok Upright) ⊎ (r ≡ Ok Inverted)
  pub written : q ≡ Ok tt
  -- it is the string that was read exactly where the answer was upright, and its inverse exactly where it was inverted
  pub upright : (r ≡ Ok Upright) ↔ (back ≡ bytes_of_string x)
  pub inverted : (r ≡ Ok Inverted) ↔ (back ≡ bytes_of_string (inverse x))

-- ---- "A string and its inverse now answer alike except in this field": the same refusal, or read both times with the other polarity
abbrev pub other_way : Result Polarity Refusal → Result Polarity Refusal
other_way (Ok p) = Ok (turned p)
other_way (Err r) = Err r
