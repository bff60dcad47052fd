-- What is heard of the bytes that an offer brings (the paper, "The string"): "the station takes the relative form only", and a string is checked and
-- repaired before anything else is asked of it.
-- Assumes nothing.
use Rattle.std.specs.Prelude.{ℕ, List, ◌∷◌, Result, Ok, Err}
use Rattle.strings.specs.declared.hamming.Damage.{Damage}
use Rattle.strings.specs.declared.Refusal.{Refusal}
use Rattle.strings.specs.declared.Verdict.{Verdict}
use Rattle.strings.specs.declared.Verdict.TheVariants.{Clean}
use Rattle.strings.specs.Number.{number_of, misshapen, bytes_of_string}
use Rattle.strings.specs.Hamming.{ruling, mended}
use Rattle.strings.specs.Numbers.{Test, test, Answers}
use Rattle.strings.specs.Calls.{sound_tests, checked_paper, verdict_told}
use Rattle.relative.specs.Relative.{read_relative}

-- the plain string of the symbols
abbrev pub plain_of : List ℕ → ℕ
plain_of s = read_relative (number_of s)

-- the string as the check leaves it
abbrev pub whole_of : List ℕ → ℕ
whole_of s = mended (plain_of s)

-- the verdict of a ruling; a damaged string has none, and is refused
abbrev pub verdict_of : Result Verdict Damage → Verdict
verdict_of (Ok v) = v
verdict_of (Err d) = Clean

abbrev pub verdict_in : List ℕ → Verdict
verdict_in s = verdict_of (ruling (plain_of s))

-- SHAPE, DAMAGED, IDLE
abbrev pub hear_tests : List ℕ → List Test
hear_tests s = test 2 (misshapen s) ∷ sound_tests (plain_of s)

-- the verdict, and the string in eleven bytes; a refusal leaves them as they were
unfoldable pub Hears : List ℕ → List ℕ → Result Verdict Refusal → List ℕ → Type 0
Hears s out r out' = Answers (hear_tests s) (verdict_told (ruling (plain_of s))) (bytes_of_string (whole_of s)) out (checked_paper r) out'
