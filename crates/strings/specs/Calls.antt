-- The public check, with one relation between what it was handed, its answer and what it left in the output; and what other calls on strings
-- share with it.
-- Assumes nothing.
use Rattle.std.specs.Prelude.{ℕ, ◌+◌, ◌-◌, Bool, not, ◌&&◌, List, [], ◌∷◌, ◌++◌, eqb, leb, ltb, length, Result, Ok, Err, ⊤}
use Rattle.strings.specs.declared.hamming.Damage.{Damage}
use Rattle.strings.specs.declared.Refusal.{Refusal}
use Rattle.strings.specs.declared.Verdict.{Verdict}
use Rattle.strings.specs.Number.{number_of, misshapen, bit_of, bytes_of_string}
use Rattle.strings.specs.Hamming.{sum_all, syndrome, sums_set, highest, ruling, mended}
use Rattle.strings.specs.Numbers.{refusal_paper, verdict_paper, Test, test, Answers}

-- ROOM: "output not 11 bytes"
abbrev pub no_room : List ℕ → Bool
no_room out = not (eqb (length out) 11)

-- IDLE: "bit 85 is 1"
abbrev pub is_idle : ℕ → Bool
is_idle n = eqb (bit_of n 85) 1

-- ---- the answers in the paper's numbers: 0 where the call is taken
abbrev pub written_paper : Result ⊤ Refusal → List ℕ
written_paper (Ok _) = 0 ∷ []
written_paper (Err r) = refusal_paper r

abbrev pub checked_paper : Result Verdict Refusal → List ℕ
checked_paper (Ok v) = 0 ∷ verdict_paper v
checked_paper (Err r) = refusal_paper r

-- ---- "3 becomes 31 (S = 0, C = 1), 32 (S not 0, C = 0) and 33 (place above 85), all in 3's position": by the sums, S and C. 33 is of the strings whose
-- repair would be at bit S+8-K, "C = 1, two or more set"
abbrev pub damage_tests : ℕ → ℕ → List Test
damage_tests s c =
    test 31 (eqb s 0 && eqb c 1)
    ∷ test 32 (not (eqb s 0) && eqb c 0)
    ∷ test 33 (eqb c 1 && leb 2 (sums_set s) && ltb 85 (s + 8 - highest s))
    ∷ []

-- ---- 31, 32, 33, 4 of a plain string: "After a repair bit 85 must be 0, else IDLE". The check, the reader and the offer all make these tests, each
-- with tests of its own before and after them
unfoldable pub sound_tests : ℕ → List Test
sound_tests n = damage_tests (syndrome n) (sum_all n) ++ (test 4 (is_idle (mended n)) ∷ [])

-- ---- 2, and these, of its bytes
abbrev pub string_tests : List ℕ → List Test
string_tests s = test 2 (misshapen s) ∷ sound_tests (number_of s)

-- ---- "Check: 12, 2, 3, 4", with 31, 32, 33 for 3
abbrev pub check_tests : List ℕ → List ℕ → List Test
check_tests s out = test 12 (no_room out) ∷ string_tests s

-- what a taken check tells: the verdict. A damaged string has none
abbrev pub verdict_told : Result Verdict Damage → List ℕ
verdict_told (Ok v) = verdict_paper v
verdict_told (Err d) = []

unfoldable pub Checks : List ℕ → List ℕ → Result Verdict Refusal → List ℕ → Type 0
Checks s out r out' =
    Answers (check_tests s out) (verdict_told (ruling (number_of s))) (bytes_of_string (mended (number_of s))) out (checked_paper r) out'
