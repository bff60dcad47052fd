-- `make_sky`: one relation between the words and the output that it was handed, its answer and what it left.
-- Assumes nothing.
use Rattle.std.specs.Prelude.{ℕ, not, List, [], ◌∷◌, ◌≡◌, refl, eqb, length, Result, Ok, Err, ⊤}
use Rattle.sky.specs.declared.Unmade.{Unmade}
use Rattle.strings.specs.Numbers.{refusal_paper, Test, test, test_at, numbers_of, Answers, Exactly}
use Rattle.strings.specs.declared.Refusal.TheVariants.{Range}
use Rattle.superframe.specs.declared.Sky.{Sky}
use Rattle.superframe.specs.Refused.{wrong_slot, lowest_bad, Makes}
use Rattle.sky.specs.declared.Unmade.TheVariants.{OutOfOrder, Refused}
use Rattle.sky.specs.Line.{sky_lines}

-- an answer in the paper's numbers
abbrev pub made_paper : Result ⊤ Unmade → List ℕ
made_paper (Ok _) = 0 ∷ []
made_paper (Err OutOfOrder) = 18 ∷ []
made_paper (Err (Refused r)) = refusal_paper r

-- "Refusals, in this order: 12 when the output is not 15,000 bytes; 18 when the entries are not slots 1..24 in order; 10 with the string's place 1..75"
abbrev pub make_tests : Sky → List ℕ → List Test
make_tests sky out = test 12 (not (eqb (length out) 15000)) ∷ test 18 (wrong_slot sky 24) ∷ test_at 10 (lowest_bad sky 75) (not (eqb (lowest_bad sky 75) 0)) ∷ []

pub make_order : (sky : Sky) (out : List ℕ) → numbers_of (make_tests sky out) ≡ 12 ∷ 18 ∷ 10 ∷ []
make_order sky out = refl

-- what is not refused leaves the line symbols, all 15,000; a refusal leaves the output as it was
unfoldable pub MakesSky : Sky → List ℕ → Result ⊤ Unmade → List ℕ → Type 0
MakesSky sky out r out' = Answers (make_tests sky out) [] (sky_lines sky) out (made_paper r) out'

-- What holds of every making. Proved as `make_laws` in `proofs/Laws.antt`
pub record MakeLaws (sky : Sky) (out : List ℕ) : Type 0 where
  -- no second answer fits
  pub once : (r q : Result ⊤ Unmade) (out' out'' : List ℕ) → MakesSky sky out r out' → MakesSky sky out q out'' → (r ≡ q) × (out' ≡ out'')
  -- each number exactly where its test fits and none before it does
  pub numbers : (r : Result ⊤ Unmade) (out' : List ℕ) → MakesSky sky out r out' → Exactly (make_tests sky out) (made_paper r)
  -- what is made is made of words that are not refused, and is their symbols
  pub made : (out' : List ℕ) → MakesSky sky out (Ok tt) out' → Makes sky × (out' ≡ sky_lines sky)
  -- a refusal leaves the output as it was
  pub untouched : (r : Result ⊤ Unmade) (out' : List ℕ) → (r ≡ Ok tt → ⊥) → MakesSky sky out r out' → out' ≡ out
  -- string 75 is never told
  pub never_75 : (out' : List ℕ) → MakesSky sky out (Err (Refused (Range 75))) out' → ⊥
