-- The numbers that say no and the order of the check's tests, whatever it is handed (the paper, "Numbers that say no").
-- Assumes nothing.
use Rattle.std.specs.Prelude.{List, [], ◌∷◌, ◌++◌, ◌≡◌, refl, ℕ}
use Rattle.strings.specs.declared.Refusal.{Refusal}
use Rattle.strings.specs.declared.Refusal.TheVariants.{Channel, Shape, Damaged, Idle, Number, Early, Stale, OffBeat, Conflict, Range, Place, Room, Nothing, Slot, Owner, Card}
use Rattle.strings.specs.declared.hamming.Damage.TheVariants.{Unplaced, Even, Outside}
use Rattle.strings.specs.declared.Verdict.TheVariants.{Clean, Repaired}
use Rattle.strings.specs.Table413.{◌to◌}
use Rattle.strings.specs.Numbers.{refusal_paper, verdict_paper, numbers_of}
use Rattle.strings.specs.Calls.{sound_tests, string_tests, check_tests}

-- the names in the order of the paper's table, with the three causes in the place of DAMAGED; RANGE tells a place
abbrev pub refusals : ℕ → List Refusal
refusals place =
    Channel ∷ Shape ∷ Damaged Unplaced ∷ Damaged Even ∷ Damaged Outside ∷ Idle ∷ Number ∷ Early ∷ Stale ∷ OffBeat ∷ Conflict ∷ Range place ∷ Place ∷ Room ∷ Nothing ∷ Slot ∷ Owner ∷ Card ∷ []

abbrev pub in_paper : List Refusal → List (List ℕ)
in_paper [] = []
in_paper (r ∷ rs) = refusal_paper r ∷ in_paper rs

-- each alone in a list
abbrev pub singly : List ℕ → List (List ℕ)
singly [] = []
singly (n ∷ ns) = (n ∷ []) ∷ singly ns

-- their numbers are 1 to 16 with 31, 32, 33 for 3, and each is answered alone but for RANGE, which has its place beside it
pub refusal_numbers : (place : ℕ) → in_paper (refusals place) ≡ singly (1 to 2) ++ singly (31 to 33) ++ singly (4 to 9) ++ ((10 ∷ place ∷ []) ∷ singly (11 to 16))
refusal_numbers place = refl

-- "clean, or repaired with its bit number": the case, 0 or 1 in this order, and the bit number, 0 where none was repaired
pub verdict_numbers : (i : ℕ) → (verdict_paper Clean ∷ verdict_paper (Repaired i) ∷ []) ≡ (0 ∷ 0 ∷ []) ∷ (1 ∷ i ∷ []) ∷ []
verdict_numbers i = refl

-- "Check: 12, 2, 3, 4", with 31, 32, 33 "all in 3's position"
pub check_order : (s out : List ℕ) → numbers_of (check_tests s out) ≡ 12 ∷ 2 ∷ 31 ∷ 32 ∷ 33 ∷ 4 ∷ []
unfolding sound_tests
check_order s out = refl

-- of a plain string alone
pub string_order : (s : List ℕ) → numbers_of (string_tests s) ≡ 2 ∷ 31 ∷ 32 ∷ 33 ∷ 4 ∷ []
unfolding sound_tests
string_order s = refl
