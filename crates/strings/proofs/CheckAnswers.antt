-- The answers of the public check, test by test: "Check: 12, 2, 3, 4", with 31, 32, 33 for 3.
-- Assumes nothing.
use mathlib.Core.Path.{◌≡◌, ◌∙◌, sym, ap}
use mathlib.Core.Bool.{true, false}
use mathlib.Core.List.{List, [], ◌∷◌, ◌++◌}
use Prim.Native.Nat.{ℕ}
use lib.ListN.{length}
use Rattle.strings.specs.declared.Refusal.TheVariants.{Room, Shape, Damaged, Idle}
use Rattle.std.specs.Prelude.{Result, Ok, Err}
use Rattle.strings.specs.declared.Verdict.{Verdict}
use Rattle.strings.specs.declared.hamming.Damage.{Damage}
use Rattle.strings.specs.Number.{number_of, misshapen, bytes_of_string}
use Rattle.strings.specs.Hamming.{sum_all, syndrome, ruling, is_damaged, mended, mended_by}
use Rattle.strings.specs.Numbers.{damage_number, Test, test, Answers}
use Rattle.strings.specs.Calls.{Checks, verdict_told, no_room, is_idle, damage_tests, sound_tests}
use Rattle.strings.proofs.Shape.{has_room_lem, no_room_lem}
use Rattle.strings.proofs.Answer.{refuses, refuses_by, goes_on, takes}
use Rattle.strings.proofs.SoundTests.{not_zero, no_damage, damaged_says}
use Rattle.strings.proofs.Judge.{mended_by_lem}

module _ (s out : List ℕ) where
  pub check_no_room : (length out ≡ 11 → ⊥) → Checks s out (Err Room) out
  unfolding Checks
  check_no_room h = refuses 11 (no_room_lem out h)

  pub check_no_shape : length out ≡ 11 → misshapen s ≡ true → Checks s out (Err Shape) out
  unfolding Checks
  check_no_shape h e = goes_on 12 (has_room_lem out h) (refuses 1 e)

  -- 12 and 2 do not fit
  past_two : {ts : List Test} {told made said out' : List ℕ} → length out ≡ 11 → misshapen s ≡ false → Answers ts told made out said out'
      → Answers (test 12 (no_room out) ∷ test 2 (misshapen s) ∷ ts) told made out said out'
  past_two h e a = goes_on 12 (has_room_lem out h) (goes_on 2 e a)

  pub check_damaged : length out ≡ 11 → misshapen s ≡ false → (d : Damage) → ruling (number_of s) ≡ Err d → Checks s out (Err (Damaged d)) out
  unfolding Checks sound_tests
  check_damaged h e d r =
      let p = damaged_says (number_of s) d r [] in
      past_two h e (refuses_by (sound_tests (number_of s)) (damage_number d) (not_zero d) p.0 p.1)

  -- a string that is not damaged: what its verdict leaves has the idle bit at 1, or is taken
  module _ (h : length out ≡ 11) (e : misshapen s ≡ false) (v : Verdict) (r : ruling (number_of s) ≡ Ok v) where
    left : mended (number_of s) ≡ mended_by (Ok v) (number_of s)
    left = mended_by_lem (number_of s) v r

    -- the three of a damaged string do not fit either
    past_three : {ts : List Test} {told made said out' : List ℕ} → Answers ts told made out said out'
        → Answers (damage_tests (syndrome (number_of s)) (sum_all (number_of s)) ++ ts) told made out said out'
    past_three a = let f = no_damage (number_of s) (ap is_damaged r) in goes_on 31 f.0 (goes_on 32 f.1.0 (goes_on 33 f.1.1 a))

    pub check_idle : is_idle (mended_by (Ok v) (number_of s)) ≡ true → Checks s out (Err Idle) out
    unfolding Checks sound_tests
    check_idle b = past_two h e (past_three (refuses 3 (ap is_idle left ∙ b)))

    pub check_taken : is_idle (mended_by (Ok v) (number_of s)) ≡ false → Checks s out (Ok v) (bytes_of_string (mended_by (Ok v) (number_of s)))
    unfolding Checks sound_tests
    check_taken b =
        past_two h e (past_three (goes_on 4 (ap is_idle left ∙ b) (takes (ap (λ (q : Result Verdict Damage). 0 ∷ verdict_told q) (sym r)) (ap bytes_of_string (sym left)))))
