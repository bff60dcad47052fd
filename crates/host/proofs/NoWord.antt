-- A word that no string has: what the check says and then the string number (refused-no-word, taken-no-word); never 0 (no-word-refuses).
-- Assumes nothing.
use mathlib.Core.Path.{◌≡◌, refl, sym, ap, subst, ◌∙◌}
use mathlib.Core.Bool.{Bool, true, false}
use mathlib.Core.List.{List, [], ◌∷◌, ◌++◌}
use mathlib.Core.Logic.{⊎_elim}
use Prim.Native.Nat.{ℕ}
use native.Mathlib.Omega.{arith}
use lib.Dec.{eqb}
use lib.ListN.{length}
use Rattle.strings.specs.declared.Refusal.{Refusal}
use Rattle.strings.specs.declared.Refusal.TheVariants.{Number, Place}
use Rattle.std.specs.Prelude.{Result, Ok, Err}
use Rattle.strings.specs.declared.Verdict.{Verdict}
use Rattle.strings.specs.Pick.{pick}
use Rattle.strings.specs.Number.{number_of}
use Rattle.strings.specs.Hamming.{ruling, mended}
use Rattle.strings.specs.Numbers.{refusal_paper, verdict_paper, Test, test, first_of, place_of, answer_of}
use Rattle.strings.specs.Calls.{Checks, checked_paper, verdict_told, sound_tests, string_tests}
use Rattle.strings.proofs.Answer.{taken_made}
use Rattle.strings.proofs.CheckRule.{check_took}
use Rattle.strings.proofs.SoundTests.{sound_then}
use Rattle.strings.proofs.Judge.{mended_lt}
use Rattle.strings.proofs.Shape.{shaped, has_room_lem}
use Rattle.strings.proofs.Tests.{first_by}
use Rattle.strings.proofs.Value.{Bytes, number_lt, string_number_lem}
use Rattle.words.specs.Calls.{number_in}
use Rattle.host.specs.Host.{no_word_tests}
use Rattle.host.proofs.Sequence.{is_number, nonzero, string_numbers, stop_at, alike_said}
use Rattle.host.proofs.Values.{refused_said}

-- the two tests past the check's
abbrev last_tests : ℕ → List Test
last_tests n = test 5 (eqb (number_in n) 0) ∷ test 11 true ∷ []

-- NUMBER or PLACE
abbrev last_number : Bool → ℕ
last_number b = pick b 5 11

last_refuses : (b : Bool) → last_number b ≡ 0 → ⊥
last_refuses true e = omega arith
last_refuses false e = omega arith

pub no_word_refuses : (s : List ℕ) → first_of (no_word_tests s) ≡ 0 → ⊥
no_word_refuses s e =
    let us = last_tests (mended (number_of s)) in
    ⊎_elim (λ t. nonzero (first_of (no_word_tests s)) t e) (λ p. last_refuses (eqb (number_in (mended (number_of s))) 0) (sym p.1 ∙ e))
    (first_by is_number (string_tests s) us (string_numbers s))

last_said : (b : Bool) → refusal_paper (pick b Number Place) ≡ answer_of (test 5 b ∷ test 11 true ∷ []) []
last_said true = refl
last_said false = refl

module _ (s out out' : List ℕ) (c : Result Verdict Refusal) (room : length out ≡ 11) (a : Checks s out c out') where
  pub refused_no_word : (q : Refusal) → c ≡ Err q → refusal_paper q ≡ answer_of (no_word_tests s) []
  unfolding Checks
  refused_no_word q e =
      let n = number_of s in
      let p : refusal_paper q ≡ answer_of (string_tests s) (verdict_told (ruling n)) = rw (has_room_lem out room) at (ap checked_paper (sym e) ∙ a.answer) in
      let d = refused_said q (verdict_told (ruling n)) (first_of (string_tests s)) (place_of (string_tests s)) p in
      d.0 ∙ sym (alike_said (no_word_tests s) (string_tests s) (stop_at (string_tests s) (last_tests (mended n)) d.1))

  pub taken_no_word : (v : Verdict) (m : ℕ) → c ≡ Ok v → Bytes s → m ≡ number_in (number_of out') → refusal_paper (pick (eqb m 0) Number Place) ≡ answer_of (no_word_tests s) []
  unfolding Checks
  taken_no_word v m e b h =
      let n = number_of s in
      let a' = subst (λ (x : Result Verdict Refusal). Checks s out x out') e a in
      let t = check_took s out v out' a' in
      let f = ap number_of (taken_made (verdict_paper v) a') ∙ string_number_lem (mended n) (mended_lt n (number_lt s b (shaped s t.0).0)) in
      let w = sound_then n t.1 (last_tests (mended n)) in
      ap (λ (j : ℕ). refusal_paper (pick (eqb j 0) Number Place)) (h ∙ ap number_in f)
      ∙ last_said (eqb (number_in (mended n)) 0)
      ∙ sym (rw t.0 (alike_said (sound_tests n ++ last_tests (mended n)) (last_tests (mended n)) w))
