-- What the call of one word promises, from its parts: no string has the word (word_none), its string is refused (word-refused), the float is made (word-done).
-- Assumes nothing.
use mathlib.Core.Path.{◌≡◌, refl, sym, ap, subst, ◌∙◌}
use mathlib.Core.Bool.{Bool, true, false, not, ◌&&◌}
use mathlib.Core.List.{List, [], ◌∷◌, ◌++◌}
use Prim.Native.Nat.{ℕ, ◌≤◌}
use lib.Dec.{T, eqb, leb, leb→le}
use lib.Ieee.{Float}
use lib.IntN.{ℤ}
use Rattle.std.specs.Prelude.{Result, Ok, Err}
use Rattle.std.proofs.lemmas.Result.{IfOk-at_ok}
use Rattle.strings.specs.declared.Refusal.{Refusal}
use Rattle.strings.specs.Numbers.{refusal_paper, Test, test, first_of, place_of, answer_of}
use Rattle.strings.specs.Calls.{sound_tests, string_tests}
use Rattle.strings.proofs.Answer.{first_given}
use Rattle.strings.proofs.Below.{and_left, and_right}
use Rattle.layout.specs.Layout.{layout, of_kind}
use Rattle.words.specs.Values.{values_of}
use Rattle.words.specs.Calls.{number_in, range_test, read_tests}
use Rattle.told.specs.Told.{packed}
use Rattle.scaled.specs.Scaled.{scaled_of}
use Rattle.scaled.specs.declared.table.SignedWord.{SignedWord}
use Rattle.scaled.specs.Units.{kind_at, unit_at, IsListed}
use Rattle.host.specs.Host.{is_word, word_tests, no_word_tests, float_in, TellsWord, left}
use Rattle.host.specs.Parts.{read_paper, TellsValues, float_from}
use Rattle.host.proofs.Sequence.{Alike, alike_told, left_refused, left_done}
use Rattle.host.proofs.Floats.{raw_is}
use Rattle.host.proofs.Values.{refused_given}
use Rattle.host.proofs.NoWord.{no_word_refuses}

-- ---- which numbers are words
pub in_table : (number : ℕ) → is_word number ≡ true → (1 ≤ number) × (number ≤ 22)
in_table number e =
    let t : T (is_word number) = subst T (sym e) tt in
    (leb→le 1 number (and_left (leb 1 number) (leb number 22) t), leb→le number 22 (and_right (leb 1 number) (leb number 22) t))

-- ---- the tests, by whether the number is a word
not_and : (b o : Bool) → b ≡ true → not (b && o) ≡ not o
not_and true o e = refl
not_and false o e = absurd (mathlib.Core.Bool.false≢true e)

nor : (b o : Bool) → b ≡ false → not (b && o) ≡ true
nor true o e = absurd (mathlib.Core.Bool.true≢false e)
nor false o e = refl

-- what is read of the kind that the table has for the word
pub of_word : (s : List ℕ) (number : ℕ) (w : SignedWord) (r : Result (List ℤ) Refusal) → IsListed number w → TellsValues (read_tests s w.0) (left s) w.0 r
    → TellsValues (read_tests s (kind_at number)) (left s) (kind_at number) r
of_word s number w r l a = subst (λ (x : SignedWord). TellsValues (read_tests s x.0) (left s) x.0 r) l.is a

module _ (s : List ℕ) (number : ℕ) where
  abbrev placed : Bool → List Test
  placed b =
      string_tests s
      ++ (test 5 (eqb (number_in (left s)) 0) ∷ test 11 b ∷ range_test (values_of (left s) (layout (kind_at number))) (kind_at number) ∷ [])

  pub tests_in_lem : is_word number ≡ true → word_tests s number ≡ read_tests s (kind_at number)
  tests_in_lem e = ap placed (not_and (is_word number) (of_kind (kind_at number) (number_in (left s))) e)

  pub tests_out : is_word number ≡ false → Alike (word_tests s number) (no_word_tests s)
  unfolding sound_tests
  tests_out e =
      let p = ap placed (nor (is_word number) (of_kind (kind_at number) (number_in (left s))) e) in
      (ap first_of p, ap place_of p)

  pub word_none : (v : Float) (q : Refusal) (r : ℕ) → is_word number ≡ false → refusal_paper q ≡ answer_of (no_word_tests s) [] → r ≡ packed (refusal_paper q)
      → TellsWord s number v r v
  word_none v q r o e f =
      let t = tests_out o in
      record {
        answer = f ∙ ap packed e ∙ sym (alike_told (word_tests s number) (no_word_tests s) t);
        float = left_refused (word_tests s number) (float_in (left s) number) v (λ z. no_word_refuses s (sym t.0 ∙ z));
      }

  module _ (x : Result (List ℤ) Refusal) (w : is_word number ≡ true) (a : TellsValues (read_tests s (kind_at number)) (left s) (kind_at number) x) where
    said_in : read_paper x ≡ answer_of (word_tests s number) []
    said_in = a.answer ∙ ap (λ (ts : List Test). answer_of ts []) (sym (tests_in_lem w))

    pub word_refused : (v : Float) (q : Refusal) (r : ℕ) → x ≡ Err q → r ≡ packed (refusal_paper q) → TellsWord s number v r v
    word_refused v q r e f =
        let p : refusal_paper q ≡ answer_of (word_tests s number) [] = ap read_paper (sym e) ∙ said_in in
        record {
          answer = f ∙ ap packed p;
          float = left_refused (word_tests s number) (float_in (left s) number) v (refused_given (word_tests s number) q p);
        }

    pub word_done : (v y : Float) (l : List ℤ) → x ≡ Ok l → y ≡ float_from l number → TellsWord s number v 0 y
    word_done v y l e f =
        let ts = word_tests s number in
        let b = in_table number w in
        let p : 0 ∷ [] ≡ answer_of ts [] = ap read_paper (sym e) ∙ said_in in
        record {
          answer = ap packed p;
          float =
              f
              ∙ ap (λ (m : List ℤ). float_from m number) (IfOk-at_ok _ e a.values)
              ∙ ap (λ (raw : ℤ). scaled_of raw (unit_at number)) (raw_is (left s) number b.0 b.1)
              ∙ left_done ts (float_in (left s) number) v (first_given ts [] p);
        }
