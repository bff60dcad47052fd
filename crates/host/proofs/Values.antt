-- What a check and a reading tell a host, from what they answer (check-told, kind-refused, kind-read).
-- Assumes nothing.
use mathlib.Core.Path.{◌≡◌, ap, subst, ◌∙◌}
use mathlib.Core.List.{List, [], ◌∷◌}
use Prim.Native.Nat.{ℕ, zero, suc}
use native.Mathlib.Omega.{arith}
use lib.Dec.{eqb}
use lib.IntN.{ℤ}
use Rattle.strings.specs.declared.Refusal.{Refusal}
use Rattle.strings.specs.declared.Verdict.{Verdict}
use Rattle.std.specs.Prelude.{Result, Ok, Err}
use Rattle.strings.specs.Calls.{Checks, checked_paper}
use Rattle.strings.specs.Pick.{pick}
use Rattle.strings.specs.Number.{number_of}
use Rattle.strings.specs.Hamming.{mended}
use Rattle.strings.specs.Numbers.{refusal_paper, Test, first_of, place_of, said_by, answer_of}
use Rattle.strings.proofs.Answer.{not_taken, first_given}
use Rattle.records.specs.declared.kinds.Kind.{Kind}
use Rattle.records.specs.declared.named.Record.{Record}
use Rattle.records.specs.Records.{list_of}
use Rattle.layout.specs.Layout.{layout, kind_number}
use Rattle.words.specs.Values.{values_of}
use Rattle.words.specs.Calls.{number_in, read_tests, reading_words, ReadsBy, Reads}
use Rattle.told.specs.Told.{packed}
use Rattle.host.specs.Host.{TellsCheck}
use Rattle.host.specs.Parts.{TellsValues}
use Rattle.host.proofs.Sequence.{none_said}

-- the check, in one number
pub check_told : (s out : List ℕ) (x : Result Verdict Refusal) (out' : List ℕ) (r : ℕ) → Checks s out x out' → r ≡ packed (checked_paper x) → TellsCheck s out r out'
unfolding Checks
check_told s out x out' r a e = record { answer = e ∙ ap packed a.answer; output = a.output }

-- a refusal tells its number and place, whatever a taken call would tell
pub refused_said : (q : Refusal) (told : List ℕ) (n : ℕ) (p : List ℕ) → refusal_paper q ≡ said_by n p told → (refusal_paper q ≡ said_by n p []) × (n ≡ 0 → ⊥)
refused_said q told zero p e = absurd (not_taken q told e)
refused_said q told (suc k) p e = (e, (λ z. omega arith))

-- so a test fits where a refusal is told
pub refused_given : (ts : List Test) (q : Refusal) → refusal_paper q ≡ answer_of ts [] → first_of ts ≡ 0 → ⊥
refused_given ts q e = (refused_said q [] (first_of ts) (place_of ts) e).1

module _ (s : List ℕ) (k : Kind) (x : Result (ℕ × Record) Refusal) (a : Reads s k x) where
  pub kind_refused : (q : Refusal) → x ≡ Err q → TellsValues (read_tests s k) (mended (number_of s)) k (Err q)
  unfolding Reads
  kind_refused q e =
      let n = mended (number_of s) in
      let b = subst (ReadsBy (read_tests s k) n k) e a in
      record { answer = (refused_said q (number_in n ∷ kind_number k ∷ []) (first_of (read_tests s k)) (place_of (read_tests s k)) b.answer).0; values = tt }

  pub kind_read : (m : ℕ) (rec : Record) (v : List ℤ) → x ≡ Ok (m, rec) → v ≡ list_of rec → TellsValues (read_tests s k) (mended (number_of s)) k (Ok v)
  unfolding Reads reading_words
  kind_read m rec v e f =
      let n = mended (number_of s) in
      let b = subst (ReadsBy (read_tests s k) n k) e a in
      let z = first_given (read_tests s k) (number_in n ∷ kind_number k ∷ []) b.answer in
      record {
        answer = none_said (first_of (read_tests s k)) (place_of (read_tests s k)) z;
        values = f ∙ b.words ∙ ap (λ (j : ℕ). pick (eqb j 0) (values_of n (layout k)) []) z;
      }
