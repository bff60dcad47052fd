-- What a lent station tells is what `write_record` answers of the same station by value. Assumes nothing.
use Prim.Native.Nat.{ℕ, zero, suc, ◌*◌, ◌%◌, ◌<◌}
use native.Mathlib.Omega.{arith}
use mathlib.Core.List.{List, [], ◌∷◌}
use mathlib.Core.Path.{◌≡◌, refl, sym, ap, ◌∙◌}
use borrow.Author.Tests.{ne_eqb}
use lib.Dec.{ltb, ltb→lt}
use lib.ListN.{length, get_or, take}
use Rattle.strings.specs.Numbers.{Test, first_of, place_of, said_by, answer_of, left_by, Answers, Exactly}
use Rattle.navigation.specs.declared.Unwritten.{Unwritten}
use Rattle.std.specs.Prelude.{Result, Ok}
use Rattle.strings.proofs.Answer.{exactly}
use Rattle.strings.proofs.Tests.{first_of_lem}
use Rattle.channel.proofs.HeldFrame.{first_said}
use Rattle.station.specs.declared.Station.{Station}
use Rattle.navigation.specs.Writes.{n_at, quarter_at, record_tests, text_at, answer_paper, Writes}
use Rattle.told.specs.Told.{packed}
use Rattle.lent_navigation.specs.Lent.{TellsNavigation}
use Rattle.lent_navigation.specs.Laws.{Laws}
use Rattle.lent_navigation.proofs.Told.{two_told, written_two, left_is}

-- the lowest byte of an answer is its number
low_byte : (k : ℕ) (place told : List ℕ) → k < 256 → packed (said_by k place told) % 256 ≡ k
low_byte zero place told h = omega arith
low_byte (suc k) place told h = omega (arith, h)

module _ (st : Station) (card c : ℕ) (out out' : List ℕ) (r : ℕ) (t : TellsNavigation st card c out out' r) where
  abbrev tests : List Test
  tests = record_tests st card c (length out)

  abbrev told : List ℕ
  told = n_at st c ∷ []

  same : (out'' : List ℕ) (x : Result (ℕ × ℕ) Unwritten) → Writes st card c out x out'' → (out' ≡ out'') × (r ≡ packed (take 2 (answer_paper x)))
  unfolding Writes
  same out'' x w = (
    t.output ∙ sym (left_is (first_of tests) (text_at st c) out) ∙ sym w.output,
    t.answer ∙ ap packed (sym (two_told tests (n_at st c) (quarter_at st c) tt)) ∙ ap (λ (l : List ℕ). packed (take 2 l)) (sym w.answer),
  )

  number_is : r % 256 ≡ first_of tests
  number_is = ap (λ (k : ℕ). k % 256) t.answer ∙ low_byte (first_of tests) (place_of tests) told (ltb→lt (first_of tests) 256 (first_of_lem (λ (k : ℕ). ltb k 256) tests tt tt))

  number : (out'' : List ℕ) (x : Result (ℕ × ℕ) Unwritten) → Writes st card c out x out'' → r % 256 ≡ get_or (answer_paper x) 0 0
  unfolding Writes
  number out'' x w = number_is ∙ sym (ap (λ (l : List ℕ). get_or l 0 0) w.answer ∙ first_said tests (n_at st c ∷ quarter_at st c ∷ []))

  only_then : Exactly tests (r % 256 ∷ [])
  only_then =
      let a : Answers tests told (text_at st c) out (answer_of tests told) (left_by (first_of tests) (text_at st c) out) = record { answer = refl; output = refl } in
      let x : Exactly tests (answer_of tests told) = exactly tt a in
      let e : get_or (answer_of tests told) 0 0 ≡ r % 256 = first_said tests told ∙ sym number_is in
      record {
        refused = λ j l. let p = x.refused j l in ((λ q. p.0 (e ∙ q)), (λ q. sym e ∙ p.1 q));
        taken = let p = x.taken in ((λ q. p.0 (e ∙ q)), (λ q. sym e ∙ p.1 q));
      }

  untouched : (r % 256 ≡ 0 → ⊥) → out' ≡ out
  untouched f = t.output ∙ rw (ne_eqb (first_of tests) 0 (λ z. f (number_is ∙ z)))

  -- what a record's answer is
  written : (n quarter : ℕ) (out'' : List ℕ) → Writes st card c out (Ok (n, quarter)) out'' → r ≡ 256 * n
  written n quarter out'' w = (same out'' (Ok (n, quarter)) w).1 ∙ sym (written_two n quarter)

pub laws : Laws
laws =
    record {
      same = λ st card c out out' out'' r x w t. same st card c out out' r t out'' x w;
      number = λ st card c out out' out'' r x w t. number st card c out out' r t out'' x w;
      exactly = only_then;
      untouched = untouched;
      satellite = λ st st' card c card' c' n n' quarter quarter' out text left out' text' left' r w t w' t'.
          let e : r ≡ 256 * n = written st card c out left r t n quarter text w in
          let e' : r ≡ 256 * n' = written st' card' c' out' left' r t' n' quarter' text' w' in
          omega (arith, e, e');
    }
