-- The laws of the calls of a host (specs/Laws.antt).
-- Assumes nothing.
use mathlib.Core.Path.{◌≡◌, refl, sym, ap, subst, ◌∙◌}
use mathlib.Core.Bool.{Bool, true, false, ◌&&◌}
use mathlib.Core.List.{List, [], ◌∷◌}
use Prim.Native.Nat.{ℕ, zero, suc, ◌-◌, ◌%◌, ◌≤◌, ◌<◌, suc-le-suc}
use native.Mathlib.Nat.{le_of_suc-le-suc, not-suc-le-zero, zero-lt-suc}
use native.Mathlib.Omega.{arith}
use borrow.Author.Tests.{eq-eqb, eqb-true}
use lib.Dec.{T, eqb, ltb, ltb→lt}
use lib.Ieee.{Float, fin}
use lib.IntN.{ℤ, pos, neg_ℤ}
use lib.ListN.{length, get_or}
use Rattle.strings.specs.Pick.{pick}
use Rattle.strings.specs.Number.{bit_of, word_of}
use Rattle.strings.specs.Numbers.{Test, test, first_of, place_of, said_by, answer_of, left_by, Answers, number_at, FitsAt, Exactly}
use Rattle.strings.specs.Calls.{sound_tests, check_tests}
use Rattle.strings.proofs.Answer.{apart, exactly}
use Rattle.strings.proofs.Below.{and_left, and_right, both, unfit}
use Rattle.strings.proofs.Tests.{all_of, first_of_lem}
use Rattle.told.specs.Told.{packed}
use Rattle.scaled.specs.Scaled.{scaled_of}
use Rattle.scaled.specs.Units.{unit_at}
use Rattle.scaled.proofs.Exactly.{plus_zero}
use Rattle.scaled.proofs.Listed.{each_exact}
use Rattle.host.specs.Host.{TellsWord, is_word, word_tests, four_tests, immediate_tests, signed_word, raw_in, float_in, left}
use Rattle.host.specs.Laws.{GivenBy, GivenOnly, IsExact, MinusZero, AreStrings, Laws}
use Rattle.host.proofs.Sequence.{is_number, nonzero, alike_told, told_zero, left_done}
use Rattle.host.proofs.Floats.{raw_held}
use Rattle.host.proofs.NoWord.{no_word_refuses}
use Rattle.host.proofs.WordAnswers.{in_table, tests_out}
use Rattle.host.proofs.FourStrings.{not_long}

-- ---- the lowest byte is the number that is given, where every number is below 256
abbrev is_byte : ℕ → Bool
is_byte j = ltb j 256

low_byte : (n : ℕ) (p told : List ℕ) → n < 256 → packed (said_by n p told) % 256 ≡ n
low_byte zero p told h = omega arith
low_byte (suc k) p told h = omega arith

given_low : (ts : List Test) (told : List ℕ) (r : ℕ) → T (all_of is_byte ts) → r ≡ packed (answer_of ts told) → r % 256 ≡ first_of ts
given_low ts told r a e =
    ap (λ (x : ℕ). x % 256) e ∙ low_byte (first_of ts) (place_of ts) told (ltb→lt (first_of ts) 256 (first_of_lem is_byte ts a tt))

said_first : (n : ℕ) (p told : List ℕ) → get_or (said_by n p told) 0 0 ≡ n
said_first zero p told = refl
said_first (suc k) p told = refl

exactly_low : (ts : List Test) (n : ℕ) → T (apart ts) → n ≡ first_of ts → Exactly ts (n ∷ [])
exactly_low ts n a e =
    let b : Answers ts [] [] [] (answer_of ts []) (left_by (first_of ts) [] []) = record { answer = refl; output = refl } in
    let x = exactly a b in
    let f : n ≡ get_or (answer_of ts []) 0 0 = e ∙ sym (said_first (first_of ts) (place_of ts) []) in
    record {
      refused = λ j l. ((λ q. (x.refused j l).0 (sym f ∙ q)), (λ q. f ∙ (x.refused j l).1 q));
      taken = ((λ q. x.taken.0 (sym f ∙ q)), (λ q. f ∙ x.taken.1 q));
    }

-- ---- where several tests have the same number
fits_first : (ts : List Test) (j : ℕ) → j < length ts → FitsAt ts j → ((i : ℕ) → i < j → FitsAt ts i → ⊥) → first_of ts ≡ number_at ts j
fits_first [] j l f c = absurd (not-suc-le-zero l)
fits_first (t ∷ ts) zero l f c = by t.fits f
  where
    by : (b : Bool) → T b → pick b t.number (first_of ts) ≡ t.number
    by true h = refl
    by false h = absurd h
fits_first (t ∷ ts) (suc j) l f c =
    rw (unfit t.fits (c 0 (zero-lt-suc j))) (fits_first ts j (le_of_suc-le-suc l) f (λ i h. c (suc i) (suc-le-suc h)))

later : {t : Test} {ts : List Test} {k : ℕ} → (T t.fits → ⊥) → GivenBy ts k → GivenBy (t ∷ ts) k
later {t} {ts} {k} h g =
    record { index = suc g.index; there = suc-le-suc g.there; number = g.number; fits = g.fits; before = before }
  where
    before : (i : ℕ) → i < suc g.index → FitsAt (t ∷ ts) i → ⊥
    before zero l = h
    before (suc i) l = g.before i (le_of_suc-le-suc l)

given_by : (ts : List Test) (k : ℕ) → (k ≡ 0 → ⊥) → first_of ts ≡ k → GivenBy ts k
given_by [] k h e = absurd (h (sym e))
given_by (t ∷ ts) k h e = by t.fits refl (given_by ts k h) e
  where
    by : (b : Bool) → t.fits ≡ b → (first_of ts ≡ k → GivenBy ts k) → pick b t.number (first_of ts) ≡ k → GivenBy (t ∷ ts) k
    by true q ih p = record { index = 0; there = zero-lt-suc (length ts); number = p; fits = subst T (sym q) tt; before = λ i l. absurd (not-suc-le-zero l) }
    by false q ih p = later (λ x. subst T q x) (ih p)

none_fits_lem : (ts : List Test) → T (all_of is_number ts) → first_of ts ≡ 0 → (i : ℕ) → i < length ts → FitsAt ts i → ⊥
none_fits_lem [] a e i l = absurd (not-suc-le-zero l)
none_fits_lem (t ∷ ts) a e i l = by t.fits refl (none_fits_lem ts (and_right (is_number t.number) (all_of is_number ts) a)) e i l
  where
    by : (b : Bool) → t.fits ≡ b → (first_of ts ≡ 0 → (i : ℕ) → i < length ts → FitsAt ts i → ⊥) → pick b t.number (first_of ts) ≡ 0 → (i : ℕ) → i < suc (length ts) → FitsAt (t ∷ ts) i → ⊥
    by true q ih p i l = absurd (nonzero t.number (and_left (is_number t.number) (all_of is_number ts) a) p)
    by false q ih p zero l = λ x. subst T q x
    by false q ih p (suc i) l = ih p i (le_of_suc-le-suc l)

fits_none : (ts : List Test) → ((i : ℕ) → i < length ts → FitsAt ts i → ⊥) → first_of ts ≡ 0
fits_none [] c = refl
fits_none (t ∷ ts) c = rw (unfit t.fits (c 0 (zero-lt-suc (length ts)))) (fits_none ts (λ i h. c (suc i) (suc-le-suc h)))

given_only : (ts : List Test) (n : ℕ) → T (all_of is_number ts) → n ≡ first_of ts → GivenOnly ts n
given_only ts n a e =
    record {
      refused = λ k h. ((λ q. given_by ts k h (sym e ∙ q)), (λ g. e ∙ fits_first ts g.index g.there g.fits g.before ∙ g.number));
      taken = ((λ q. none_fits_lem ts a (sym e ∙ q)), (λ c. e ∙ fits_none ts c));
    }

-- ---- a call of one word that answers 0
word_by : (number : ℕ) (b : Bool) → is_word number ≡ b → (is_word number ≡ false → ⊥) → (1 ≤ number) × (number ≤ 22)
word_by number true e h = in_table number e
word_by number false e h = absurd (h e)

module _ (s : List ℕ) (number : ℕ) (v : Float) (r : ℕ) (x : Float) (a : TellsWord s number v r x) (e : r ≡ 0) where
  none_given : first_of (word_tests s number) ≡ 0
  none_given = told_zero (first_of (word_tests s number)) (place_of (word_tests s number)) (sym a.answer ∙ e)

  word_is : (1 ≤ number) × (number ≤ 22)
  word_is = word_by number (is_word number) refl (λ o. no_word_refuses s (sym (tests_out s number o).0 ∙ none_given))

  made : x ≡ float_in (left s) number
  made = a.float ∙ sym (left_done (word_tests s number) (float_in (left s) number) v none_given)

  exact_word : IsExact (left s) number x
  exact_word =
      let w = word_is in
      let t = each_exact number (raw_in (left s) number) w.0 w.1 (raw_held (left s) number w.0 w.1) in
      record {
        least = w.0;
        most = w.1;
        is = rw made t.number;
        only = λ y f g. t.only y f g ∙ sym made;
      }

  plus : MinusZero (left s) number → x ≡ fin false 0 (pos 0)
  plus m =
      let w = signed_word number in
      let n = left s in
      let z : raw_in n number ≡ pos 0 =
      ap (λ (b : Bool). pick b (neg_ℤ (pos (word_of n (w.top - 1) w.low))) (pos (word_of n (w.top - 1) w.low))) (eq-eqb (bit_of n w.top) 1 m.sign)
      ∙ ap (λ (i : ℕ). neg_ℤ (pos i)) m.size in
      made ∙ ap (λ (raw : ℤ). scaled_of raw (unit_at number)) z ∙ plus_zero (unit_at number)

-- ---- a length that is not that of a string
lengths_told : (one two three four : List ℕ) (r : ℕ) → r ≡ packed (answer_of (immediate_tests one two three four) []) → (AreStrings one two three four → ⊥) → r ≡ 2
lengths_told one two three four r e h =
    by (eqb (length one) 11 && (eqb (length two) 11 && (eqb (length three) 11 && eqb (length four) 11))) refl
  where
    by : (b : Bool) → (eqb (length one) 11 && (eqb (length two) 11 && (eqb (length three) 11 && eqb (length four) 11))) ≡ b → r ≡ 2
    by true q =
        let p = both (eqb (length one) 11) _ q in
        let p' = both (eqb (length two) 11) _ p.1 in
        let p'' = both (eqb (length three) 11) _ p'.1 in
        absurd (h (eqb-true (length one) 11 p.0, (eqb-true (length two) 11 p'.0, (eqb-true (length three) 11 p''.0, eqb-true (length four) 11 p''.1))))
    by false q =
        e
        ∙ alike_told (immediate_tests one two three four) (test 2 true ∷ [])
        (not_long (eqb (length one) 11) (eqb (length two) 11) (eqb (length three) 11) (eqb (length four) 11) (four_tests one two three four) q)

pub laws : Laws
unfolding sound_tests
laws =
    record {
      word_order = λ s number. refl;
      immediate_order = λ one two three four. refl;
      lengths_first = λ one two three four v x r v' x' a h. lengths_told one two three four r a.answer h;
      check_once = λ s out r q out' out'' a b. (a.answer ∙ sym b.answer, a.output ∙ sym b.output);
      word_once = λ s number v r q x y a b. (a.answer ∙ sym b.answer, a.float ∙ sym b.float);
      immediate_once = λ one two three four v x r q v' v'' x' x'' a b. (a.answer ∙ sym b.answer, (a.raw ∙ sym b.raw, a.floats ∙ sym b.floats));
      check_numbers = λ s out r out' a. exactly_low (check_tests s out) (r % 256) tt (given_low (check_tests s out) _ r tt a.answer);
      word_numbers = λ s number v r x a. exactly_low (word_tests s number) (r % 256) tt (given_low (word_tests s number) [] r tt a.answer);
      immediate_numbers = λ one two three four v x r v' x' a.
          given_only (immediate_tests one two three four) (r % 256) tt (given_low (immediate_tests one two three four) [] r tt a.answer);
      word_exact = λ s number v r x a e. exact_word s number v r x a e;
      minus_zero = λ s number v r x a e m. plus s number v r x a e m;
    }
