-- Four strings read one after the other (four_1 to four_4, all_four), and what the call of the immediate record promises from its parts: a length is wrong (lengths-refused),
-- a string is refused (record-refused), the record is made (record-done).
-- Assumes nothing.
use mathlib.Core.Path.{◌≡◌, refl, sym, ap, ◌∙◌}
use mathlib.Core.Bool.{Bool, true, false, not, ◌&&◌, true≢false, false≢true}
use mathlib.Core.List.{List, [], ◌∷◌, ◌++◌}
use Prim.Native.Nat.{ℕ, ◌≤◌}
use native.Mathlib.Omega.{arith}
use lib.Dec.{eqb, lit≤}
use lib.Ieee.{Float}
use lib.IntN.{ℤ}
use lib.ListN.{length}
use Rattle.std.specs.Prelude.{Result, Ok, Err}
use Rattle.std.proofs.lemmas.Result.{IfOk-at_ok}
use Rattle.strings.specs.declared.Refusal.{Refusal}
use Rattle.strings.specs.Numbers.{refusal_paper, Test, test, first_of, answer_of}
use Rattle.strings.proofs.Answer.{first_given}
use Rattle.records.specs.declared.kinds.Kind.{Kind}
use Rattle.records.specs.declared.kinds.Kind.TheVariants.{One, Two, Three, Four}
use Rattle.layout.specs.Layout.{layout}
use Rattle.words.specs.Values.{values_of}
use Rattle.words.specs.Calls.{read_tests}
use Rattle.told.specs.Told.{packed}
use Rattle.scaled.specs.Scaled.{scaled_of}
use Rattle.scaled.specs.Units.{units, kind_at, unit_at}
use Rattle.host.specs.declared.record.FourValues.{FourValues}
use Rattle.host.specs.Host.{left, four_tests, immediate_tests, record_words, record_floats, float_in, TellsImmediate}
use Rattle.host.specs.Parts.{read_paper, TellsValues, TellsFour, words_from, float_from, numbers_from}
use Rattle.host.proofs.Sequence.{Alike, past_all, stop_at, alike_on, alike_said, alike_told, read_numbers, left_refused, left_done}
use Rattle.host.proofs.Values.{refused_given}
use Rattle.host.proofs.Floats.{raw_is}

-- ---- one string
module _ (s : List ℕ) (k : Kind) (x : Result (List ℤ) Refusal) (a : TellsValues (read_tests s k) (left s) k x) where
  said_yes : (v : List ℤ) → x ≡ Ok v → 0 ∷ [] ≡ answer_of (read_tests s k) []
  said_yes v e = ap read_paper (sym e) ∙ a.answer

  -- it is read, and those after it answer; or it is refused, and they are not asked
  past : (ts us : List Test) → Alike ts (read_tests s k ++ us) → (v : List ℤ) → x ≡ Ok v → Alike ts us
  past ts us p v e = alike_on ts (read_tests s k ++ us) us p (past_all (read_tests s k) us (read_numbers s k) (first_given (read_tests s k) [] (said_yes v e)))

  said_no : (q : Refusal) → x ≡ Err q → refusal_paper q ≡ answer_of (read_tests s k) []
  said_no q e = ap read_paper (sym e) ∙ a.answer

  stop : (ts us : List Test) → Alike ts (read_tests s k ++ us) → (q : Refusal) → x ≡ Err q → Alike ts (read_tests s k)
  stop ts us p q e = alike_on ts (read_tests s k ++ us) (read_tests s k) p (stop_at (read_tests s k) us (refused_given (read_tests s k) q (said_no q e)))

-- ---- four strings
module _ (one two three four : List ℕ) where
  abbrev all : List Test
  all = four_tests one two three four

  abbrev last : List Test
  last = read_tests four Four

  abbrev last_2 : List Test
  last_2 = read_tests three Three ++ last

  abbrev last_3 : List Test
  last_3 = read_tests two Two ++ last_2

  refused_by : (s : List ℕ) (k : Kind) (x : Result (List ℤ) Refusal) → TellsValues (read_tests s k) (left s) k x → (q : Refusal) → x ≡ Err q
      → Alike all (read_tests s k) → TellsFour one two three four (Err q)
  refused_by s k x a q e p = record { answer = said_no s k x a q e ∙ sym (alike_said all (read_tests s k) p); values = tt }

  module _ (x : Result (List ℤ) Refusal) (a : TellsValues (read_tests one One) (left one) One x) where
    pub four_1 : (q : Refusal) → x ≡ Err q → TellsFour one two three four (Err q)
    four_1 q e = refused_by one One x a q e (stop one One x a all last_3 (refl, refl) q e)

    module _ (v : List ℤ) (i : x ≡ Ok v) (y : Result (List ℤ) Refusal) (b : TellsValues (read_tests two Two) (left two) Two y) where
      after-1 : Alike all last_3
      after-1 = past one One x a all last_3 (refl, refl) v i

      pub four_2 : (q : Refusal) → y ≡ Err q → TellsFour one two three four (Err q)
      four_2 q e = refused_by two Two y b q e (stop two Two y b all last_2 after-1 q e)

      module _ (v₂ : List ℤ) (j : y ≡ Ok v₂) (z : Result (List ℤ) Refusal) (c : TellsValues (read_tests three Three) (left three) Three z) where
        after-2 : Alike all last_2
        after-2 = past two Two y b all last_2 after-1 v₂ j

        pub four_3 : (q : Refusal) → z ≡ Err q → TellsFour one two three four (Err q)
        four_3 q e = refused_by three Three z c q e (stop three Three z c all last after-2 q e)

        module _ (v₃ : List ℤ) (l : z ≡ Ok v₃) (w : Result (List ℤ) Refusal) (d : TellsValues (read_tests four Four) (left four) Four w) where
          after-3 : Alike all last
          after-3 = past three Three z c all last after-2 v₃ l

          pub four_4 : (q : Refusal) → w ≡ Err q → TellsFour one two three four (Err q)
          four_4 q e = refused_by four Four w d q e after-3

          pub all_four : (v₄ : List ℤ) → w ≡ Ok v₄ → TellsFour one two three four (Ok (record { one = v; two = v₂; three = v₃; four = v₄ }))
          all_four v₄ m =
              record {
                answer = said_yes four Four w d v₄ m ∙ sym (alike_said all last after-3);
                values = record { first = IfOk-at_ok _ i a.values; second = IfOk-at_ok _ j b.values; third = IfOk-at_ok _ l c.values; fourth = IfOk-at_ok _ m d.values };
              }

-- ---- the words and the floats of the values
words_are : (a b c d : ℕ)
    → words_from (values_of a (layout One)) (values_of b (layout Two)) (values_of c (layout Three)) (values_of d (layout Four)) ≡ record_words a b c d
unfolding record_words values_of layout
words_are a b c d = refl

-- the word of a number from the values of its kind
float_is : (n number : ℕ) (k : Kind) → kind_at number ≡ k → 1 ≤ number → number ≤ 22 → float_from (values_of n (layout k)) number ≡ float_in n number
float_is n number k e h u =
    ap (λ (q : Kind). float_from (values_of n (layout q)) number) (sym e) ∙ ap (λ (raw : ℤ). scaled_of raw (unit_at number)) (raw_is n number h u)

pub three_more : {a b c x y z : Float} {l m : List Float} → a ≡ x → b ≡ y → c ≡ z → l ≡ m → a ∷ b ∷ c ∷ l ≡ x ∷ y ∷ z ∷ m
three_more e f g h = rw (e, f, g, h)

floats_are : (a b c d : ℕ)
    → numbers_from (values_of a (layout One)) (values_of b (layout Two)) (values_of c (layout Three)) (values_of d (layout Four)) ≡ record_floats a b c d
unfolding record_floats units
floats_are a b c d =
    let f1 = float_is a 1 One refl (lit≤ tt) (lit≤ tt) in
    let f2 = float_is a 2 One refl (lit≤ tt) (lit≤ tt) in
    let f3 = float_is a 3 One refl (lit≤ tt) (lit≤ tt) in
    let f4 = float_is b 4 Two refl (lit≤ tt) (lit≤ tt) in
    let f5 = float_is b 5 Two refl (lit≤ tt) (lit≤ tt) in
    let f6 = float_is b 6 Two refl (lit≤ tt) (lit≤ tt) in
    let f7 = float_is c 7 Three refl (lit≤ tt) (lit≤ tt) in
    let f8 = float_is c 8 Three refl (lit≤ tt) (lit≤ tt) in
    let f9 = float_is c 9 Three refl (lit≤ tt) (lit≤ tt) in
    let f10 = float_is c 10 Three refl (lit≤ tt) (lit≤ tt) in
    let f11 = float_is d 11 Four refl (lit≤ tt) (lit≤ tt) in
    let f12 = float_is d 12 Four refl (lit≤ tt) (lit≤ tt) in
    three_more f1 f2 f3 (three_more f4 f5 f6 (three_more f7 f8 f9 (three_more f10 f11 f12 refl)))

-- ---- the call
abbrev length_tests : Bool → Bool → Bool → Bool → List Test → List Test
length_tests a b c d ts = test 2 (not a) ∷ test 2 (not b) ∷ test 2 (not c) ∷ test 2 (not d) ∷ ts

long : (a b c d : Bool) (ts : List Test) → (a && (b && (c && d))) ≡ true → Alike (length_tests a b c d ts) ts
long true true true true ts e = (refl, refl)
long true true true false ts e = absurd (false≢true e)
long true true false d ts e = absurd (false≢true e)
long true false c d ts e = absurd (false≢true e)
long false b c d ts e = absurd (false≢true e)

pub not_long : (a b c d : Bool) (ts : List Test) → (a && (b && (c && d))) ≡ false → Alike (length_tests a b c d ts) (test 2 true ∷ [])
not_long true true true true ts e = absurd (true≢false e)
not_long true true true false ts e = (refl, refl)
not_long true true false d ts e = (refl, refl)
not_long true false c d ts e = (refl, refl)
not_long false b c d ts e = (refl, refl)

module _ (one two three four : List ℕ) (words : List ℤ) (numbers : List Float) where
  abbrev tests : List Test
  tests = immediate_tests one two three four

  abbrev eleven : List ℕ → Bool
  eleven s = eqb (length s) 11

  abbrev lengths : Bool
  lengths = eleven one && (eleven two && (eleven three && eleven four))

  none_made : (r : ℕ) (us : List Test) → Alike tests us → (first_of us ≡ 0 → ⊥) → r ≡ packed (answer_of us [])
      → TellsImmediate one two three four words numbers r words numbers
  none_made r us p h e =
      record {
        answer = e ∙ sym (alike_told tests us p);
        raw = left_refused tests (record_words (left one) (left two) (left three) (left four)) words (λ z. h (sym p.0 ∙ z));
        floats = left_refused tests (record_floats (left one) (left two) (left three) (left four)) numbers (λ z. h (sym p.0 ∙ z));
      }

  pub lengths_refused : lengths ≡ false → TellsImmediate one two three four words numbers 2 words numbers
  lengths_refused e =
      none_made 2 (test 2 true ∷ []) (not_long (eleven one) (eleven two) (eleven three) (eleven four) (four_tests one two three four) e) (λ z. omega arith) refl

  module _ (r : Result FourValues Refusal) (e : lengths ≡ true) (a : TellsFour one two three four r) where
    read_alike : Alike tests (four_tests one two three four)
    read_alike = long (eleven one) (eleven two) (eleven three) (eleven four) (four_tests one two three four) e

    pub record_refused : (q : Refusal) (n : ℕ) → r ≡ Err q → n ≡ packed (refusal_paper q) → TellsImmediate one two three four words numbers n words numbers
    record_refused q n f g =
        let p : refusal_paper q ≡ answer_of (four_tests one two three four) [] = ap read_paper (sym f) ∙ a.answer in
        none_made n (four_tests one two three four) read_alike (refused_given (four_tests one two three four) q p) (g ∙ ap packed p)

    pub record_done : (u : FourValues) (v : List ℤ) (x : List Float) → r ≡ Ok u → v ≡ words_from u.one u.two u.three u.four
        → x ≡ numbers_from u.one u.two u.three u.four → TellsImmediate one two three four words numbers 0 v x
    record_done u v x h f g =
        let p : 0 ∷ [] ≡ answer_of (four_tests one two three four) [] = ap read_paper (sym h) ∙ a.answer in
        let y : first_of tests ≡ 0 = read_alike.0 ∙ first_given (four_tests one two three four) [] p in
        let w = IfOk-at_ok _ h a.values in
        record {
          answer = ap packed (p ∙ sym (alike_said tests (four_tests one two three four) read_alike));
          raw = f ∙ rw (w.first, w.second, w.third, w.fourth) (words_are (left one) (left two) (left three) (left four))
              ∙ left_done tests (record_words (left one) (left two) (left three) (left four)) words y;
          floats = g ∙ rw (w.first, w.second, w.third, w.fourth) (floats_are (left one) (left two) (left three) (left four))
              ∙ left_done tests (record_floats (left one) (left two) (left three) (left four)) numbers y;
        }
