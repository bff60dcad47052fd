-- What the parts of the calls promise: a string read, four strings read, and the words and the floats from the values.
-- Assumes nothing.
use Rattle.std.specs.Prelude.{ℕ, List, [], ◌∷◌, ◌≡◌, Float, ℤ, Result, Ok, Err}
use Rattle.std.specs.Result.{IfOk}
use Rattle.strings.specs.declared.Refusal.{Refusal}
use Rattle.strings.specs.Numbers.{refusal_paper, Test, answer_of}
use Rattle.records.specs.declared.kinds.Kind.{Kind}
use Rattle.records.specs.declared.kinds.Kind.TheVariants.{One, Two, Three, Four}
use Rattle.records.specs.Records.{at}
use Rattle.layout.specs.Layout.{layout}
use Rattle.words.specs.Values.{values_of}
use Rattle.scaled.specs.Scaled.{scaled_of}
use Rattle.scaled.specs.Units.{place_at, unit_at}
use Rattle.host.specs.declared.record.FourValues.{FourValues}
use Rattle.host.specs.Host.{left, four_tests}

-- an answer in the paper's numbers: 0 and no more where values are told, else the refusal's
abbrev pub read_paper : {A : Type 0} → Result A Refusal → List ℕ
read_paper (Ok _) = 0 ∷ []
read_paper (Err q) = refusal_paper q

-- the answer of these tests, and where none fits the values of the kind in the string n
pub record TellsValues (tests : List Test) (n : ℕ) (k : Kind) (r : Result (List ℤ) Refusal) : Type 0 where
  pub answer : read_paper r ≡ answer_of tests []
  pub values : IfOk r (λ v. v ≡ values_of n (layout k))

-- the values of each of the four, in the string as the check leaves it
pub record AreFour (one two three four : List ℕ) (v : FourValues) : Type 0 where
  pub first : v.one ≡ values_of (left one) (layout One)
  pub second : v.two ≡ values_of (left two) (layout Two)
  pub third : v.three ≡ values_of (left three) (layout Three)
  pub fourth : v.four ≡ values_of (left four) (layout Four)

-- the answer of the four strings' tests, and where none fits the values of each
pub record TellsFour (one two three four : List ℕ) (r : Result FourValues Refusal) : Type 0 where
  pub answer : read_paper r ≡ answer_of (four_tests one two three four) []
  pub values : IfOk r (λ v. AreFour one two three four v)

-- the words of four kinds from their values, without the places that a kind does not fill
abbrev pub words_from : List ℤ → List ℤ → List ℤ → List ℤ → List ℤ
words_from a b c d =
    at a 0 ∷ at a 1 ∷ at a 2 ∷ at a 3 ∷ at a 4
    ∷ at b 0 ∷ at b 1 ∷ at b 2 ∷ at b 3 ∷ at b 4 ∷ at b 5
    ∷ at c 0 ∷ at c 1 ∷ at c 2 ∷ at c 3 ∷ at c 4 ∷ at c 5 ∷ at c 6
    ∷ at d 0 ∷ at d 1 ∷ at d 2 ∷ at d 3 ∷ at d 4 ∷ at d 5 ∷ at d 6 ∷ at d 7
    ∷ []

-- the word of a number from the values of its kind, as a float
abbrev pub float_from : List ℤ → ℕ → Float
float_from v number = scaled_of (at v (place_at number)) (unit_at number)

abbrev pub numbers_from : List ℤ → List ℤ → List ℤ → List ℤ → List Float
numbers_from a b c d =
    float_from a 1 ∷ float_from a 2 ∷ float_from a 3
    ∷ float_from b 4 ∷ float_from b 5 ∷ float_from b 6
    ∷ float_from c 7 ∷ float_from c 8 ∷ float_from c 9 ∷ float_from c 10
    ∷ float_from d 11 ∷ float_from d 12
    ∷ []
