-- Numbers for a host in C (request 7): "calls that check a string, read an immediate record from four strings of one frame, and deliver each signed word as a
-- float". One relation each, between what the call was handed, its answer in one number, and what it left in its outputs.
-- Assumes nothing.
use Rattle.std.specs.Prelude.{ℕ, Bool, true, not, ◌&&◌, List, [], ◌∷◌, ◌++◌, ◌≡◌, eqb, leb, Float, ℤ, length, take}
use Rattle.strings.specs.Pick.{pick}
use Rattle.strings.specs.Number.{number_of, bytes_of_string}
use Rattle.strings.specs.Hamming.{ruling, mended}
use Rattle.strings.specs.Numbers.{Test, test, first_of, answer_of, left_by}
use Rattle.strings.specs.Calls.{string_tests, check_tests, verdict_told}
use Rattle.records.specs.declared.kinds.Kind.TheVariants.{One, Two, Three, Four}
use Rattle.layout.specs.declared.table.Word.{Word}
use Rattle.layout.specs.Layout.{layout, of_kind}
use Rattle.words.specs.Values.{values_of}
use Rattle.words.specs.Calls.{number_in, range_test, read_tests}
use Rattle.words.specs.Names.{signed_in}
use Rattle.words.specs.Tidied.{word_at}
use Rattle.told.specs.Told.{packed}
use Rattle.scaled.specs.Scaled.{scaled_of}
use Rattle.scaled.specs.Units.{kind_at, place_at, unit_at}

-- what is left in an output: a refusal leaves it as it was
abbrev pub left_in : {A : Type 0} → List Test → A → A → A
left_in tests made out = pick (eqb (first_of tests) 0) made out

-- ---- a string checked: "Check: 12, 2, 3, 4", with 31, 32, 33 for 3. The answer is 0 with the verdict's case and its bit
pub record TellsCheck (s out : List ℕ) (r : ℕ) (out' : List ℕ) : Type 0 where
  pub answer : r ≡ packed (answer_of (check_tests s out) (verdict_told (ruling (number_of s))))
  pub output : out' ≡ left_by (first_of (check_tests s out)) (bytes_of_string (mended (number_of s))) out

-- ---- a signed word as a float
-- the words are numbered 1 to 22
abbrev pub is_word : ℕ → Bool
is_word number = leb 1 number && leb number 22

-- "the reader's, in its order": 2, 31, 32, 33, 4, 5, 11, 10 for the kind that the word stands in. No string has a word 0 or above 22: PLACE
abbrev pub asked_tests : ℕ → ℕ → List Test
asked_tests n number =
    test 5 (eqb (number_in n) 0)
    ∷ test 11 (not (is_word number && of_kind (kind_at number) (number_in n)))
    ∷ range_test (values_of n (layout (kind_at number))) (kind_at number)
    ∷ []

abbrev pub word_tests : List ℕ → ℕ → List Test
word_tests s number = string_tests s ++ asked_tests (mended (number_of s)) number

-- those that are left where no string has the word
abbrev pub no_word_tests : List ℕ → List Test
no_word_tests s = string_tests s ++ (test 5 (eqb (number_in (mended (number_of s))) 0) ∷ test 11 true ∷ [])

-- the word of a number in the string n: its sign and magnitude, and "the raw number times the unit"
abbrev pub signed_word : ℕ → Word
signed_word number = word_at (kind_at number) (place_at number)

abbrev pub raw_in : ℕ → ℕ → ℤ
raw_in n number = signed_in n (signed_word number).top (signed_word number).low

abbrev pub float_in : ℕ → ℕ → Float
float_in n number = scaled_of (raw_in n number) (unit_at number)

-- the string is read as the check leaves it
pub record TellsWord (s : List ℕ) (number : ℕ) (value : Float) (r : ℕ) (value' : Float) : Type 0 where
  pub answer : r ≡ packed (answer_of (word_tests s number) [])
  pub float : value' ≡ left_in (word_tests s number) (float_in (mended (number_of s)) number) value

-- ---- an immediate record from four strings: "all four lengths are tested first", then "the reader's, in its order, for strings 1 to 4 in turn"
abbrev pub length_test : List ℕ → Test
length_test s = test 2 (not (eqb (length s) 11))

abbrev pub four_tests : List ℕ → List ℕ → List ℕ → List ℕ → List Test
four_tests one two three four = read_tests one One ++ (read_tests two Two ++ (read_tests three Three ++ read_tests four Four))

abbrev pub immediate_tests : List ℕ → List ℕ → List ℕ → List ℕ → List Test
immediate_tests one two three four = length_test one ∷ length_test two ∷ length_test three ∷ length_test four ∷ four_tests one two three four

-- the 26 words in the paper's order: 5 of string 1, 6 of string 2, 7 of string 3, 8 of string 4
unfoldable pub record_words : ℕ → ℕ → ℕ → ℕ → List ℤ
record_words a b c d =
    take 5 (values_of a (layout One)) ++ (take 6 (values_of b (layout Two)) ++ (take 7 (values_of c (layout Three)) ++ take 8 (values_of d (layout Four))))

-- the 12 signed ones of them: x, y and z with velocity and acceleration, gamma, tau, delta tau
unfoldable pub record_floats : ℕ → ℕ → ℕ → ℕ → List Float
record_floats a b c d =
    float_in a 1 ∷ float_in a 2 ∷ float_in a 3
    ∷ float_in b 4 ∷ float_in b 5 ∷ float_in b 6
    ∷ float_in c 7 ∷ float_in c 8 ∷ float_in c 9 ∷ float_in c 10
    ∷ float_in d 11 ∷ float_in d 12
    ∷ []

-- a string as the check leaves it
abbrev pub left : List ℕ → ℕ
left s = mended (number_of s)

pub record TellsImmediate (one two three four : List ℕ) (words : List ℤ) (numbers : List Float) (r : ℕ) (words' : List ℤ) (numbers' : List Float) : Type 0 where
  pub answer : r ≡ packed (answer_of (immediate_tests one two three four) [])
  pub raw : words' ≡ left_in (immediate_tests one two three four) (record_words (left one) (left two) (left three) (left four)) words
  pub floats : numbers' ≡ left_in (immediate_tests one two three four) (record_floats (left one) (left two) (left three) (left four)) numbers
