-- What holds of every call of a host, whatever it is handed: no second answer, each number exactly where its test is the first to fit, each float the number
-- itself, and plus zero for minus zero. Proved as `laws` in `proofs/Laws.antt`.
-- Assumes nothing.
use Rattle.std.specs.Prelude.{ℕ, ◌-◌, ◌%◌, ◌≤◌, ◌<◌, false, List, [], ◌∷◌, ◌++◌, ◌↔◌, ◌≡◌, T, Float, ℤ, pos, length}
use Rattle.std.specs.Float.{fin, binary64}
use Rattle.std.specs.Float.Ieee.{fits}
use Rattle.strings.specs.Number.{bit_of, word_of}
use Rattle.strings.specs.Numbers.{Test, numbers_of, number_at, FitsAt, Exactly}
use Rattle.strings.specs.Calls.{check_tests}
use Rattle.scaled.specs.Scaled.{IsScaled}
use Rattle.scaled.specs.Units.{unit_at}
use Rattle.host.specs.Host.{TellsCheck, TellsWord, TellsImmediate, word_tests, immediate_tests, signed_word, raw_in, left}

abbrev pub reader : List ℕ
reader = 2 ∷ 31 ∷ 32 ∷ 33 ∷ 4 ∷ 5 ∷ 11 ∷ 10 ∷ []

-- the first test that fits has this number: where several tests have the same, any of them
pub record GivenBy (ts : List Test) (n : ℕ) : Type 0 where
  pub index : ℕ
  pub there : index < length ts
  pub number : number_at ts index ≡ n
  pub fits : FitsAt ts index
  pub before : (i : ℕ) → i < index → FitsAt ts i → ⊥

-- "The first that fits is given, and given only then", of four strings whose tests have the same numbers
pub record GivenOnly (ts : List Test) (n : ℕ) : Type 0 where
  pub refused : (k : ℕ) → (k ≡ 0 → ⊥) → (n ≡ k) ↔ GivenBy ts k
  pub taken : (n ≡ 0) ↔ ((i : ℕ) → i < length ts → FitsAt ts i → ⊥)

-- "Each float equals the scaled word exactly, without rounding": the word is one of the 22, the float is the number, and no other float is it
pub record IsExact (n number : ℕ) (x : Float) : Type 0 where
  pub least : 1 ≤ number
  pub most : number ≤ 22
  pub is : IsScaled (raw_in n number) (unit_at number) x
  pub only : (y : Float) → T (fits binary64 y) → IsScaled (raw_in n number) (unit_at number) y → y ≡ x

-- the bits of a word are minus zero: the sign is 1, and every bit below it 0
pub record MinusZero (n number : ℕ) : Type 0 where
  pub sign : bit_of n (signed_word number).top ≡ 1
  pub size : word_of n ((signed_word number).top - 1) (signed_word number).low ≡ 0

-- the four have the length of a string
abbrev pub AreStrings : List ℕ → List ℕ → List ℕ → List ℕ → Type 0
AreStrings one two three four = (length one ≡ 11) × ((length two ≡ 11) × ((length three ≡ 11) × (length four ≡ 11)))

pub record Laws : Type 0 where
  -- "the reader's, in its order", with 31, 32, 33 "all in 3's position"; "for strings 1 to 4 in turn; all four lengths are tested first"
  pub word_order : (s : List ℕ) (number : ℕ) → numbers_of (word_tests s number) ≡ reader
  pub immediate_order : (one two three four : List ℕ) → numbers_of (immediate_tests one two three four) ≡ 2 ∷ 2 ∷ 2 ∷ 2 ∷ (reader ++ (reader ++ (reader ++ reader)))
  -- where one has another length, SHAPE is told, whatever else is wrong with the strings before it
  pub lengths_first : (one two three four : List ℕ) (v : List ℤ) (x : List Float) (r : ℕ) (v' : List ℤ) (x' : List Float)
      → TellsImmediate one two three four v x r v' x' → (AreStrings one two three four → ⊥) → r ≡ 2
  -- no second answer, and nothing else left
  pub check_once : (s out : List ℕ) (r q : ℕ) (out' out'' : List ℕ) → TellsCheck s out r out' → TellsCheck s out q out'' → (r ≡ q) × (out' ≡ out'')
  pub word_once : (s : List ℕ) (number : ℕ) (v : Float) (r q : ℕ) (x y : Float) → TellsWord s number v r x → TellsWord s number v q y → (r ≡ q) × (x ≡ y)
  pub immediate_once : (one two three four : List ℕ) (v : List ℤ) (x : List Float) (r q : ℕ) (v' v'' : List ℤ) (x' x'' : List Float)
      → TellsImmediate one two three four v x r v' x' → TellsImmediate one two three four v x q v'' x'' → (r ≡ q) × ((v' ≡ v'') × (x' ≡ x''))
  -- the lowest byte of the answer: each number exactly where its test fits and none before it does, and 0 where none does
  pub check_numbers : (s out : List ℕ) (r : ℕ) (out' : List ℕ) → TellsCheck s out r out' → Exactly (check_tests s out) (r % 256 ∷ [])
  pub word_numbers : (s : List ℕ) (number : ℕ) (v : Float) (r : ℕ) (x : Float) → TellsWord s number v r x → Exactly (word_tests s number) (r % 256 ∷ [])
  pub immediate_numbers : (one two three four : List ℕ) (v : List ℤ) (x : List Float) (r : ℕ) (v' : List ℤ) (x' : List Float)
      → TellsImmediate one two three four v x r v' x' → GivenOnly (immediate_tests one two three four) (r % 256)
  -- a call that answers 0 leaves the float of the word, exactly
  pub word_exact : (s : List ℕ) (number : ℕ) (v : Float) (r : ℕ) (x : Float) → TellsWord s number v r x → r ≡ 0 → IsExact (left s) number x
  -- "and minus zero gives plus zero"
  pub minus_zero : (s : List ℕ) (number : ℕ) (v : Float) (r : ℕ) (x : Float) → TellsWord s number v r x → r ≡ 0 → MinusZero (left s) number
      → x ≡ fin false 0 (pos 0)
