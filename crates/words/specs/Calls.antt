-- The reader and the encoder: one relation each between what they were handed, the answer and what was left.
-- Assumes nothing.
use Rattle.std.specs.Prelude.{ℕ, ◌+◌, ◌*◌, ◌^◌, not, List, [], ◌∷◌, ◌++◌, ◌≡◌, eqb, ℤ, Result, Ok, Err, ⊤}
use Rattle.strings.specs.declared.Refusal.{Refusal}
use Rattle.strings.specs.Pick.{pick}
use Rattle.strings.specs.Number.{number_of, word_of, bytes_of_string}
use Rattle.strings.specs.Hamming.{mended, encode}
use Rattle.strings.specs.Numbers.{refusal_paper, Test, test, test_at, first_of, answer_of, Answers}
use Rattle.strings.specs.Calls.{string_tests, no_room, written_paper}
use Rattle.records.specs.declared.kinds.Kind.{Kind}
use Rattle.records.specs.declared.named.Record.{Record}
use Rattle.layout.specs.Layout.{layout, kind_number, of_kind}
use Rattle.words.specs.Values.{values_of, first_bad, data_of}
use Rattle.records.specs.Records.{kind_of, list_of}

-- "Bits 84 to 81 are the string number m"
abbrev pub number_in : ℕ → ℕ
number_in n = word_of n 84 81

-- RANGE, as a test: the place is the top bit number of the first word that fails
abbrev pub range_test : List ℤ → Kind → Test
range_test zs k = test_at 10 (first_bad (layout k) zs) (not (eqb (first_bad (layout k) zs) 0))

-- ---- "Reader (plain form): 2, 3, 4, 5, 11, 10", with 31, 32, 33 for 3
-- 5, 11, 10 of the string n, of which kind k is asked
abbrev pub word_tests : ℕ → Kind → List Test
word_tests n k = test 5 (eqb (number_in n) 0) ∷ test 11 (not (of_kind k (number_in n))) ∷ range_test (values_of n (layout k)) k ∷ []

-- it reads the string as the check leaves it
abbrev pub read_tests : List ℕ → Kind → List Test
read_tests s k = string_tests s ++ word_tests (mended (number_of s)) k

-- an answer in the paper's numbers: 0, m and the kind; and the words that it tells
abbrev pub reading_paper : Result (ℕ × Record) Refusal → List ℕ
reading_paper (Ok (m, r)) = 0 ∷ m ∷ kind_number (kind_of r) ∷ []
reading_paper (Err q) = refusal_paper q

unfoldable pub reading_words : Result (ℕ × Record) Refusal → List ℤ
reading_words (Ok (m, r)) = list_of r
reading_words (Err q) = []

-- what is answered of the string n after these tests: m and the kind, and the words
pub record ReadsBy (tests : List Test) (n : ℕ) (k : Kind) (r : Result (ℕ × Record) Refusal) : Type 0 where
  pub answer : reading_paper r ≡ answer_of tests (number_in n ∷ kind_number k ∷ [])
  pub words : reading_words r ≡ pick (eqb (first_of tests) 0) (values_of n (layout k)) []

unfoldable pub Reads : List ℕ → Kind → Result (ℕ × Record) Refusal → Type 0
Reads s k r = ReadsBy (read_tests s k) (mended (number_of s)) k r

-- ---- "Encoder (plain form, checked): 12, 11, 10"
abbrev pub write_tests : ℕ → Record → List ℕ → List Test
write_tests m r out = test 12 (no_room out) ∷ test 11 (not (of_kind (kind_of r) m)) ∷ range_test (list_of r) (kind_of r) ∷ []

-- the string of m and a record: m, the words, every other data bit 0, and the check bits made
unfoldable pub string_of : ℕ → Record → ℕ
string_of m r = encode (m * 2 ^ 80 + data_of (layout (kind_of r)) (list_of r))

unfoldable pub Writes : ℕ → Record → List ℕ → Result ⊤ Refusal → List ℕ → Type 0
Writes m r out w out' = Answers (write_tests m r out) [] (bytes_of_string (string_of m r)) out (written_paper w) out'
