-- The client's second demand, of strings: "Strings are checked, repaired, .. as GLONASS ICD 5.0 says", over the answers and bytes of the public calls.
-- Each is proved in the crate of its call and gathered here.
-- Assumes nothing.
use Rattle.std.specs.Prelude.{ℕ, ◌/◌, ◌^◌, ◌≤◌, ◌<◌, List, [], ◌∷◌, ◌≡◌, length, get_or, Result, Ok, Err, ⊤}
use Rattle.relative.specs.declared.Polarity.{Polarity}
use Rattle.strings.specs.declared.Refusal.{Refusal}
use Rattle.strings.specs.declared.Refusal.TheVariants.{Idle}
use Rattle.strings.specs.declared.Verdict.{Verdict}
use Rattle.strings.specs.declared.Verdict.TheVariants.{Clean, Repaired}
use Rattle.strings.specs.Number.{bit_of, flip, bytes_of_string}
use Rattle.strings.specs.Hamming.{Encoded, encode}
use Rattle.strings.specs.Calls.{checked_paper, Checks}
use Rattle.relative.specs.declared.Polarity.TheVariants.{Upright}
use Rattle.relative.specs.Relative.{inverse}
use Rattle.relative.specs.Calls.{ReadsRelative, WritesRelative, Meant, other_way}

-- ---- the check of a string n of which every sum is 0, "encoded", and of what comes of it on the way
pub record Checking (n : ℕ) (out : List ℕ) : Type 0 where
  -- as it was sent, it is clean and is written as it came
  pub clean : bit_of n 85 ≡ 0 → (r : Result Verdict Refusal) (out' : List ℕ) → Checks (bytes_of_string n) out r out' → (r ≡ Ok Clean) × (out' ≡ bytes_of_string n)
  -- "one flip is repaired unless it is bit 8": its number is told and the string is written as it was sent
  pub one_flip : (i : ℕ) → 1 ≤ i → i ≤ 85 → (i ≡ 8 → ⊥) → bit_of n 85 ≡ 0 → (r : Result Verdict Refusal) (out' : List ℕ) → Checks (bytes_of_string (flip n i)) out r out'
      → (r ≡ Ok (Repaired i)) × (out' ≡ bytes_of_string n)
  -- "a flip of bit 8 alone is refused": in the paper's number, "31 (S = 0, C = 1)", and nothing is written
  pub bit_8 : (r : Result Verdict Refusal) (out' : List ℕ) → Checks (bytes_of_string (flip n 8)) out r out' → (checked_paper r ≡ 31 ∷ []) × (out' ≡ out)
  -- "every two flips are DAMAGED": "32 (S not 0, C = 0)"
  pub two_flips : (i j : ℕ) → 1 ≤ i → i ≤ 85 → 1 ≤ j → j ≤ 85 → (i ≡ j → ⊥) → (r : Result Verdict Refusal) (out' : List ℕ)
      → Checks (bytes_of_string (flip (flip n i) j)) out r out' → (checked_paper r ≡ 32 ∷ []) × (out' ≡ out)
  -- "After a repair bit 85 must be 0, else IDLE"
  pub idle : bit_of n 85 ≡ 1 → (r : Result Verdict Refusal) (out' : List ℕ) → Checks (bytes_of_string n) out r out' → (r ≡ Err Idle) × (out' ≡ out)
  pub one_flip_idle : (i : ℕ) → 1 ≤ i → i ≤ 85 → (i ≡ 8 → ⊥) → bit_of n 85 ≡ 1 → (r : Result Verdict Refusal) (out' : List ℕ) → Checks (bytes_of_string (flip n i)) out r out'
      → (r ≡ Err Idle) × (out' ≡ out)

-- what the check writes, of any bytes, is clean when it is checked again, and stays
abbrev pub CheckedAgain : Type 0
CheckedAgain =
    (s out : List ℕ) (v : Verdict) (out' : List ℕ) → ((k : ℕ) → get_or s k 0 < 256) → Checks s out (Ok v) out'
    → (room : List ℕ) (r : Result Verdict Refusal) (left : List ℕ) → length room ≡ 11 → Checks out' room r left → (r ≡ Ok Clean) × (left ≡ out')

-- ---- for every choice of bits 85..9 there is one encoded string and no second
pub record Encoding (n : ℕ) : Type 0 where
  pub encoded : Encoded (encode n)
  pub small : encode n < 2 ^ 85
  pub data_stand : encode n / 2 ^ 8 ≡ n / 2 ^ 8
  pub only : (k : ℕ) → k < 2 ^ 85 → Encoded k → k / 2 ^ 8 ≡ n / 2 ^ 8 → k ≡ encode n

-- ---- the relative code
pub record Relative : Type 0 where
  -- a string with bit 85 at 0, written and then read, is the same string, and came upright
  pub written_read : (n : ℕ) → n < 2 ^ 84 → (out back : List ℕ) → length out ≡ 11 → length back ≡ 11
      → (r : Result ⊤ Refusal) (q : Result Polarity Refusal) (out' back' : List ℕ) → WritesRelative (bytes_of_string n) out r out' → ReadsRelative out' back q back'
      → (r ≡ Ok tt) × ((q ≡ Ok Upright) × (back' ≡ bytes_of_string n))
  -- what the polarity means: symbols, read and then written, are the same symbols exactly where they came upright, and the same inverted exactly where
  -- they came inverted
  pub read_written : (x : ℕ) → x < 2 ^ 85 → (out back : List ℕ) → length out ≡ 11 → length back ≡ 11
      → (r : Result Polarity Refusal) (q : Result ⊤ Refusal) (out' back' : List ℕ) → ReadsRelative (bytes_of_string x) out r out' → WritesRelative out' back q back'
      → Meant x r q back'
  -- "a string and the same with all 85 symbols inverted read alike", but that they answer the one polarity and the other
  pub inverse_alike : (x : ℕ) → x < 2 ^ 85 → (out : List ℕ) (r q : Result Polarity Refusal) (out' out'' : List ℕ)
      → ReadsRelative (bytes_of_string x) out r out' → ReadsRelative (bytes_of_string (inverse x)) out q out'' → (q ≡ other_way r) × (out'' ≡ out')
