-- The client's second demand, of words: read and written "as GLONASS ICD 5.0 says, sign bits and layouts included", and both round trips, over the
-- answers and bytes of the public calls. Each is proved in the crate of its call and gathered here.
-- Assumes nothing.
use Rattle.std.specs.Prelude.{ℕ, ◌<◌, Bool, true, false, ◌&&◌, ◌||◌, List, ◌↔◌, ◌≡◌, leb, ltb, ℤ, pos, length, get_or, Result, Ok, Err, ⊤}
use Rattle.strings.specs.declared.Refusal.{Refusal}
use Rattle.strings.specs.declared.Verdict.{Verdict}
use Rattle.strings.specs.declared.Refusal.TheVariants.{Range}
use Rattle.strings.specs.declared.Verdict.TheVariants.{Clean}
use Rattle.strings.specs.Number.{number_of, word_of, bytes_of_string}
use Rattle.strings.specs.Hamming.{mended}
use Rattle.strings.specs.Calls.{Checks}
use Rattle.records.specs.declared.kinds.Kind.{Kind}
use Rattle.records.specs.declared.kinds.Kind.TheVariants.{One, Two, Three, Four, Five, Even, Odd, Fourteen}
use Rattle.records.specs.declared.named.Record.{Record}
use Rattle.records.specs.Records.{kind_of, list_of}
use Rattle.layout.specs.Layout.{layout}
use Rattle.words.specs.Values.{values_of, in_range}
use Rattle.words.specs.Calls.{Reads, Writes}
use Rattle.words.specs.Tidied.{word_at, Tidy}
use Rattle.words.specs.Names.{Named}

-- ---- m and each word, by its name, stand in the bits that the paper's table gives them
pub record ByName : Type 0 where
  pub read : (s : List ℕ) (k : Kind) (m : ℕ) (w : Record) → Reads s k (Ok (m, w))
      → (kind_of w ≡ k) × ((m ≡ word_of (mended (number_of s)) 84 81) × Named (mended (number_of s)) w)
  pub written : (m : ℕ) (w : Record) (out out' : List ℕ) → Writes m w out (Ok tt) out' → (word_of (number_of out') 84 81 ≡ m) × Named (number_of out') w

-- ---- the string that is written again, of one that the check left as n: "the same string, its repair made, but that reserved bits and minus zeros
-- become plain zeros and the check bits follow". `Tidy` says so bit for bit
pub record WrittenAgain (k : Kind) (n : ℕ) (bytes : List ℕ) : Type 0 where
  pub string : ℕ
  pub tidy : Tidy k n string
  pub written : bytes ≡ bytes_of_string string
  pub only : (other : ℕ) → Tidy k n other → other ≡ string

pub record RoundTrips : Type 0 where
  -- "A record written and read back is the same record"
  pub written_read : (m : ℕ) (w : Record) (out out' : List ℕ) → Writes m w out (Ok tt) out' → (r : Result (ℕ × Record) Refusal) → Reads out' (kind_of w) r → r ≡ Ok (m, w)
  -- and the check takes what was written as clean
  pub written_clean : (m : ℕ) (w : Record) (out out' : List ℕ) → Writes m w out (Ok tt) out' → (room left : List ℕ) (c : Result Verdict Refusal) → length room ≡ 11
      → Checks out' room c left → (c ≡ Ok Clean) × (left ≡ out')
  -- "a good string read and written again is the same string .."
  pub read_written : (s : List ℕ) (k : Kind) (m : ℕ) (w : Record) (out : List ℕ) (r : Result ⊤ Refusal) (out' : List ℕ) → Reads s k (Ok (m, w)) → Writes m w out r out'
      → length out ≡ 11 → (r ≡ Ok tt) × WrittenAgain k (mended (number_of s)) out'

-- ---- "RANGE names the first word that fails, from the highest bit number down, by that word's top bit number"
pub record FirstFails (k : Kind) (values : List ℤ) (place : ℕ) : Type 0 where
  pub index : ℕ
  pub there : index < 8
  pub names : place ≡ (word_at k index).top
  pub fails : in_range (word_at k index) (get_or values index (pos 0)) ≡ false
  pub before : (i : ℕ) → i < index → in_range (word_at k i) (get_or values i (pos 0)) ≡ true

-- "Only these ranges refuse: hour 0..23; minute 0..59; tb raw 1..95 ..; NA 1..1461; nA 1..24; H 0..13, or 25..31": in the bits of a string
abbrev pub legal : Kind → ℕ → Bool
legal One n = ltb (word_of n 76 72) 24 && ltb (word_of n 71 66) 60
legal Two n = leb 1 (word_of n 76 70) && leb (word_of n 76 70) 95
legal Three n = true
legal Four n = true
legal Five n = leb 1 (word_of n 80 70) && leb (word_of n 80 70) 1461
legal Even n = leb 1 (word_of n 77 73) && leb (word_of n 77 73) 24
legal Odd n = leb (word_of n 14 10) 13 || leb 25 (word_of n 14 10)
legal Fourteen n = true

pub record Ranges : Type 0 where
  pub reader : (s : List ℕ) (k : Kind) (p : ℕ) → Reads s k (Err (Range p)) → FirstFails k (values_of (mended (number_of s)) (layout k)) p
  pub encoder : (m : ℕ) (w : Record) (out out' : List ℕ) (p : ℕ) → Writes m w out (Err (Range p)) out' → FirstFails (kind_of w) (list_of w) p
  pub only_these : (n : ℕ) (k : Kind) → ((j : ℕ) → j < 8 → in_range (word_at k j) (get_or (values_of n (layout k)) j (pos 0)) ≡ true) ↔ (legal k n ≡ true)
