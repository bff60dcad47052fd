-- The words of the eight kinds of string (the paper, "Words"; ICD Tables 4.6 and 4.11), from the highest bit number down.
-- Assumes nothing.
use Rattle.std.specs.Prelude.{ℕ, ◌+◌, ◌-◌, ◌/◌, ◌%◌, ◌≤◌, ◌<◌, Bool, ◌&&◌, List, [], ◌∷◌, ◌≡◌, eqb, leb}
use Rattle.layout.specs.declared.table.Form.{Form}
use Rattle.layout.specs.declared.table.Form.TheVariants.{Plain, Signed, Time, Interval, Day, Slot, Carrier}
use Rattle.layout.specs.declared.table.Word.{Word}
use Rattle.records.specs.declared.kinds.Kind.{Kind}
use Rattle.records.specs.declared.kinds.Kind.TheVariants.{One, Two, Three, Four, Five, Even, Odd, Fourteen}

-- a word: its form, its top bit and its low bit. The forms are a plain number, sign and magnitude ("s"), and one for each word whose range refuses:
-- Time is tk, Interval tb, Day NA, Slot nA, Carrier H
abbrev pub word : Form → ℕ → ℕ → Word
word f t l = record { form = f; top = t; low = l }

-- how many bits it has
abbrev pub width : Word → ℕ
width w = w.top + 1 - w.low

abbrev pub plain : ℕ → ℕ → Word
plain t l = word Plain t l

abbrev pub signed : ℕ → ℕ → Word
signed t l = word Signed t l

-- what fills the eight places of a kind with fewer words: it stands below the data and has no bit
abbrev pub none : Word
none = plain 8 9

-- the kinds and their words
unfoldable pub layout : Kind → List Word
-- string 1: P1, tk, x velocity, x acceleration, x
layout One = plain 78 77 ∷ word Time 76 65 ∷ signed 64 41 ∷ signed 40 36 ∷ signed 35 9 ∷ none ∷ none ∷ none ∷ []
-- string 2: B, P2, tb, y velocity, y acceleration, y
layout Two = plain 80 78 ∷ plain 77 77 ∷ word Interval 76 70 ∷ signed 64 41 ∷ signed 40 36 ∷ signed 35 9 ∷ none ∷ none ∷ []
-- string 3: P3, gamma, P, l, z velocity, z acceleration, z
layout Three = plain 80 80 ∷ signed 79 69 ∷ plain 67 66 ∷ plain 65 65 ∷ signed 64 41 ∷ signed 40 36 ∷ signed 35 9 ∷ none ∷ []
-- string 4: tau, delta tau, E, P4, FT, NT, n, M
layout Four = signed 80 59 ∷ signed 58 54 ∷ plain 53 49 ∷ plain 34 34 ∷ plain 33 30 ∷ plain 26 16 ∷ plain 15 11 ∷ plain 10 9 ∷ []
-- string 5: NA, tau c, N4, tau GPS, l
layout Five = word Day 80 70 ∷ signed 69 38 ∷ plain 36 32 ∷ signed 31 10 ∷ plain 9 9 ∷ none ∷ none ∷ none ∷ []
-- even 6..14: C, MA, nA, tau A, lambda, delta i, epsilon
layout Even = plain 80 80 ∷ plain 79 78 ∷ word Slot 77 73 ∷ signed 72 63 ∷ signed 62 42 ∷ signed 41 24 ∷ plain 23 9 ∷ none ∷ []
-- odd 7..15: omega, t lambda, delta T, its rate, H, l
layout Odd = signed 80 65 ∷ plain 64 44 ∷ signed 43 22 ∷ signed 21 15 ∷ word Carrier 14 10 ∷ plain 9 9 ∷ none ∷ none ∷ []
-- frame 5, string 14: B1, B2, KP
layout Fourteen = signed 80 70 ∷ signed 69 60 ∷ plain 59 58 ∷ none ∷ none ∷ none ∷ none ∷ none ∷ []

-- what holds of every word of the table: it lies in bits 80..9, or is the filler below them; it has at most 32 bits, one with a sign has a bit, and
-- any other has at most 21, H at most 5. The byte of its low bit is not before that of its top bit, also where it has no bit
pub record Placed (w : Word) : Type 0 where
  pub first : 1 ≤ w.low
  pub order : w.low ≤ w.top + 1
  pub high : w.top ≤ 80
  pub narrow : w.top < w.low + 32
  pub begun : (85 - w.top) / 8 ≤ (85 - w.low) / 8
  pub sign : w.form ≡ Signed → w.low ≤ w.top
  pub signless : (w.form ≡ Signed → ⊥) → w.top < w.low + 21
  pub carrier : w.form ≡ Carrier → w.top < w.low + 5

-- the number of a kind, 1 to 8 in the order of the paper's table
abbrev pub kind_number : Kind → ℕ
kind_number One = 1
kind_number Two = 2
kind_number Three = 3
kind_number Four = 4
kind_number Five = 5
kind_number Even = 6
kind_number Odd = 7
kind_number Fourteen = 8

-- PLACE: whether m is of the kind asked
abbrev pub of_kind : Kind → ℕ → Bool
of_kind One m = eqb m 1
of_kind Two m = eqb m 2
of_kind Three m = eqb m 3
of_kind Four m = eqb m 4
of_kind Five m = eqb m 5
of_kind Even m = leb 6 m && (leb m 14 && eqb (m % 2) 0)
of_kind Odd m = leb 7 m && (leb m 15 && eqb (m % 2) 1)
of_kind Fourteen m = eqb m 14
