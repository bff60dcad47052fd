-- A string that is read and written again (the paper, "Words"): "Minus zero reads as 0; the encoder never writes it. Reserved bits are skipped by
-- the reader and written 0."
-- Assumes nothing.
use Rattle.std.specs.Prelude.{ℕ, ◌+◌, ◌-◌, ◌*◌, ◌^◌, ◌≤◌, ◌<◌, Bool, true, false, ◌&&◌, List, [], ◌∷◌, ◌≡◌, T, eqb, get_or}
use Rattle.strings.specs.Pick.{pick}
use Rattle.strings.specs.Number.{word_of, bit_of}
use Rattle.strings.specs.Hamming.{Encoded, encode}
use Rattle.strings.specs.Pick.{is_one_of}
use Rattle.layout.specs.declared.table.Form.{Form}
use Rattle.layout.specs.declared.table.Form.TheVariants.{Plain, Signed, Time, Interval, Day, Slot, Carrier}
use Rattle.layout.specs.declared.table.Word.{Word}
use Rattle.records.specs.declared.kinds.Kind.{Kind}
use Rattle.layout.specs.Layout.{layout, none}
use Rattle.layout.specs.Reserved.{reserved, in_words}
use Rattle.words.specs.Calls.{number_in}

-- the j-th word of a kind
abbrev pub word_at : Kind → ℕ → Word
word_at k j = get_or (layout k) j none

-- its bits in a string
abbrev pub bits_in : ℕ → Word → ℕ
bits_in n w = word_of n w.top w.low

abbrev pub is_signed : Form → Bool
is_signed Plain = false
is_signed Signed = true
is_signed Time = false
is_signed Interval = false
is_signed Day = false
is_signed Slot = false
is_signed Carrier = false

-- the bits of a word are minus zero: the sign alone is 1
abbrev pub is_minus_zero : Word → ℕ → Bool
is_minus_zero w raw = is_signed w.form && eqb raw (2 ^ (w.top - w.low))

-- the bits of a word as they were, but 0 for minus zero
abbrev pub tidy_word : Word → ℕ → ℕ
tidy_word w raw = pick (is_minus_zero w raw) 0 raw

-- the words of a string, each so in its place, and 0 elsewhere
unfoldable pub tidy_words : ℕ → List Word → ℕ
tidy_words n [] = 0
tidy_words n (w ∷ ws) = tidy_word w (bits_in n w) * 2 ^ (w.low - 1) + tidy_words n ws

-- the string n, but that reserved bits and minus zeros become plain zeros and the check bits follow
unfoldable pub tidied : Kind → ℕ → ℕ
tidied k n = encode (number_in n * 2 ^ 80 + tidy_words n (layout k))

-- what that says, bit for bit: t is n tidied. Together these leave no bit of t open
pub record Tidy (k : Kind) (n t : ℕ) : Type 0 where
  pub small : t < 2 ^ 85
  pub encoded : Encoded t
  pub idle : bit_of t 85 ≡ 0
  pub number : number_in t ≡ number_in n
  -- each word has n's bits, or 0 where n has minus zero there
  pub words : (j : ℕ) → j < 8 → bits_in t (word_at k j) ≡ tidy_word (word_at k j) (bits_in n (word_at k j))
  -- and a bit 9..80 in no word is 0
  pub reserved : (i : ℕ) → 9 ≤ i → i ≤ 80 → in_words (layout k) i ≡ false → bit_of t i ≡ 0

-- and what the encoder writes of any record: no minus zero, and no reserved bit at 1
pub record NoStray (k : Kind) (n : ℕ) : Type 0 where
  -- no signed word has its sign at 1 and every bit below it at 0
  pub no_minus_zero : (j : ℕ) → j < 8 → (word_at k j).form ≡ Signed → bit_of n (word_at k j).top ≡ 1 → word_of n ((word_at k j).top - 1) (word_at k j).low ≡ 0 → ⊥
  -- a bit 9..80 in no word is 0
  pub unused : (i : ℕ) → 9 ≤ i → i ≤ 80 → in_words (layout k) i ≡ false → bit_of n i ≡ 0
  -- and so is each bit that Table 4.12 prints
  pub printed : (i : ℕ) → T (is_one_of (reserved k) i) → bit_of n i ≡ 0
