-- The string (the paper, "The string"; ICD 4.3.3). Its eleven bytes, the first the highest, are a number of 88 bits: the three lowest are
-- padding, the other 85 are the string N below 2 ^ 85. Bits are numbered 85 down to 1, the highest number at the highest weight.
-- Assumes nothing.
use Rattle.std.specs.Prelude.{ℕ, zero, suc, ◌+◌, ◌-◌, ◌*◌, ◌/◌, ◌%◌, ◌^◌, ◌<◌, Bool, not, ◌||◌, List, [], ◌∷◌, eqb, length, get_or}
use Rattle.std.specs.Int.Bits.{bit_xor}

-- every element is a byte
abbrev pub Bytes : List ℕ → Type 0
Bytes s = (k : ℕ) → get_or s k 0 < 256

-- bytes as one number, the first byte highest
abbrev pub value_of : List ℕ → ℕ
value_of [] = 0
value_of (b ∷ bs) = b * 2 ^ (8 * length bs) + value_of bs

-- the 85 bits of a string of eleven bytes
unfoldable pub number_of : List ℕ → ℕ
number_of s = value_of s / 8

-- its padding: the last three bits of the eleventh byte
unfoldable pub padding_of : List ℕ → ℕ
padding_of s = value_of s % 8

-- SHAPE: not 11 bytes, or padding not 0
unfoldable pub misshapen : List ℕ → Bool
misshapen s = not (eqb (length s) 11) || not (eqb (padding_of s) 0)

-- bit i, counted from 1
abbrev pub bit_of : ℕ → ℕ → ℕ
bit_of n i = n / 2 ^ (i - 1) % 2

-- the word in bits top down to low
unfoldable pub word_of : ℕ → ℕ → ℕ → ℕ
word_of n top low = n / 2 ^ (low - 1) % 2 ^ (top + 1 - low)

-- the number whose bits m down to 1 are f m, .., f 1
abbrev pub number_from_bits : (ℕ → ℕ) → ℕ → ℕ
number_from_bits f zero = 0
number_from_bits f (suc m) = f (suc m) * 2 ^ m + number_from_bits f m

-- the string with bit i inverted
unfoldable pub flip : ℕ → ℕ → ℕ
flip n i = bit_xor n (2 ^ (i - 1))

-- the lowest k bytes of a number, the highest of them first
abbrev pub bytes_of : ℕ → ℕ → List ℕ
bytes_of zero x = []
bytes_of (suc k) x = x / 2 ^ (8 * k) % 256 ∷ bytes_of k x

-- a string is eleven bytes: its 85 bits, then three zero bits
unfoldable pub bytes_of_string : ℕ → List ℕ
bytes_of_string n = bytes_of 11 (n * 8)
