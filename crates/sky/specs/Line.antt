-- The line symbols (request 12): "85 symbols in relative code, each in two halves by the meander, then the 30-symbol time mark, as figure 3.6 draws them; 200
-- symbols of 10 ms per string". Symbols are bytes, 0 or 1, in the order of sending.
-- Assumes nothing.
use Rattle.std.specs.Prelude.{ℕ, zero, suc, ◌+◌, ◌-◌, ◌/◌, ◌*◌, ◌%◌, ◌^◌, ◌<◌, List, [], ◌∷◌, ◌++◌, ◌≡◌, length, get_or}
use Rattle.strings.specs.Number.{bytes_of_string, number_of, number_from_bits}
use Rattle.relative.specs.Relative.{read_relative, write_relative}
use Rattle.superframe.specs.declared.Sky.{Sky}
use Rattle.superframe.specs.Sky.{sky_string}
use Rattle.superframe.specs.Refused.{Makes}
use Rattle.sky.specs.Mark.{mark, sequence, five_ones}

-- a string's eleven bytes in relative form
unfoldable pub relative_bytes : ℕ → List ℕ
relative_bytes n = bytes_of_string (write_relative n)

-- symbol j of a string in relative form, from 0: the highest bit of the first byte is sent first
abbrev pub symbol_of : List ℕ → ℕ → ℕ
symbol_of s j = get_or s (j / 8) 0 / 2 ^ (7 - j % 8) % 2

-- "each in two halves by the meander": the first n symbols so, 0 as 01 and 1 as 10
unfoldable pub halves : List ℕ → ℕ → List ℕ
halves s zero = []
halves s (suc n) = halves s n ++ (symbol_of s n ∷ (1 - symbol_of s n) ∷ [])

-- one string: "then the 30-symbol time mark"
unfoldable pub line_of : List ℕ → List ℕ
line_of s = halves s 85 ++ mark

-- the lines of n strings, one after the other
unfoldable pub lines_of : (ℕ → List ℕ) → ℕ → List ℕ
lines_of f zero = []
lines_of f (suc n) = lines_of f n ++ line_of (f n)

-- the line symbols of a sky
unfoldable pub sky_lines : Sky → List ℕ
sky_lines sky = lines_of (λ i. relative_bytes (sky_string sky (suc i))) 75

-- ---- a reader: string i, 1.., of line symbols in relative form, from the first half of each of its 85 symbols
unfoldable pub heard_in : List ℕ → ℕ → List ℕ
heard_in out i = bytes_of_string (number_from_bits (λ b. get_or out (200 * (i - 1) + 2 * (85 - b)) 0) 85)

-- What holds of the symbols of every sky. Proved as `line_laws` in `proofs/Laws.antt`
pub record LineLaws (sky : Sky) : Type 0 where
  -- "200 symbols .. per string"
  pub long : length (sky_lines sky) ≡ 15000
  -- "each 0 or 1"
  pub small : (k : ℕ) → get_or (sky_lines sky) k 0 < 2
  -- the first halves are the string's relative form, and the second halves their opposites
  pub first : (i j : ℕ) → i < 75 → j < 85 → get_or (sky_lines sky) (200 * i + 2 * j) 0 ≡ symbol_of (relative_bytes (sky_string sky (suc i))) j
  pub second : (i j : ℕ) → i < 75 → j < 85 → get_or (sky_lines sky) (200 * i + 2 * j + 1) 0 ≡ 1 - symbol_of (relative_bytes (sky_string sky (suc i))) j
  -- so a reader gets the 75 strings back
  pub heard : (i : ℕ) → i < 75 → heard_in (sky_lines sky) (suc i) ≡ relative_bytes (sky_string sky (suc i))
  -- and from them, by the relative code's reading, the plain strings
  pub plain : Makes sky → (i : ℕ) → i < 75 → read_relative (number_of (heard_in (sky_lines sky) (suc i))) ≡ sky_string sky (suc i)
  -- behind the halves stands the mark; and with the first half of the idle bit of the next string it is the whole sequence
  pub marked : (i j : ℕ) → i < 75 → j < 30 → get_or (sky_lines sky) (200 * i + 170 + j) 0 ≡ get_or mark j 0
  pub completed : Makes sky → (i j : ℕ) → i < 74 → j < 31 → get_or (sky_lines sky) (200 * i + 170 + j) 0 ≡ get_or (sequence 31 five_ones) j 0
