-- Numbers as text: in decimal, one after the other in a row, in ASCII.
-- Assumes nothing.
use Rattle.std.specs.Prelude.{ℕ, zero, suc, ◌+◌, ◌/◌, ◌%◌, ◌^◌, ◌≤◌, ◌<◌, List, [], ◌∷◌, ◌++◌, ◌≡◌, ltb, length}
use Rattle.std.proofs.lemmas.List.Edits.{sets}
use Rattle.strings.specs.Pick.{pick}

-- ---- a number in decimal
-- the digits of its tenth, where it is not below ten, and then its last digit; at most k digits
abbrev pub last_digits_of : ℕ → ℕ → List ℕ
last_digits_of zero n = []
last_digits_of (suc k) n = pick (ltb n 10) [] (last_digits_of k (n / 10)) ++ ((48 + n % 10) ∷ [])

-- no number here has more than twenty
unfoldable pub decimal : ℕ → List ℕ
decimal n = last_digits_of 20 n

-- ---- numbers in a row
abbrev pub space : ℕ
space = 32

abbrev pub line_feed : ℕ
line_feed = 10

-- a number and the byte after it
abbrev pub cell : ℕ → ℕ → List ℕ
cell n after = decimal n ++ (after ∷ [])

-- a space after each, a line feed after the last
abbrev pub row : List ℕ → List ℕ
row [] = []
row (n ∷ []) = cell n line_feed
row (n ∷ k ∷ ns) = cell n space ++ row (k ∷ ns)

-- numbers of which each has so many digits at most
abbrev pub Within : List ℕ → List ℕ → Type 0
Within [] [] = Unit
Within [] (n ∷ ns) = ⊥
Within (k ∷ ks) [] = ⊥
Within (k ∷ ks) (n ∷ ns) = (1 ≤ k) × (n < 10 ^ k) × Within ks ns

-- and how many bytes their row has at most: one after each number
abbrev pub row_bytes : List ℕ → ℕ
row_bytes [] = 0
row_bytes (k ∷ ks) = k + 1 + row_bytes ks

-- ---- a piece written into a text at a place, and the place past it
pub record Puts (text : List ℕ) (at : ℕ) (piece text' : List ℕ) (end : ℕ) : Type 0 where
  pub past : end ≡ at + length piece
  pub written : text' ≡ sets text at piece
