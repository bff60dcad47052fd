-- The numbers of an answer in one number, as a host in C gets them. Assumes nothing.
use Rattle.std.specs.Prelude.{ℕ, ◌+◌, ◌*◌, ◌/◌, ◌%◌, ◌^◌, ◌<◌, List, [], ◌∷◌, ◌≡◌, get_or}

-- numbers below 256, each in a byte, the first in the lowest
abbrev pub packed : List ℕ → ℕ
packed [] = 0
packed (x ∷ xs) = x + 256 * packed xs

-- each of them fits in a byte
abbrev pub AreBytes : List ℕ → Type 0
AreBytes xs = (k : ℕ) → get_or xs k 0 < 256

-- so the host reads each back from its own eight bits, and past the last it reads 0: proved as `read_back_lem`
abbrev pub ReadBack : Type 0
ReadBack = (xs : List ℕ) → AreBytes xs → (k : ℕ) → packed xs / 2 ^ (8 * k) % 256 ≡ get_or xs k 0
