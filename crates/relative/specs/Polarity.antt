-- Which way up a string's symbols came: "The tracking loop can lock half a turn off, and only the first sent symbol shows it".
-- Assumes nothing.
use Rattle.std.specs.Prelude.{ℕ, eqb}
use Rattle.strings.specs.Pick.{pick}
use Rattle.strings.specs.Number.{bit_of}
use Rattle.relative.specs.declared.Polarity.{Polarity}
use Rattle.relative.specs.declared.Polarity.TheVariants.{Upright, Inverted}

-- the first sent symbol: the one in the place of bit 85
unfoldable pub first_symbol : ℕ → ℕ
first_symbol x = bit_of x 85

-- "upright if the first symbol is 0, inverted if 1"
abbrev pub polarity_of : ℕ → Polarity
polarity_of x = pick (eqb (first_symbol x) 0) Upright Inverted

-- in numbers: 0 upright, 1 inverted
abbrev pub polarity_number : Polarity → ℕ
polarity_number Upright = 0
polarity_number Inverted = 1

-- the other one
abbrev pub turned : Polarity → Polarity
turned Upright = Inverted
turned Inverted = Upright
