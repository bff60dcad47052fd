-- The relative code (the paper, "Relative code"; ICD 3.3.2.2), symbol by symbol. The symbols of a string are the bits of a number too:
-- symbol i is sent in the place of bit i.
-- Assumes nothing.
use Rattle.std.specs.Prelude.{ℕ, zero, suc, ◌+◌, ◌-◌, ◌%◌, ◌^◌, eqb}
use Rattle.std.specs.Int.Bits.{bit_xor}
use Rattle.strings.specs.Pick.{pick}
use Rattle.strings.specs.Number.{bit_of, number_from_bits}

-- "Each sent symbol is the data bit added modulo 2 to the symbol before; before bit 85 stands 0": the k-th symbol sent, bit 85 being the
-- first data bit and bit 86 - k the k-th
abbrev pub sent : ℕ → ℕ → ℕ
sent n zero = 0
sent n (suc k) = (bit_of n (85 - k) + sent n k) % 2

-- so the symbol in the place of bit i is the (86 - i)-th
unfoldable pub write_relative : ℕ → ℕ
write_relative n = number_from_bits (λ i. sent n (86 - i)) 85

-- "Reading: each bit from 84 down is its symbol plus the symbol before it, modulo 2; bit 85 is read as 0"
abbrev pub read_bit : ℕ → ℕ → ℕ
read_bit x i = pick (eqb i 85) 0 ((bit_of x i + bit_of x (i + 1)) % 2)

unfoldable pub read_relative : ℕ → ℕ
read_relative x = number_from_bits (read_bit x) 85

-- the same with all 85 symbols inverted
unfoldable pub inverse : ℕ → ℕ
inverse x = bit_xor x (2 ^ 85 - 1)
