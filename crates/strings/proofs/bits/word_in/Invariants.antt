-- `bits::word_in` meets its contract: before each byte between, `bits` is the word's bits above it (`WordBits`). Assumes nothing.
use mathlib.Core.Path.{◌≡◌}
use Prim.Native.Nat.{◌+◌, ◌%◌}
use Rattle.strings.specs.Number.{value_of}
use Rattle.strings.proofs.WordBits.{bits_in}
use Rattle.strings.proofs.bits.word_in.Given as goal

abbrev pub invariant-loop-byte : goal.invariant-loop-byte
invariant-loop-byte l = l.bits ≡ bits_in (value_of l.s) l.first ((l.top + 2) % 8) (l.first + 1 + l.byte-index)
