-- `coding::send_symbols` meets its contract. The loop's invariant: what stands from bit i up is sent, what stands below is as it came, and the padding
-- is 0.
-- Assumes nothing.
use mathlib.Core.Path.{◌≡◌}
use Prim.Native.Nat.{◌-◌}
use lib.ListN.{length}
use Rattle.strings.specs.Number.{number_of, padding_of}
use Rattle.strings.proofs.Value.{Bytes}
use Rattle.relative.proofs.Symbols.{part_sent}
use Rattle.relative.proofs.coding.send_symbols.Given as goal

abbrev pub invariant-loop-i : goal.invariant-loop-i
invariant-loop-i l = (length l.s ≡ 11) × ((number_of l.s ≡ part_sent (number_of l.initial.s) (l.i - 1)) × ((padding_of l.s ≡ 0) × Bytes l.s))
