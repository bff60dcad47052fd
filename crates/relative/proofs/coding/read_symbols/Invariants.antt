-- `coding::read_symbols` meets its contract. The loop's invariant: `before` is the byte sent before the byte at k, the first symbol standing before
-- the first byte, and the bytes of `out` below k are made.
-- Assumes nothing.
use mathlib.Core.Path.{◌≡◌}
use Prim.Native.Nat.{ℕ, ◌≤◌, ◌<◌}
use lib.ListN.{length, get_or}
use Rattle.relative.proofs.Symbols.{led, made}
use Rattle.relative.proofs.coding.read_symbols.Given as goal

abbrev pub invariant-loop-k : goal.invariant-loop-k
invariant-loop-k l = ((l.k ≤ 11) × ((length l.s ≡ 11) × (length l.out ≡ 11))) × ((l.before ≡ get_or (led l.s) l.k 0) × ((j : ℕ) → j < l.k → get_or l.out j 0 ≡ get_or (made l.s) j 0))
