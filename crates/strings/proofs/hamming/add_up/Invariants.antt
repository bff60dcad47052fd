-- `hamming::add_up` meets its contract: before check bit k the sums are those of the bits below it, and so before bits 8 and 9 and before each run.
-- Assumes nothing.
use mathlib.Core.Path.{◌≡◌}
use Prim.Native.Nat.{◌-◌, ◌%◌, ◌^◌, ◌≤◌}
use Rattle.strings.specs.Number.{number_of}
use Rattle.strings.proofs.Runs.{sums_of}
use Rattle.strings.proofs.hamming.add_up.Given as goal

abbrev pub invariant-loop-k : goal.invariant-loop-k
invariant-loop-k l = ((1 ≤ l.k) × (l.k ≤ 8)) × (l.t ≡ sums_of (number_of l.s % 2 ^ (l.k - 1)))

abbrev pub decreases-loop-k : goal.decreases-loop-k
decreases-loop-k l = 8 - l.k
