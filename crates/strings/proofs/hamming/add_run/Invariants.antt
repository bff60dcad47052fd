-- `hamming::add_run` meets its contract: before bit i the sums are those of the bits below it, and `bits` is the rest of the run. Assumes nothing.
use mathlib.Core.Path.{◌≡◌}
use Prim.Native.Nat.{◌+◌, ◌-◌, ◌/◌, ◌%◌, ◌^◌, ◌≤◌}
use Rattle.strings.specs.Number.{number_of, word_of}
use Rattle.strings.proofs.Runs.{sums_of}
use Rattle.strings.proofs.hamming.add_run.Given as goal

abbrev pub invariant-loop-i : goal.invariant-loop-i
invariant-loop-i l = ((l.low ≤ l.i) × (l.i ≤ l.top + 1)) × ((l.t ≡ sums_of (number_of l.s % 2 ^ (l.i - 1))) × (l.bits ≡ word_of (number_of l.s) l.top l.low / 2 ^ (l.i - l.low)))

abbrev pub decreases-loop-i : goal.decreases-loop-i
decreases-loop-i l = l.top + 1 - l.i
