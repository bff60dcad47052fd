-- `hamming::make_check_bits` meets its contract: before check bit k those below it are made, and `all` is the sum of all bits. Assumes nothing.
use mathlib.Core.Path.{◌≡◌}
use Prim.Native.Nat.{◌-◌, ◌≤◌}
use Rattle.strings.specs.Number.{number_of, bytes_of_string}
use Rattle.strings.specs.Hamming.{sum_all}
use Rattle.strings.proofs.Encode.{made_to}
use Rattle.strings.proofs.hamming.make_check_bits.Given as goal

abbrev pub invariant-loop-k : goal.invariant-loop-k
invariant-loop-k l = ((1 ≤ l.k) × (l.k ≤ 8)) × ((l.s ≡ bytes_of_string (made_to (number_of l.initial.s) l.k)) × (l.all ≡ sum_all (made_to (number_of l.initial.s) l.k)))

abbrev pub decreases-loop-k : goal.decreases-loop-k
decreases-loop-k l = 8 - l.k
