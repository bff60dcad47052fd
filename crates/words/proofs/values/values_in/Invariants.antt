-- `values::values_in` meets its contract: before place j, the values of the places below it are read. Assumes nothing.
use mathlib.Core.Path.{◌≡◌}
use Prim.Native.Nat.{◌≤◌}
use lib.ListN.{length, take}
use Rattle.strings.specs.Number.{number_of}
use Rattle.layout.specs.Layout.{layout}
use Rattle.words.specs.Values.{values_of}
use Rattle.words.proofs.values.values_in.Given as goal

abbrev pub invariant-loop-j : goal.invariant-loop-j
invariant-loop-j l = ((l.j ≤ 8) × (length l.value-items ≡ 8)) × (take l.j l.value-items ≡ take l.j (values_of (number_of l.s) (layout l.k)))
