-- `values::first_bad` meets its contract: before place j, the answer is that of the places from j on. Assumes nothing.
use mathlib.Core.Path.{◌≡◌}
use Prim.Native.Nat.{◌≤◌}
use lib.ListN.{drop}
use Rattle.layout.specs.Layout.{layout}
use Rattle.words.specs.Values.{first_bad}
use Rattle.words.proofs.values.first_bad.Given as goal

abbrev pub invariant-loop-j : goal.invariant-loop-j
invariant-loop-j l = (l.j ≤ 8) × (first_bad (drop l.j (layout l.k)) (drop l.j l.fn.v) ≡ first_bad (layout l.k) l.fn.v)
