-- `sky::line::write_halves` meets its contract. Assumes nothing.
use Prim.Native.Nat.{◌+◌, ◌*◌}
use mathlib.Core.List.{◌++◌}
use lib.ListN.{take}
use Rattle.sky.specs.Line.{halves}
use Rattle.sky.specs.Front.{Front}
use Rattle.sky.proofs.line.write_halves.Given as goal

abbrev pub invariant-loop-j : goal.invariant-loop-j
invariant-loop-j l = Front l.initial.out (take l.at l.initial.out ++ halves l.s l.j) l.out (l.at + 2 * l.j)
