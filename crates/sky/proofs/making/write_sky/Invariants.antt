-- `sky::making::write_sky` meets its contract. Assumes nothing.
use Prim.Native.Nat.{ℕ, suc, ◌*◌}
use mathlib.Core.List.{List}
use Rattle.superframe.specs.declared.Sky.{Sky}
use Rattle.superframe.specs.Sky.{sky_string}
use Rattle.sky.specs.Front.{Front}
use Rattle.sky.specs.Line.{relative_bytes, lines_of}
use Rattle.sky.proofs.making.write_sky.Given as goal

-- the strings that are sent, from 0
abbrev sent : Sky → ℕ → List ℕ
sent sky i = relative_bytes (sky_string sky (suc i))

abbrev pub invariant-loop-i : goal.invariant-loop-i
invariant-loop-i l = Front l.initial.out (lines_of (sent l.sky) l.i) l.out (200 * l.i)
