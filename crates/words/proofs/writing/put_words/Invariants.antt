-- `writing::put_words` meets its contract: before place j, the words of the places from j on are still to be added. Assumes nothing.
use mathlib.Core.Path.{◌≡◌}
use Prim.Native.Nat.{◌+◌, ◌*◌, ◌≤◌}
use lib.ListN.{length, drop}
use Rattle.strings.specs.Number.{value_of, bytes_of}
use Rattle.strings.proofs.Value.{Bytes}
use Rattle.layout.specs.Layout.{layout}
use Rattle.words.specs.Values.{data_of}
use Rattle.words.proofs.writing.put_words.Given as goal

abbrev pub invariant-loop-j : goal.invariant-loop-j
invariant-loop-j l = ((l.j ≤ 8) × ((length l.out ≡ 11) × Bytes l.out))
    × (bytes_of 11 (value_of l.out + data_of (drop l.j (layout l.k)) (drop l.j l.fn.v) * 8) ≡ bytes_of 11 (value_of l.initial.out + data_of (layout l.k) l.fn.v * 8))
