-- `writing::put_entries` meets its contract. The invariant: the bytes of the entries passed are written (`Begun`). Assumes nothing.
use Prim.Native.Nat.{◌*◌}
use lib.ListN.{take}
use Rattle.wire.specs.Bytes.{entries_bytes}
use Rattle.wire.proofs.Begun.{Begun}
use Rattle.wire.proofs.writing.put_entries.Given as goal

abbrev pub invariant-loop-i : goal.invariant-loop-i
invariant-loop-i l = Begun 480 (l.i * 20) l.out (entries_bytes (take l.i l.fn.entries))
