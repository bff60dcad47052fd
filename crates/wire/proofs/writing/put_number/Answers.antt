-- `writing::put_number` meets its contract. The invariant: the places from i on are written (`Put`). Assumes nothing.
use native.Mathlib.Omega.{arith}
use Rattle.wire.proofs.Numbers.{put_more}
use Rattle.wire.proofs.writing.put_number.Goals as goal

pub loop-i-preserved : goal.loop-i-preserved
loop-i-preserved c = let l = c.loop-i in put_more _ c.args.x l.out l.i l.rest (omega arith) l.invariant
