-- `digits::put_digits` meets its contract. The invariant: the places from i on are written (`Put`). Assumes nothing.
use native.Mathlib.Omega.{arith}
use Rattle.decimals.proofs.Letters.{put_more}
use Rattle.decimals.proofs.digits.put_digits.Goals as goal

pub loop-i-preserved : goal.loop-i-preserved
loop-i-preserved c = let l = c.loop-i in put_more _ c.args.n l.out l.i l.m (omega arith) l.invariant
