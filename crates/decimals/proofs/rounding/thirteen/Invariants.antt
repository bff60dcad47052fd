-- `rounding::thirteen` meets its contract. The loop's invariant: q + r / 2 ^ p is a / 2 ^ p times 10 ^ k. Assumes nothing.
use Prim.Native.Nat.{◌-◌}
use Rattle.decimals.proofs.Scales.{Turned}
use Rattle.decimals.proofs.rounding.thirteen.Given as goal

abbrev pub invariant-loop-q : goal.invariant-loop-q
invariant-loop-q l = Turned l.a l.one l.q l.r l.k

abbrev pub decreases-loop-q : goal.decreases-loop-q
decreases-loop-q l = 31 - l.k
