-- `reading::number_in` meets its contract. The invariant: x is the number of the bytes passed (`Read`). Assumes nothing.
use Prim.Native.Nat.{ℕ, ◌*◌, ◌^◌, ◌≤◌}
use native.Mathlib.Omega.{arith}
use lib.Pow.{pow_mono}
use Rattle.wire.proofs.Numbers.{read_more}
use Rattle.wire.proofs.reading.number_in.Goals as goal

-- one byte more finds room
room : (i : ℕ) → i ≤ 7 → 2 ^ (8 * i) ≤ 2 ^ 56
room i h = pow_mono {i = 8 * i} {j = 56} (omega arith)

pub overflow_mul-x : goal.overflow_mul-x
overflow_mul-x c = let l = c.loop-b in omega (arith, l.invariant.small, room l.b-index (omega (arith, c.requires)))

pub loop-b-preserved : goal.loop-b-preserved
loop-b-preserved c =
    let l = c.loop-b in
    read_more _ l.b-index l.x (omega arith) (c.type_inv.s l.b-index).fits l.invariant
