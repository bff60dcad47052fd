-- `rounding::thirteen` meets its contract. The loop's invariant: q + r / 2 ^ p is a / 2 ^ p times 10 ^ k. Assumes nothing.
use Prim.Native.Nat.{ℕ, ◌+◌, ◌*◌, ◌/◌, ◌%◌, ◌<◌}
use native.Mathlib.Omega.{arith}
use Rattle.decimals.specs.Decimal.{Scale}
use Rattle.decimals.proofs.Scales.{Turned, one_of, one_is, one_pos, one_le, goes_on, found, is_scale, is_nearest}
use Rattle.decimals.proofs.rounding.thirteen.Goals as goal

-- what a turn gives
abbrev Next : ℕ → ℕ → ℕ → ℕ → ℕ → Type 0
Next a b q r k = (k < 31) × Turned a b (q * 10 + r * 10 / b) (r * 10 % b) (k + 1)

next : (c : goal.In-loop-q) → Next c.args.a (one_of c.args.p) c.loop-q.q c.loop-q.r c.loop-q.k
next c =
    let l = c.loop-q in
    goes_on c.args.a (one_of c.args.p) l.q l.r l.k c.requires.a_nonzero (one_pos c.args.p c.requires.p_bound) (one_le c.args.p c.requires.p_bound) c.loop-q-test.true l.invariant

-- the power of ten is the right one
right : (c : goal.After-nearest-n) → Scale c.args.a (one_of c.args.p) c.loop-q.k
right c =
    let l = c.loop-q in
    found c.args.a (one_of c.args.p) l.q l.r l.k l.invariant.same l.invariant.rest c.loop-q-test.false l.invariant.top

pub overflow_mul-t : goal.overflow_mul-t
overflow_mul-t c = omega (arith, c.loop-q.invariant.rest, one_le c.args.p c.requires.p_bound)

pub loop-q-preserved : goal.loop-q-preserved
loop-q-preserved c = (next c).1

pub returns : goal.returns
returns c =
    let l = c.loop-q in
    let b = one_of c.args.p in
    let P = one_pos c.args.p c.requires.p_bound in
    let Q = one_le c.args.p c.requires.p_bound in
    rw (← one_is c.args.p c.requires.p_bound) (
      is_nearest c.args.a b l.q l.r l.k c.nearest-n.result c.requires.a_nonzero (omega arith) P Q (right c) l.invariant.same l.invariant.rest c.nearest-n.ensures,
      is_scale c.args.a b l.q l.r l.k c.nearest-n.result c.requires.a_nonzero (omega arith) P Q (right c) l.invariant.same l.invariant.rest c.nearest-n.ensures,
    )
