-- `put_numbers` meets its contract: one number after the other, and the last (`Row`). Assumes nothing.
use Prim.Native.Nat.{ℕ, ◌-◌, ◌<◌}
use mathlib.Core.List.{List}
use mathlib.Core.Path.{◌≡◌}
use native.Mathlib.Omega.{arith}
use lib.ListN.{length, get_or, take, length-take}
use lib.Seq.{get_or-take}
use Rattle.digits.proofs.Row.{one_more_lem, all_printed, room_next, room_last}
use Rattle.digits.proofs.put_numbers.Goals as goal

-- number i of all but the last
among : (ns : List ℕ) (i : ℕ) → i < length (take (length ns - 1) ns) → i < length ns - 1
among ns i h = omega (arith, h, length-take (length ns - 1) ns)

number : (ns : List ℕ) (i : ℕ) → i < length (take (length ns - 1) ns) → get_or (take (length ns - 1) ns) i 0 ≡ get_or ns i 0
number ns i h = get_or-take (length ns - 1) ns i 0 (among ns i h)

pub put_number-end-requires : goal.put_number-end-requires
put_number-end-requires c =
    let ns = c.args.numbers.now in
    let i = c.loop-n.n-index in
    let lt = among ns i c.loop-n-test.true in
    rw (number ns i c.loop-n-test.true) (room_next c.loop-n.invariant c.requires.0 (omega (arith, lt)))

pub loop-n-preserved : goal.loop-n-preserved
loop-n-preserved c =
    let ns = c.args.numbers.now in
    let i = c.loop-n.n-index in
    let lt = among ns i c.loop-n-test.true in
    one_more_lem c.loop-n.invariant (omega (arith, lt)) (rw (number ns i c.loop-n-test.true) at c.put_number-end.ensures)

-- at the end of the loop only the last is left
pub put_number-requires : goal.put_number-requires
put_number-requires c =
    let ns = c.args.numbers.now in
    room_last _ c.loop-n.invariant c.requires.0 (omega (arith, c.loop-n.auto.n-index-end, c.loop-n-test.false, c.requires.1, length-take (length ns - 1) ns))

pub returns : goal.returns
returns c =
    let ns = c.args.numbers.now in
    all_printed c.loop-n.invariant (omega (arith, c.loop-n.auto.n-index-end, c.loop-n-test.false, c.requires.1, length-take (length ns - 1) ns)) c.put_number.ensures
