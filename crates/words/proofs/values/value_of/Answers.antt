-- `values::value_of` meets its contract: its cases are those of `value_as`. Assumes nothing.
use Prim.Native.Nat.{◌+◌, ◌-◌}
use native.Mathlib.Omega.{arith}
use native.Mathlib.Nat.{lt_of_lt_of_le}
use lib.Pow.{pow_mono}
use Rattle.words.proofs.Sign.{one_shifted_32, power_small, two_halves}
use Rattle.words.proofs.values.value_of.Goals as goal

pub signed_value-requires : goal.signed_value-requires
signed_value-requires c =
    let w = c.args.w in
    let n = w.top - w.low in
    rw (one_shifted_32 n (omega arith))
    (power_small n (omega arith), omega (arith, two_halves w.top w.low (c.requires.0.sign c.in-Signed.is), c.requires.1))

pub carrier_value-requires : goal.carrier_value-requires
carrier_value-requires c =
    let w = c.args.w in
    let l = c.requires.0.carrier c.in-Carrier.is in
    lt_of_lt_of_le c.requires.1 (pow_mono {i = w.top + 1 - w.low} {j = 5} (omega arith))
