-- `scaling::power` meets its contract: the pattern's value is 2 ^ -unit. Assumes nothing.
use Prim.Native.Nat.{ℕ}
use native.Mathlib.Omega.{arith}
use Rattle.scaled.specs.Scaled.{scaled_of}
use Rattle.scaled.proofs.Pattern.{pattern_number, pattern_is}
use Rattle.scaled.proofs.scaling.power.Goals as goal

pub float_from_bits-result : goal.float_from_bits-result
float_from_bits-result c = let u : ℕ = c.args.unit in pattern_number u (omega arith)

pub returns : goal.returns
unfolding scaled_of
returns c = let u : ℕ = c.args.unit in pattern_is u (omega arith)
