-- `hamming::examine` meets its contract. Assumes nothing.
use mathlib.Core.Path.{ap₂, ◌∙◌}
use native.Mathlib.Omega.{arith}
use Rattle.strings.specs.Number.{number_of}
use Rattle.strings.specs.Hamming.{judge, ruling}
use Rattle.strings.proofs.Sums.{syndrome_lt, sum_all_lt}
use Rattle.strings.proofs.hamming.examine.Goals as goal

pub judge_sums-requires : goal.judge_sums-requires
judge_sums-requires c =
    let n = number_of c.args.s.now in
    let e = c.add_up-t.ensures in
    (omega (arith, syndrome_lt n, e.0), omega (arith, sum_all_lt n, e.1))

pub returns : goal.returns
unfolding ruling
returns c = c.judge_sums.ensures ∙ ap₂ judge c.add_up-t.ensures.0 c.add_up-t.ensures.1
