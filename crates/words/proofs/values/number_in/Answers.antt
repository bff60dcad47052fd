-- `values::number_in` meets its contract: m is in the first byte. Assumes nothing.
use mathlib.Core.Path.{sym}
use native.Mathlib.Omega.{arith}
use Rattle.strings.specs.Number.{number_of, word_of}
use Rattle.strings.proofs.Value.{byte_at}
use Rattle.words.proofs.values.number_in.Goals as goal

pub returns : goal.returns
unfolding number_of word_of
returns c =
    let s = c.args.s.now in
    omega (arith, byte_at s 0 10 (λ i. (c.type_inv.s i).fits) (sym c.requires))
