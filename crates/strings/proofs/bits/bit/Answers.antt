-- `bits::bit` meets its contract. Assumes nothing.
use mathlib.Core.Path.{sym}
use Rattle.strings.proofs.Value.{bit_at}
use Rattle.strings.proofs.bits.bit.Goals as goal

pub returns : goal.returns
returns c =
    let a = c.args in
    let h = c.requires in
    sym (bit_at a.s.now a.i (λ k. (c.type_inv.s k).fits) h.0 h.1.0 h.1.1)
