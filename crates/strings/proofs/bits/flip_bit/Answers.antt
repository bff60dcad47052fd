-- `bits::flip_bit` meets its contract. Assumes nothing.
use mathlib.Core.Path.{ap, ◌∙◌}
use Prim.Native.Nat.{ℕ, ◌+◌, ◌-◌, ◌/◌, ◌%◌}
use native.Mathlib.Nat.{mod-lt, zero-lt-suc}
use lib.Bits.{bit_xor}
use lib.ListN.{get_or, set}
use Rattle.strings.specs.Number.{number_of, padding_of}
use Rattle.strings.proofs.Value.{Bytes, turned_number, turned_padding, shl8}
use Rattle.strings.proofs.bits.flip_bit.Goals as goal

pub returns : goal.returns
returns c =
    let l = c.args.s.now in
    let i = c.args.i in
    let h = c.requires in
    let b : Bytes l = (λ k. (c.slice_known-1.given k).fits) in
    let e = ap (λ (x : ℕ). set l ((85 - i) / 8) (bit_xor (get_or l ((85 - i) / 8) 0) x)) (shl8 ((i + 2) % 8) (mod-lt (i + 2) (zero-lt-suc 7))) in
    (ap number_of e ∙ turned_number l i b h.0 h.1.0 h.1.1, ap padding_of e ∙ turned_padding l i b h.0 h.1.0 h.1.1)
