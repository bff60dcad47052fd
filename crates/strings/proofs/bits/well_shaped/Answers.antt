-- `bits::well_shaped` meets its contract: the padding is the last three bits of the last byte.
-- Assumes nothing.
use mathlib.Core.Path.{sym}
use mathlib.Core.Bool.{not-not}
use Prim.Native.Nat.{◌%◌}
use lib.Dec.{eqb}
use lib.ListN.{length, get_or}
use borrow.Author.Tests.{eq-eqb, ne_eqb}
use Rattle.strings.specs.Number.{misshapen}
use Rattle.strings.proofs.Value.{padding_at}
use Rattle.strings.proofs.bits.well_shaped.Goals as goal

pub returns-then-s-ne11 : goal.returns-then-s-ne11
unfolding misshapen
returns-then-s-ne11 c = rw (ne_eqb _ _ c.if-s-ne11.true)

pub returns : goal.returns
unfolding misshapen
returns c =
    let s = c.args.s.now in
    let n = c.if-s-ne11.false in
    rw (eq-eqb (length s) 11 n, padding_at s (λ k. (c.type_inv.s k).fits) n) (sym (not-not (eqb (get_or s 10 0 % 8) 0)))
