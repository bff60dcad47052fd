-- `reading::entry_in` meets its contract: the parts of the slice are the definition's (nine-high, nine-low). Assumes nothing.
use mathlib.Core.Path.{sym, ◌∙◌}
use native.Mathlib.Omega.{arith}
use Rattle.strings.specs.Number.{Bytes}
use Rattle.book.specs.Entry.{entry_of}
use Rattle.book.proofs.Order.{same_entry}
use Rattle.wire.specs.Bytes.{entry_from}
use Rattle.wire.proofs.Entries.{day_lt, nine_high, nine_low}
use Rattle.wire.proofs.reading.entry_in.Goals as goal

pub overflow_cast-result : goal.overflow_cast-result
overflow_cast-result c =
    omega (arith, c.number_in-3.ensures, day_lt c.args.s.now (λ i. (c.type_inv.s i).fits) c.requires)

pub returns : goal.returns
unfolding entry_from entry_of
returns c =
    let s = c.args.s.now in
    let h : Bytes s = (λ i. (c.type_inv.s i).fits) in
    let l = c.requires in
    same_entry _ _
    (c.number_in.ensures ∙ sym (nine_low s 2 h (omega (arith, l))))
    (c.number_in-2.ensures ∙ sym (nine_low s 11 h (omega (arith, l))))
    c.number_in-3.ensures
    (sym (nine_high s 2 h (omega (arith, l))))
    (sym (nine_high s 11 h (omega (arith, l))))
