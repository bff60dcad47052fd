-- `table::string_3` meets its contract: place by place, and the filler past its words. Assumes nothing.
use mathlib.Core.Path.{refl, ◌∙◌}
use Prim.Native.Nat.{◌≤◌}
use native.Mathlib.Omega.{arith}
use Rattle.records.specs.declared.kinds.Kind.TheVariants.{Three}
use Rattle.layout.specs.Layout.{layout}
use Rattle.layout.proofs.Rows.{past_words}
use Rattle.layout.proofs.table.string_3.Goals as goal

pub returns-in-0 : goal.returns-in-0
unfolding layout
returns-in-0 c = rw (c.plain.ensures, c.in-0.is)

pub returns-in-1 : goal.returns-in-1
unfolding layout
returns-in-1 c = rw (c.signed.ensures, c.in-1.is)

pub returns-in-2 : goal.returns-in-2
unfolding layout
returns-in-2 c = rw (c.plain-in-2.ensures, c.in-2.is)

pub returns-in-3 : goal.returns-in-3
unfolding layout
returns-in-3 c = rw (c.plain-in-3.ensures, c.in-3.is)

pub returns-in-4 : goal.returns-in-4
unfolding layout
returns-in-4 c = rw (c.signed-in-4.ensures, c.in-4.is)

pub returns-in-5 : goal.returns-in-5
unfolding layout
returns-in-5 c = rw (c.signed-in-5.ensures, c.in-5.is)

pub returns-in-6 : goal.returns-in-6
unfolding layout
returns-in-6 c = rw (c.signed-in-6.ensures, c.in-6.is)

pub returns-in_default : goal.returns-in_default
unfolding layout
returns-in_default c =
    let j = c.args.j in
    let past : 7 ≤ j = omega arith in
    c.no_word.ensures ∙ past_words 7 1 (layout Three) j refl past
