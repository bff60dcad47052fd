-- `table::string_14` meets its contract: place by place, and the filler past its words. Assumes nothing.
use mathlib.Core.Path.{refl, ◌∙◌}
use Prim.Native.Nat.{◌≤◌}
use native.Mathlib.Omega.{arith}
use Rattle.records.specs.declared.kinds.Kind.TheVariants.{Fourteen}
use Rattle.layout.specs.Layout.{layout}
use Rattle.layout.proofs.Rows.{past_words}
use Rattle.layout.proofs.table.string_14.Goals as goal

pub returns-in-0 : goal.returns-in-0
unfolding layout
returns-in-0 c = rw (c.signed.ensures, c.in-0.is)

pub returns-in-1 : goal.returns-in-1
unfolding layout
returns-in-1 c = rw (c.signed-in-1.ensures, c.in-1.is)

pub returns-in-2 : goal.returns-in-2
unfolding layout
returns-in-2 c = rw (c.plain.ensures, c.in-2.is)

pub returns-in_default : goal.returns-in_default
unfolding layout
returns-in_default c =
    let j = c.args.j in
    let past : 3 ≤ j = omega arith in
    c.no_word.ensures ∙ past_words 3 5 (layout Fourteen) j refl past
