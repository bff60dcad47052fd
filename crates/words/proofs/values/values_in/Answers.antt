-- `values::values_in` meets its contract: before place j, the values of the places below it are read. Assumes nothing.
use mathlib.Core.Path.{◌≡◌, sym, ap, ◌∙◌}
use Prim.Native.Nat.{◌<◌}
use native.Mathlib.Omega.{arith}
use borrow.Author.Rules.{rules}
use lib.ListN.{length, length-set}
use lib.Seq.{take_all}
use mir.Syntax.{w32}
use mir.Val.{SFits, to_z, of_z}
use mir.Facts.{to_z-of_z}
use Rattle.strings.specs.Number.{number_of, word_of}
use Rattle.layout.specs.Layout.{layout}
use Rattle.words.specs.Values.{value_in, values_of}
use Rattle.layout.proofs.Rows.{layout_long}
use Rattle.words.proofs.Loops.{values_long, values_step}
use Rattle.words.proofs.WordBits.{word_lt}
use Rattle.words.proofs.values.values_in.Goals as goal

pub value_of-requires : goal.value_of-requires
value_of-requires c =
    let w = c.word_at-w.result in
    (c.word_at-w.ensures.1, rw c.word_in-raw.ensures (word_lt _ w.top w.low))

pub loop-j-preserved : goal.loop-j-preserved
loop-j-preserved c =
    let l = c.loop-j in
    let a = c.args in
    let w = c.word_at-w.result in
    let n = number_of a.s.now in
    let h : l.j < 8 = c.loop-j-test.true in
    let f : SFits w32 c.value_of.result = search rules in
    let z : to_z w32 (of_z w32 c.value_of.result) ≡ value_in w (word_of n w.top w.low) =
    to_z-of_z f ∙ c.value_of.ensures ∙ ap (value_in w) c.word_in-raw.ensures in (
      (omega arith, simp length-set l.invariant.0.1),
      rw z (values_step (layout a.k) l.value-items l.j w (rw (layout_long a.k) h) (rw l.invariant.0.1 h) c.word_at-w.ensures.0 n l.invariant.1),
    )

pub returns : goal.returns
returns c =
    let l = c.loop-j in
    let a = c.args in
    let n = values_of (number_of a.s.now) (layout a.k) in
    let j : l.j ≡ 8 = omega arith in
    let k : length n ≡ 8 = values_long (number_of a.s.now) (layout a.k) ∙ layout_long a.k in
    sym (take_all 8 l.value-items (omega (arith, l.invariant.0.1))) ∙ rw j at l.invariant.1 ∙ take_all 8 n (omega (arith, k))
