-- `values::first_bad` meets its contract: before place j, the answer is that of the places from j on. Assumes nothing.
use mathlib.Core.Path.{◌≡◌, sym, ap, ◌∙◌}
use mathlib.Core.List.{List}
use Prim.Native.Nat.{◌≤◌, ◌<◌}
use native.Mathlib.Omega.{arith}
use borrow.Author.Rules.{rules}
use lib.IntN.{pos}
use lib.ListN.{length, get_or, drop, drop_of_length-le}
use mir.Syntax.{w32}
use mir.Val.{SFits}
use mir.Facts.{to_z-of_z}
use Rattle.layout.specs.declared.table.Word.{Word}
use Rattle.layout.specs.Layout.{layout}
use Rattle.words.specs.Values.{first_bad}
use Rattle.layout.proofs.Rows.{layout_long}
use Rattle.words.proofs.Loops.{bad_step, bad_found}
use Rattle.words.proofs.values.first_bad.Goals as goal

pub loop-j-preserved : goal.loop-j-preserved
loop-j-preserved c =
    let l = c.loop-j in
    let a = c.args in
    let h : l.j < 8 = c.loop-j-test.true in
    let n : length a.v ≡ 8 = search rules in
    let f : SFits w32 (get_or a.v l.j (pos 0)) = search rules in
    let t = sym (simp (to_z-of_z f) at c.is_in_range.ensures) ∙ c.if-not-is_in_range.false in
    let s = bad_step (layout a.k) a.v l.j c.word_at-w.result (rw (layout_long a.k) h) (rw n h) c.word_at-w.ensures.0 t in
    (omega arith, sym s ∙ l.invariant.1)

pub returns : goal.returns
unfolding first_bad
returns c =
    let l = c.loop-j in
    let a = c.args in
    let r : length (layout a.k) ≤ l.j = omega (arith, layout_long a.k) in
    sym (ap (λ (ws : List Word). first_bad ws (drop l.j a.v)) (drop_of_length-le (layout a.k) r)) ∙ l.invariant.1

pub returns-then-not-is_in_range : goal.returns-then-not-is_in_range
returns-then-not-is_in_range c =
    let l = c.loop-j in
    let a = c.args in
    let h : l.j < 8 = c.loop-j-test.true in
    let n : length a.v ≡ 8 = search rules in
    let f : SFits w32 (get_or a.v l.j (pos 0)) = search rules in
    let t = sym (simp (to_z-of_z f) at c.is_in_range.ensures) ∙ c.if-not-is_in_range.true in
    sym (bad_found (layout a.k) a.v l.j c.word_at-w.result (rw (layout_long a.k) h) (rw n h) c.word_at-w.ensures.0 t) ∙ l.invariant.1
