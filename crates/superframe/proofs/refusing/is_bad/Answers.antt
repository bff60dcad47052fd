-- `superframe::refusing::is_bad` meets its contract. Assumes nothing.
use mir.Facts.{to_z-of_z}
use mir.Syntax.{w32}
use mir.Val.{SFits}
use mathlib.Core.Path.{refl, sym, ◌∙◌}
use borrow.Author.Tests.{eq-eqb, ne_eqb}
use Rattle.superframe.proofs.Encoder.{bad_is}
use borrow.Author.Rules.{rules}
use Rattle.superframe.proofs.refusing.is_bad.Goals as goal

pub returns-then-is_refused : goal.returns-then-is_refused
returns-then-is_refused c =
    let r = c.record_in-r in
    let w = c.write_words-w in
    let e = bad_is c.args.sky c.args.i c.requires.0 c.requires.1 r.result r.ensures _ _ w.result refl w.ensures in
    sym (e ∙ rw (← c.is_refused.ensures, c.if-is_refused.true))

pub returns-then-i-eq5 : goal.returns-then-i-eq5
returns-then-i-eq5 c =
    let r = c.record_in-r in
    let w = c.write_words-w in
    let e = bad_is c.args.sky c.args.i c.requires.0 c.requires.1 r.result r.ensures _ _ w.result refl w.ensures in
    let f : SFits w32 c.args.sky.five.n4 = search rules in
    sym (e ∙ rw (← c.is_refused.ensures, c.if-is_refused.false, eq-eqb c.args.i 5 c.if-i-eq5.true) (sym (simp (to_z-of_z f) at c.is_number.ensures)))

pub returns : goal.returns
returns c =
    let r = c.record_in-r in
    let w = c.write_words-w in
    let e = bad_is c.args.sky c.args.i c.requires.0 c.requires.1 r.result r.ensures _ _ w.result refl w.ensures in
    sym (e ∙ rw (← c.is_refused.ensures, c.if-is_refused.false, ne_eqb c.args.i 5 c.if-i-eq5.false))
