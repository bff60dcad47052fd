-- `number::put_signed` meets its contract. Assumes nothing.
use mathlib.Core.Path.{◌∙◌}
use Rattle.decimals.proofs.Exactly.{at_zero, at_other}
use Rattle.decimals.proofs.number.put_signed.Goals as goal

pub returns-then-size-eq0 : goal.returns-then-size-eq0
returns-then-size-eq0 c =
    let a = c.args in
    c.put_text.ensures ∙ at_zero a.neg a.size a.p c.if-size-eq0.true

pub returns-else-size-eq0 : goal.returns-else-size-eq0
returns-else-size-eq0 c =
    let a = c.args in
    let x = c.thirteen-x.ensures in
    cc (c.put_text-else-size-eq0.ensures, x.0, x.1, at_other a.neg a.size a.p c.if-size-eq0.false)
