-- `superframe::placing::record_in` meets its contract. Assumes nothing.
use mathlib.Core.Path.{sym, ◌∙◌}
use native.Mathlib.Omega.{arith}
use Rattle.superframe.proofs.Places.{alike, last_is, half_is}
use Rattle.superframe.proofs.placing.record_in.Goals as goal

pub returns-then-m-lt6 : goal.returns-then-m-lt6
returns-then-m-lt6 c =
    c.early_in.ensures ∙ sym (alike c.args.sky c.args.g c.args.m c.requires.1.0 (omega (arith, c.if-m-lt6.true)))

pub returns-then-at-gt23 : goal.returns-then-at-gt23
returns-then-at-gt23 c =
    c.last_in.ensures
    ∙ last_is c.args.sky c.args.g c.args.m (omega (arith, c.if-m-lt6.false)) c.requires.0 c.requires.1.1 c.if-at-gt23.true

pub returns : goal.returns
returns c =
    c.half_in.ensures
    ∙ half_is c.args.sky c.args.g c.args.m (omega (arith, c.if-m-lt6.false)) (omega (arith, c.if-at-gt23.false))
