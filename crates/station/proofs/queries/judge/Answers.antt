-- `queries::judge` meets its contract: a byte has its top bit where it is at least 128. Assumes nothing.
use Prim.Native.Nat.{◌/◌, ◌%◌}
use native.Mathlib.Omega.{arith}
use borrow.Author.Tests.{eq-eqb, ne_eqb}
use Rattle.station.specs.Queries.{judged}
use Rattle.station.proofs.queries.judge.Goals as goal

pub returns-then-etop-ge128 : goal.returns-then-etop-ge128
unfolding judged
returns-then-etop-ge128 c =
    let a = c.args in
    rw (eq-eqb a.bad 0 c.if-bad-eq0.true, eq-eqb a.l 0 c.if-l-eq0.true, eq-eqb (a.etop / 128 % 2) 1 (omega arith))

pub returns-else-etop-ge128 : goal.returns-else-etop-ge128
unfolding judged
returns-else-etop-ge128 c =
    let a = c.args in
    rw (eq-eqb a.bad 0 c.if-bad-eq0.true, eq-eqb a.l 0 c.if-l-eq0.true, ne_eqb (a.etop / 128 % 2) 1 (λ e. omega arith))

pub returns-else-l-eq0 : goal.returns-else-l-eq0
unfolding judged
returns-else-l-eq0 c =
    let a = c.args in
    rw (eq-eqb a.bad 0 c.if-bad-eq0.true, ne_eqb a.l 0 c.if-l-eq0.false)

pub returns-else-bad-eq0 : goal.returns-else-bad-eq0
unfolding judged
returns-else-bad-eq0 c = rw (ne_eqb c.args.bad 0 c.if-bad-eq0.false)
