-- `telling::health_told` meets its contract: each return rewrites with the tests that led there; C is etop's top bit (status-is). Assumes nothing.
use borrow.Author.Tests.{eq-eqb, ne_eqb}
use borrow.Author.Rules.{rules}
use Rattle.station.proofs.Status.{status_is}
use Rattle.lent_queries.specs.Health.{health_at}
use Rattle.lent_queries.proofs.telling.health_told.Goals as goal

pub returns-then-e-eq0 : goal.returns-then-e-eq0
unfolding health_at
returns-then-e-eq0 c = rw (eq-eqb c.args.e.day 0 c.if-e-eq0.true)

pub returns : goal.returns
unfolding health_at
returns c =
    let a = c.args in
    rw (
      c.health_number.ensures,
      c.judge.ensures,
      ← c.l_counted-l.ensures,
      c.word_in-bad.ensures,
      ne_eqb a.e.day 0 c.if-e-eq0.false,
      status_is a.e (search rules),
    )
