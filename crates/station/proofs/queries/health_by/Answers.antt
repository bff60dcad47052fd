-- `queries::health_by` meets its contract: each return rewrites with the tests that led there; C is etop's top bit (status-is). Assumes nothing.
use native.Mathlib.Omega.{arith}
use borrow.Author.Tests.{le-leb, lt-leb, eq-eqb, ne_eqb}
use borrow.Author.Rules.{rules}
use Rattle.book.specs.Book.{slots}
use Rattle.shows.proofs.Shows.{is_so, is_not}
use Rattle.station.specs.Queries.{health_by}
use Rattle.station.proofs.Status.{status_is}
use Rattle.station.proofs.queries.health_by.Goals as goal

pub returns-then-not-has_record : goal.returns-then-not-has_record
unfolding health_by
returns-then-not-has_record c = rw (is_not c.has_record.ensures c.if-not-has_record.true)

pub returns-then-n-eq0 : goal.returns-then-n-eq0
unfolding health_by
returns-then-n-eq0 c =
    rw (is_so c.has_record.ensures c.if-not-has_record.false, ← c.word_in-n.ensures, lt-leb 1 c.word_in-n.result (omega arith))

pub returns-then-n : goal.returns-then-n
unfolding health_by
returns-then-n c =
    rw (
      is_so c.has_record.ensures c.if-not-has_record.false,
      ← c.word_in-n.ensures,
      le-leb 1 c.word_in-n.result (omega arith),
      lt-leb c.word_in-n.result slots c.if-n.true,
    )

pub returns-then-e-eq0 : goal.returns-then-e-eq0
unfolding health_by
returns-then-e-eq0 c =
    rw (
      is_so c.has_record.ensures c.if-not-has_record.false,
      ← c.word_in-n.ensures,
      le-leb 1 c.word_in-n.result (omega arith),
      le-leb c.word_in-n.result slots (omega arith),
      ← c.entry_in-e.ensures,
      eq-eqb c.entry_in-e.result.day 0 c.if-e-eq0.true,
    )

pub returns : goal.returns
unfolding health_by
returns c =
    rw (
      c.judge.ensures,
      ← c.l_counted-l.ensures,
      c.word_in-bad.ensures,
      is_so c.has_record.ensures c.if-not-has_record.false,
      ← c.word_in-n.ensures,
      le-leb 1 c.word_in-n.result (omega arith),
      le-leb c.word_in-n.result slots (omega arith),
      ← c.entry_in-e.ensures,
      ne_eqb c.entry_in-e.result.day 0 c.if-e-eq0.false,
      status_is c.entry_in-e.result (search rules),
    )
