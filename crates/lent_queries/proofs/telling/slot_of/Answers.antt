-- `telling::slot_of` meets its contract: each return rewrites with the tests that led there. Assumes nothing.
use native.Mathlib.Omega.{arith}
use borrow.Author.Tests.{le-leb, lt-leb}
use Rattle.book.specs.Book.{slots}
use Rattle.shows.proofs.Shows.{is_so, is_not}
use Rattle.lent_queries.specs.Health.{slot_of}
use Rattle.lent_queries.proofs.telling.slot_of.Goals as goal

pub returns-then-not-has_record : goal.returns-then-not-has_record
unfolding slot_of
returns-then-not-has_record c = (rw (is_not c.has_record.ensures c.if-not-has_record.true), omega arith)

pub returns-then-n : goal.returns-then-n
unfolding slot_of
returns-then-n c =
    (rw (is_so c.has_record.ensures c.if-not-has_record.false, ← c.word_in-n.ensures, lt-leb c.word_in-n.result slots c.if-n.true), omega arith)

pub returns : goal.returns
unfolding slot_of
returns c =
    (rw (is_so c.has_record.ensures c.if-not-has_record.false, ← c.word_in-n.ensures, le-leb c.word_in-n.result slots (omega arith)), omega arith)
