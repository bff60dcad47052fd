-- `lines::with_line` meets its contract: a blank line, or both days by their own functions. Assumes nothing.
use borrow.Author.Tests.{eq-eqb, ne_eqb}
use Rattle.summary.specs.Walk.{with_line}
use Rattle.summary.proofs.lines.with_line.Goals as goal

pub returns-then-day-eq0 : goal.returns-then-day-eq0
unfolding with_line
returns-then-day-eq0 c = simp (eq-eqb _ _ c.if-day-eq0.true)

pub returns : goal.returns
unfolding with_line
returns c = simp (ne_eqb _ _ c.if-day-eq0.false, c.newer_of.ensures, c.older_of.ensures)
