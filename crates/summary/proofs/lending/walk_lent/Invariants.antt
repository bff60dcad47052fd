-- The loop over lent lines: what is passed.
use Rattle.summary.proofs.Passed.{Passed}
use Rattle.summary.proofs.lending.walk_lent.Given as goal

abbrev pub invariant-loop-e : goal.invariant-loop-e
invariant-loop-e l = Passed l.book l.e-index l.s
