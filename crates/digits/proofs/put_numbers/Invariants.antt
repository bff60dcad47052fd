-- The loop over all numbers but the last: those before the index are printed (`Row`). Assumes nothing.
use Rattle.digits.proofs.Row.{RowSoFar}
use Rattle.digits.proofs.put_numbers.Given as goal

abbrev pub invariant-loop-n : goal.invariant-loop-n
invariant-loop-n l = RowSoFar l.numbers l.initial.text l.at l.text l.end l.n-index
