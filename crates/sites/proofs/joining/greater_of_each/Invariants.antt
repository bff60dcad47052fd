-- `joining::greater_of_each` meets its contract. The loop's invariant is `Passed`: the slots passed are joined. Assumes nothing.
use Rattle.sites.proofs.Slots.{Passed}
use Rattle.sites.proofs.joining.greater_of_each.Given as goal

abbrev pub invariant-loop-i : goal.invariant-loop-i
invariant-loop-i l = Passed l.fn.first l.fn.second l.i l.e-items
