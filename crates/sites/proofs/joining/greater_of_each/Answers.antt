-- `joining::greater_of_each` meets its contract. The loop's invariant is `Passed`: the slots passed are joined. Assumes nothing.
use borrow.Author.Rules.{rules}
use Rattle.sites.proofs.Slots.{ends}
use Rattle.sites.proofs.joining.greater_of_each.Goals as goal

pub returns : goal.returns
returns c =
    let a = c.args in
    let l = c.loop-i in
    ends a.first a.second l.i l.e-items (search rules) l.invariant
