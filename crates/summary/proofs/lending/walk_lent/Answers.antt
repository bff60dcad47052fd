-- `lending::walk_lent` meets its contract. Assumes nothing.
use Prim.Native.Nat.{◌+◌}
use native.Mathlib.Omega.{arith}
use mathlib.Core.Path.{sym, subst}
use Rattle.summary.proofs.Passed.{Passed, begins, goes_on, ends}
use Rattle.summary.proofs.lending.walk_lent.Goals as goal

pub loop-e-init : goal.loop-e-init
loop-e-init c = subst (Passed c.args.book.now 0) (sym c.none_filled-s.ensures) (begins c.args.book.now)

pub loop-e-preserved : goal.loop-e-preserved
loop-e-preserved c =
    let b = c.args.book.now in
    let l = c.loop-e in
    subst (Passed b (l.e-index + 1)) (sym c.with_line-s.ensures) (goes_on b l.e-index l.s (omega arith) l.invariant)

pub returns : goal.returns
returns c =
    let b = c.args.book.now in
    let l = c.loop-e in
    ends b l.e-index l.s (omega arith) l.invariant
