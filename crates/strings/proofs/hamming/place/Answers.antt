-- `hamming::place` meets its contract. Assumes nothing.
use borrow.Author.Tests.{le-leb, lt-leb}
use Rattle.strings.specs.Hamming.{placed}
use Rattle.strings.proofs.hamming.place.Goals as goal

pub returns-then-i-le85 : goal.returns-then-i-le85
unfolding placed
returns-then-i-le85 c = simp (le-leb _ _ c.if-i-le85.true)

pub returns-else-i-le85 : goal.returns-else-i-le85
unfolding placed
returns-else-i-le85 c = simp (lt-leb _ _ c.if-i-le85.false)
