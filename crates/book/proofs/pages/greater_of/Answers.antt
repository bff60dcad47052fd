-- `pages::greater_of` meets its contract. Assumes nothing.
use Rattle.book.specs.Entry.{greater}
use Rattle.book.proofs.pages.greater_of.Goals as goal

pub returns-then-is_below : goal.returns-then-is_below
unfolding greater
returns-then-is_below c = rw (← c.is_below.ensures, c.if-is_below.true)

pub returns-else-is_below : goal.returns-else-is_below
unfolding greater
returns-else-is_below c = rw (← c.is_below.ensures, c.if-is_below.false)
