-- `pages::join` meets its contract: each return rewrites with the variant that led there. Assumes nothing.
use Rattle.book.specs.Book.{joined_entry}
use Rattle.book.proofs.pages.join.Goals as goal

pub returns-in-None : goal.returns-in-None
unfolding joined_entry
returns-in-None c = rw c.in-None.is

pub returns-in-Some : goal.returns-in-Some
unfolding joined_entry
returns-in-Some c = rw (c.in-Some.is, c.greater_of.ensures)
