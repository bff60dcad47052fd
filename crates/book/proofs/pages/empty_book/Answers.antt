-- `pages::empty_book` meets its contract. Assumes nothing.
use mathlib.Core.Path.{refl}
use Rattle.book.specs.Book.{empty_book}
use Rattle.book.proofs.pages.empty_book.Goals as goal

pub returns : goal.returns
unfolding empty_book
returns c = refl
