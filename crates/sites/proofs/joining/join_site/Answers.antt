-- `joining::join_site` meets its contract: the book is the joined one, the summary its walk. Assumes nothing.
use mathlib.Core.Path.{ap, ap₂, ◌∙◌}
use Rattle.book.specs.declared.Book.{Book}
use Rattle.summary.specs.declared.Summary.{Summary}
use Rattle.summary.specs.Walk.{walk_of}
use Rattle.sites.specs.Joining.{site_joined}
use Rattle.sites.proofs.joining.join_site.Goals as goal

pub returns : goal.returns
unfolding site_joined
returns c =
    let b = c.join_books-joined in
    let a = c.args in
    ap₂ (λ (x : Book) (y : Summary). record { rows = a.st.rows; book = x; summary = y }) b.ensures
    (c.walk_book-summary.ensures ∙ ap (λ (x : Book). walk_of x.entries) b.ensures)
