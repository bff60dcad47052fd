-- Blank lines, however many, give the summary that a fresh station has: 0, 0, 0 (walk-blank); so does an empty book (walk-empty).
-- Assumes nothing.
use mathlib.Core.Path.{◌≡◌, refl, sym, ap, ◌∙◌}
use Prim.Native.Nat.{ℕ, zero, suc}
use lib.ListN.{get_or, replicate}
use Rattle.book.specs.declared.Entry.{Entry}
use Rattle.book.specs.Entry.{blank}
use Rattle.book.specs.Book.{slots, empty_book}
use Rattle.summary.specs.Walk.{none_filled, walk_of}
use Rattle.summary.specs.Means.{Holds}
use Rattle.summary.proofs.Means.{walk_means}

blank_lines : (n i : ℕ) → get_or (replicate n blank) i blank ≡ blank
blank_lines zero i = refl
blank_lines (suc n) zero = refl
blank_lines (suc n) (suc i) = blank_lines n i

none_held : (n d : ℕ) → Holds (replicate n blank) d → ⊥
none_held n d h = h.entry (sym h.day ∙ ap (λ (e : Entry). e.day) (blank_lines n h.line))

pub walk_blank : (n : ℕ) → walk_of (replicate n blank) ≡ none_filled
walk_blank n = (walk_means.means (replicate n blank)).empty (none_held n)

pub walk_empty : walk_of empty_book.entries ≡ none_filled
unfolding empty_book
walk_empty = walk_blank slots
