-- Where an entry of the book changes (request 5: "corrected at each change of an entry"): everywhere but where the book that is left is the book that
-- was. The proof stands in `proofs/Changes.antt`.
-- Assumes nothing.
use Rattle.std.specs.Prelude.{false, List, [], ◌∷◌, ◌↔◌, ◌≡◌, length, Option, ℕ}
use Rattle.book.specs.declared.Entry.{Entry}
use Rattle.book.specs.declared.Book.{Book}
use Rattle.book.specs.Book.{slots, InBook}
use Rattle.channel.specs.Frame.{Frame}
use Rattle.shows.specs.Shows.{shows_of, brought, changes}

-- all that is shown is for one of the slots
abbrev pub AllInBook : List (Option (ℕ × Entry)) → Type 0
AllInBook [] = Unit
AllInBook (s ∷ ss) = InBook s × AllInBook ss

abbrev pub ChangesExactly : Book → List (Option (ℕ × Entry)) → Type 0
ChangesExactly b shows = (changes b shows ≡ false) ↔ (brought b shows ≡ b)

-- of every book that has its slots
pub record ChangesOf (b : Book) : Type 0 where
  pub shown : (shows : List (Option (ℕ × Entry))) → AllInBook shows → ChangesExactly b shows
  pub by_frame : (f : Frame) → ChangesExactly b (shows_of f)

abbrev pub EveryChange : Type 0
EveryChange = (b : Book) → length b.entries ≡ slots → ChangesOf b
