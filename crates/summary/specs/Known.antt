-- Walks, computed from the definition: a book with three entries in slots 2, 5 and 24, of which one is a day older than the next, and an empty book.
-- Assumes nothing.
use Rattle.std.specs.Prelude.{ℕ, ◌≡◌, refl, List, set}
use Rattle.book.specs.declared.Entry.{Entry}
use Rattle.book.specs.Book.{empty_book}
use Rattle.summary.specs.Walk.{none_filled, with_line, walk_from, walk_of}

-- an entry of a day, with some bits
abbrev of_day : ℕ → Entry
of_day d = record { even = 7; odd = 9; day = d; etop = 1; otop = 2 }

abbrev three_filled : List Entry
three_filled = set (set (set empty_book.entries 1 (of_day 8766)) 4 (of_day 8765)) 23 (of_day 9000)

pub record Known : Type 0 where
  pub empty : walk_of empty_book.entries ≡ record { count = 0; oldest = 0; newest = 0 }
  pub three : walk_of three_filled ≡ record { count = 3; oldest = 8765; newest = 9000 }
  -- the one oldest entry is replaced by a newer one: the oldest day rises
  pub replaced : walk_of (set three_filled 4 (of_day 9001)) ≡ record { count = 3; oldest = 8766; newest = 9001 }

pub known : Known
unfolding empty_book none_filled with_line walk_from walk_of
known = record { empty = refl; three = refl; replaced = refl }
