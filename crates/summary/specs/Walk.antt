-- The walk over a book's lines (request 5): "how many slots are filled, the oldest day and the newest".
-- Assumes nothing.
use Rattle.std.specs.Prelude.{ℕ, ◌+◌, Bool, List, [], ◌∷◌, eqb, ltb}
use Rattle.strings.specs.Pick.{pick}
use Rattle.book.specs.declared.Entry.{Entry}
use Rattle.summary.specs.declared.Summary.{Summary}

-- "An empty book has count 0 and both days 0"
unfoldable pub none_filled : Summary
none_filled = record { count = 0; oldest = 0; newest = 0 }

-- a line of day 0 holds no entry
abbrev pub is_blank : Entry → Bool
is_blank e = eqb e.day 0

-- the older of two days: the first is 0 as long as none was met
abbrev pub older_of : ℕ → ℕ → ℕ
older_of oldest day = pick (eqb oldest 0) day (pick (ltb day oldest) day oldest)

-- the newer of two days
abbrev pub newer_of : ℕ → ℕ → ℕ
newer_of newest day = pick (ltb newest day) day newest

-- one line more: a blank one changes nothing
unfoldable pub with_line : Summary → Entry → Summary
with_line s e =
    pick (is_blank e) s
    (record { count = s.count + 1; oldest = older_of s.oldest e.day; newest = newer_of s.newest e.day })

-- the lines in turn
unfoldable pub walk_from : Summary → List Entry → Summary
walk_from s [] = s
walk_from s (e ∷ es) = walk_from (with_line s e) es

-- "a walk over the lent list of book lines"
unfoldable pub walk_of : List Entry → Summary
walk_of es = walk_from none_filled es
