-- A book as the 480 bytes that two sites exchange: for each slot, 1 to 24 in turn, twenty bytes. They are three numbers, each with its highest byte first:
-- the day in two, the even string's bits 80..9 in nine and the odd string's bits 80..10 in nine. The latter are 71: the bit above them is 0 in what strings
-- show, and is sent as it stands.
-- Assumes nothing.
use Rattle.std.specs.Prelude.{ℕ, zero, suc, List, [], ◌∷◌, ◌++◌, take, drop}
use Rattle.strings.specs.Number.{bytes_of, value_of}
use Rattle.book.specs.declared.Entry.{Entry}
use Rattle.book.specs.declared.Book.{Book}
use Rattle.book.specs.Entry.{Three, meaning, entry_of}
use Rattle.book.specs.Book.{slots}

-- ---- written
unfoldable pub entry_bytes : Three → List ℕ
entry_bytes t = bytes_of 2 t.day ++ (bytes_of 9 t.even ++ bytes_of 9 t.odd)

-- one after the other
unfoldable pub entries_bytes : List Entry → List ℕ
entries_bytes [] = []
entries_bytes (e ∷ es) = entry_bytes (meaning e) ++ entries_bytes es

abbrev pub book_bytes : Book → List ℕ
book_bytes b = entries_bytes b.entries

-- ---- read
-- the three numbers of twenty bytes
abbrev pub three_from : List ℕ → Three
three_from s = record { day = value_of (take 2 s); even = value_of (take 9 (drop 2 s)); odd = value_of (take 9 (drop 11 s)) }

unfoldable pub entry_from : List ℕ → Entry
entry_from s = entry_of (three_from s)

-- n entries, each from the next twenty bytes
unfoldable pub entries_from : ℕ → List ℕ → List Entry
entries_from zero s = []
entries_from (suc n) s = entry_from (take 20 s) ∷ entries_from n (drop 20 s)

abbrev pub book_from : List ℕ → Book
book_from s = record { entries = entries_from slots s }
