-- Books and their bytes, computed from the definitions.
-- Assumes nothing.
use Rattle.std.specs.Prelude.{ℕ, List, [], ◌∷◌, ◌++◌, ◌≡◌, refl, take, drop, replicate}
use Rattle.book.specs.declared.Entry.{Entry}
use Rattle.book.specs.declared.Book.{Book}
use Rattle.book.specs.Entry.{blank}
use Rattle.book.specs.Book.{empty_book}
use Rattle.wire.specs.Bytes.{entry_bytes, entries_bytes, book_bytes}

-- an entry of day 8766, a book with it in slot 1, and one with it in slot 24
abbrev entry : Entry
entry = record { even = 0x23456789ABCDEF01; odd = 0xFEDCBA9876543210; day = 8766; etop = 0xA1; otop = 0x5F }

abbrev first : Book
first = record { entries = entry ∷ replicate 23 blank }

abbrev last : Book
last = record { entries = replicate 23 blank ++ (entry ∷ []) }

-- its twenty bytes: the day, the even bits, the odd bits
abbrev sent : List ℕ
sent =
    0x22 ∷ 0x3E
    ∷ 0xA1 ∷ 0x23 ∷ 0x45 ∷ 0x67 ∷ 0x89 ∷ 0xAB ∷ 0xCD ∷ 0xEF ∷ 0x01
    ∷ 0x5F ∷ 0xFE ∷ 0xDC ∷ 0xBA ∷ 0x98 ∷ 0x76 ∷ 0x54 ∷ 0x32 ∷ 0x10
    ∷ []

pub record Known : Type 0 where
  -- no entry is 480 zeros
  pub none : book_bytes empty_book ≡ replicate 480 0
  pub first_slot : take 20 (book_bytes first) ≡ sent
  pub first_rest : drop 20 (book_bytes first) ≡ replicate 460 0
  pub last_slot : drop 460 (book_bytes last) ≡ sent
  pub last_rest : take 460 (book_bytes last) ≡ replicate 460 0

pub known : Known
unfolding entries_bytes entry_bytes empty_book
known = record { none = refl; first_slot = refl; first_rest = refl; last_slot = refl; last_rest = refl }
