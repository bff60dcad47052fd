-- An almanac entry (the paper, "Frames and the book"): "An entry is its day and these bits and no more".
-- Assumes nothing.
use Rattle.std.specs.Prelude.{ℕ, ◌+◌, ◌*◌, ◌/◌, ◌%◌, ◌^◌, ◌<◌, Bool, ◌&&◌, ◌||◌, eqb, ltb}
use Rattle.strings.specs.Pick.{pick}
use Rattle.records.specs.declared.kinds.Kind.TheVariants.{Even, Odd}
use Rattle.records.specs.declared.named.EvenString.{EvenString}
use Rattle.records.specs.declared.named.OddString.{OddString}
use Rattle.layout.specs.Layout.{layout}
use Rattle.words.specs.Values.{values_of}
use Rattle.records.specs.Records.{even_of, odd_of}
use Rattle.book.specs.declared.Entry.{Entry}

-- the three numbers of an entry: its day, the even string's bits 80..9 and the odd string's bits 80..10
pub record Three : Type 0 where
  pub day : ℕ
  pub even : ℕ
  pub odd : ℕ

-- what the struct means: its 72 and 71 bits stand in a high and a low part
abbrev pub meaning : Entry → Three
meaning e = record { day = e.day; even = e.etop * 2 ^ 64 + e.even; odd = e.otop * 2 ^ 64 + e.odd }

-- the struct of three numbers
unfoldable pub entry_of : Three → Entry
entry_of t = record { even = t.even % 2 ^ 64; odd = t.odd % 2 ^ 64; day = t.day; etop = t.even / 2 ^ 64; otop = t.odd / 2 ^ 64 }

-- "Two entries for one nA compare by day, then by the even string's bits 80..9 as a number, then by the odd string's bits 80..10"
abbrev pub is_below : Three → Three → Bool
is_below a b =
    ltb a.day b.day
    || (eqb a.day b.day && (ltb a.even b.even || (eqb a.even b.even && ltb a.odd b.odd)))

-- "The book keeps the greater"
unfoldable pub greater : Entry → Entry → Entry
greater a b = pick (is_below (meaning a) (meaning b)) b a

-- no entry: day 0, the least of all
abbrev pub blank : Entry
blank = record { even = 0; odd = 0; day = 0; etop = 0; otop = 0 }

-- what the types say of an entry: the widths of its fields
pub record Fits (e : Entry) : Type 0 where
  pub even : e.even < 2 ^ 64
  pub odd : e.odd < 2 ^ 64
  pub day : e.day < 2 ^ 16
  pub etop : e.etop < 2 ^ 8
  pub otop : e.otop < 2 ^ 8

-- ---- an entry's words: those of its even half and of its odd half. Bit 9 of the odd string, the sender's l, is no part of it and reads 0
unfoldable pub even_words : Three → EvenString
even_words t = even_of (values_of (t.even * 2 ^ 8) (layout Even))

unfoldable pub odd_words : Three → OddString
odd_words t = odd_of (values_of (t.odd * 2 ^ 9) (layout Odd))
