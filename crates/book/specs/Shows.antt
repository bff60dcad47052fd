-- What string 5, an even and an odd string of one frame show (the paper, "Frames and the book").
-- Assumes nothing.
use Rattle.std.specs.Prelude.{ℕ, ◌+◌, ◌-◌, ◌*◌, Bool, ◌&&◌, leb, Option, Some, None}
use Rattle.book.specs.declared.Entry.{Entry}
use Rattle.strings.specs.Pick.{pick}
use Rattle.strings.specs.Number.{word_of}
use Rattle.records.specs.declared.kinds.Kind.TheVariants.{Five, Even, Odd}
use Rattle.words.specs.Good.{is_good}
use Rattle.book.specs.Entry.{Three, entry_of}

-- N4 and NA of string 5, nA of an even string
abbrev pub four_years : ℕ → ℕ
four_years five = word_of five 36 32

abbrev pub day_in_four : ℕ → ℕ
day_in_four five = word_of five 80 70

abbrev pub slot_in : ℕ → ℕ
slot_in even = word_of even 77 73

-- "Its day is 1461 x (N4-1) + NA"
unfoldable pub day_of : ℕ → ℕ → ℕ
day_of n4 na = 1461 * (n4 - 1) + na

-- "An entry is shown when a held frame has both halves of a pair and string 5, all words of the three in range, and N4 at least 1"
unfoldable pub is_shown : ℕ → ℕ → ℕ → Bool
is_shown five even odd = is_good Five five && (leb 1 (four_years five) && (is_good Even even && is_good Odd odd))

unfoldable pub three_of : ℕ → ℕ → ℕ → Three
three_of five even odd = record { day = day_of (four_years five) (day_in_four five); even = word_of even 80 9; odd = word_of odd 80 10 }

-- nothing, or the slot nA and the entry
unfoldable pub shown_by : ℕ → ℕ → ℕ → Option (ℕ × Entry)
shown_by five even odd = pick (is_shown five even odd) (Some (slot_in even, entry_of (three_of five even odd))) None
