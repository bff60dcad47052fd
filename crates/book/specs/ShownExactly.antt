-- When three strings show an entry, and which, in their bits (the paper, "Frames and the book"; Tables 4.5 and 4.9 give the places): "all words of
-- the three in range, and N4 at least 1". The proof stands in `proofs/ShownExactly.antt`.
-- Assumes nothing.
use Rattle.std.specs.Prelude.{ℕ, ◌+◌, ◌-◌, ◌*◌, ◌^◌, ◌≤◌, ◌↔◌, ◌⊎◌, ◌≡◌, Option, Some}
use Rattle.strings.specs.Number.{word_of}
use Rattle.book.specs.declared.Entry.{Entry}
use Rattle.book.specs.Shows.{shown_by}

-- an entry, and not nothing
pub record SomeEntry (s : Option (ℕ × Entry)) : Type 0 where
  pub slot : ℕ
  pub entry : Entry
  pub is : s ≡ Some (slot, entry)

-- string 5, an even and an odd string, in range: "NA 1..1461; nA 1..24; H 0..13, or 25..31", and "N4 at least 1"
pub record InRange (five even odd : ℕ) : Type 0 where
  pub na_least : 1 ≤ word_of five 80 70
  pub na_most : word_of five 80 70 ≤ 1461
  pub n4_least : 1 ≤ word_of five 36 32
  pub n_a_least : 1 ≤ word_of even 77 73
  pub n_a_most : word_of even 77 73 ≤ 24
  pub H : (word_of odd 14 10 ≤ 13) ⊎ (25 ≤ word_of odd 14 10)

-- what they show: "Its day is 1461 x (N4-1) + NA", "the even string's bits 80..9", "the odd string's bits 80..10"
pub record EntryShown (five even odd slot : ℕ) (e : Entry) : Type 0 where
  pub n_a : slot ≡ word_of even 77 73
  pub day : e.day ≡ (word_of five 36 32 - 1) * 1461 + word_of five 80 70
  pub even_bits : e.etop * 2 ^ 64 + e.even ≡ word_of even 80 9
  pub odd_bits : e.otop * 2 ^ 64 + e.odd ≡ word_of odd 80 10

pub record ShownExactly (five even odd : ℕ) : Type 0 where
  pub exactly : SomeEntry (shown_by five even odd) ↔ InRange five even odd
  pub what : (slot : ℕ) (e : Entry) → shown_by five even odd ≡ Some (slot, e) → EntryShown five even odd slot e
