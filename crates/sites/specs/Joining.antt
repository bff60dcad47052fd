-- Joining the books of two sites (request 13): "Joining takes, slot by slot, the greater entry by the existing comparison." Of any two books. The laws are
-- proved as `join_laws` in `proofs/Laws.antt`.
-- Assumes nothing.
use Rattle.std.specs.Prelude.{ℕ, ◌≤◌, false, map, ◌⊎◌, ◌↔◌, ◌≡◌}
use Rattle.strings.specs.Table413.{◌to◌}
use Rattle.book.specs.declared.Entry.{Entry}
use Rattle.book.specs.declared.Book.{Book}
use Rattle.book.specs.Entry.{meaning, is_below, greater}
use Rattle.book.specs.Book.{slots, in_slot, empty_book, IsBook}
use Rattle.summary.specs.Walk.{walk_of}
use Rattle.station.specs.declared.Station.{Station}

-- what a slot keeps of two entries: "the greater entry by the existing comparison"
abbrev pub kept_of : Entry → Entry → Entry
kept_of a b = greater a b

-- "slot by slot"
unfoldable pub join_books : Book → Book → Book
join_books a b = record { entries = map (λ k. kept_of (in_slot a k) (in_slot b k)) (1 to slots) }

-- a station after another site's book is joined into its own: "The summary of R-5 is rebuilt for the joined book"; the rows, with their records and
-- tallies, stay
unfoldable pub site_joined : Station → Book → Station
site_joined st other = record { rows = st.rows; book = join_books st.book other; summary = walk_of (join_books st.book other).entries }

-- a slot of the joined book
pub record SlotJoined (a b : Book) (k : ℕ) : Type 0 where
  -- it is the greater of the two: one of them, and below neither
  pub is : in_slot (join_books a b) k ≡ greater (in_slot a k) (in_slot b k)
  pub one_of : (in_slot (join_books a b) k ≡ in_slot a k) ⊎ (in_slot (join_books a b) k ≡ in_slot b k)
  pub first : is_below (meaning (in_slot (join_books a b) k)) (meaning (in_slot a k)) ≡ false
  pub second : is_below (meaning (in_slot (join_books a b) k)) (meaning (in_slot b k)) ≡ false
  -- it is empty exactly where both are: day 0 is no entry, whatever the bits
  pub empty : ((in_slot (join_books a b) k).day ≡ 0) ↔ (((in_slot a k).day ≡ 0) × ((in_slot b k).day ≡ 0))

pub record JoinLaws : Type 0 where
  pub slot : (a b : Book) (k : ℕ) → 1 ≤ k → k ≤ slots → SlotJoined a b k
  pub book : (a b : Book) → IsBook a → IsBook b → IsBook (join_books a b)
  -- "joining is indifferent to order and grouping"
  pub order : (a b : Book) → IsBook a → IsBook b → join_books a b ≡ join_books b a
  pub grouping : (a b c : Book) → join_books (join_books a b) c ≡ join_books a (join_books b c)
  -- "a book joined with itself is itself", and so it is with an empty one
  pub itself : (b : Book) → IsBook b → join_books b b ≡ b
  pub empty_second : (b : Book) → IsBook b → join_books b empty_book ≡ b
  pub empty_first : (b : Book) → IsBook b → join_books empty_book b ≡ b
