-- The rules of the request for the items of a torn file, with no word of how they are found: whoever believes these need not believe `items_of`, for no other
-- items keep them (`Laws.by_rules`).
-- Assumes nothing.
use Rattle.std.specs.Prelude.{ℕ, ◌+◌, ◌≤◌, ◌<◌, true, false, List, [], ◌∷◌, ◌≡◌, length}
use Rattle.fields.specs.Fields.{size_at}
use Rattle.salvage.specs.Items.{Item, Kept, Skipped, first_of, count_of, resumes}

-- "each byte once and in order": the first item starts at `from`, none is empty, each starts where the one before it ends, and the last ends at `to`
abbrev pub Follow : ℕ → List Item → ℕ → Type 0
Follow from [] to = from ≡ to
Follow from (i ∷ is) to = (first_of i ≡ from) × ((0 < count_of i) × Follow (from + count_of i) is to)

-- "the first place" after a refused one where it goes on; the end of the file "where there is no such place"
pub record First (file : List ℕ) (refused place : ℕ) : Type 0 where
  pub after : refused < place
  pub within : place ≤ length file
  pub none_before : (k : ℕ) → refused < k → k < place → resumes file k ≡ false
  pub here : place < length file → resumes file place ≡ true

-- what is kept is the good field at its place; what is skipped starts "from a place where R-4 would refuse" and ends at the first place to go on
abbrev pub RightItem : List ℕ → Item → Type 0
RightItem file (Kept at n) = (0 < n) × (size_at file at ≡ n)
RightItem file (Skipped at n) = (size_at file at ≡ 0) × First file at (at + n)

abbrev pub Right : List ℕ → List Item → Type 0
Right file [] = Unit
Right file (i ∷ is) = RightItem file i × Right file is

-- the items of a file by the rules
pub record Keeps (file : List ℕ) (items : List Item) : Type 0 where
  pub follow : Follow 0 items (length file)
  pub right : Right file items
