-- What the three programs write of the items of a torn file. For any bytes.
-- Assumes nothing.
use Rattle.std.specs.Prelude.{ℕ, ◌+◌, ◌-◌, List, [], ◌∷◌, ◌++◌, eqb, get_or, take, drop}
use Rattle.strings.specs.Pick.{pick}
use Rattle.digits.specs.Text.{row}
use Rattle.salvage.specs.Items.{Item, Kept, Skipped}
use Rattle.windows.specs.declared.Wanted.{Wanted}
use Rattle.windows.specs.declared.Wanted.TheVariants.{Fields, Stretches, Records}

-- ---- of one item
-- "It writes the fields found, unchanged"
abbrev pub field_of : List ℕ → Item → List ℕ
field_of file (Kept at n) = take n (drop at file)
field_of file (Skipped at n) = []

-- "and a list of the skipped stretches: first byte and count": a line of the two numbers
abbrev pub line_of : Item → List ℕ
line_of (Kept at n) = []
line_of (Skipped at n) = row (at ∷ n ∷ [])

-- what stands behind tag and length of an offer, which is a record of the listing; resets and remarks are left out
abbrev pub record_of : List ℕ → Item → List ℕ
record_of file (Kept at n) = pick (eqb (get_or file at 0) 1) (take (n - 3) (drop (at + 3) file)) []
record_of file (Skipped at n) = []

abbrev pub shown_of : Wanted → List ℕ → Item → List ℕ
shown_of Fields file item = field_of file item
shown_of Stretches file item = line_of item
shown_of Records file item = record_of file item

-- ---- of items, one after the other
unfoldable pub shown : Wanted → List ℕ → List Item → List ℕ
shown wanted file [] = []
shown wanted file (item ∷ items) = shown_of wanted file item ++ shown wanted file items
