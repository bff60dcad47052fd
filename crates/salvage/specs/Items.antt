-- The parts of a torn file (the request "Salvage torn blocks"): the fields that are kept and the stretches that are skipped. A field is good at a place where a
-- block's reader would not refuse it. For any bytes.
-- Assumes nothing.
use Rattle.std.specs.Prelude.{ℕ, zero, suc, ◌+◌, ◌-◌, Bool, ◌&&◌, ◌||◌, List, [], ◌∷◌, leb, eqb, length, drop}
use Rattle.strings.specs.Pick.{pick}
use Rattle.fields.specs.Fields.{is_good, size_in, size_at}

-- a part of the file, by its first byte, counted from 0, and the count of its bytes
pub data Item : Type 0 where
  Kept : (first count : ℕ) → Item
  Skipped : (first count : ℕ) → Item

abbrev pub first_of : Item → ℕ
first_of (Kept first count) = first
first_of (Skipped first count) = first

abbrev pub count_of : Item → ℕ
count_of (Kept first count) = count
count_of (Skipped first count) = count

-- ---- where it goes on. `rest` is what is left of the file from a place on; behind the good field at its head there is this
abbrev pub behind : List ℕ → List ℕ
behind rest = drop (size_in rest) rest

-- "two whole good fields follow one another"
abbrev pub two_follow : List ℕ → Bool
two_follow rest = is_good rest && is_good (behind rest)

-- "or one whole good field ends the file"
abbrev pub one_ends : List ℕ → Bool
one_ends rest = is_good rest && eqb (length (behind rest)) 0

unfoldable pub resumes : List ℕ → ℕ → Bool
resumes file at = two_follow (drop at file) || one_ends (drop at file)

-- "it moves on one byte at a time to the first place" of n places, from `at` on; behind them where it goes on at none
abbrev pub search_from : List ℕ → ℕ → ℕ → ℕ
search_from file zero at = at
search_from file (suc n) at = pick (resumes file at) at (search_from file n (suc at))

-- "From a place where R-4 would refuse, it moves on", so it starts one byte after it. "Where there is no such place, the rest is skipped": it is the end
unfoldable pub next_place : List ℕ → ℕ → ℕ
next_place file at = search_from file (length file - suc at) (suc at)

-- ---- the file from a place on, as items in its order: at a good place the field, and else what is skipped from there. `more` of them at most
abbrev pub items_from : List ℕ → ℕ → ℕ → List Item
items_from file zero at = []
items_from file (suc more) at =
    pick (leb (length file) at) []
    (pick (eqb (size_at file at) 0)
    (Skipped at (next_place file at - at) ∷ items_from file more (next_place file at))
    (Kept at (size_at file at) ∷ items_from file more (at + size_at file at)))

-- the whole file: no item is empty, so there are no more of them than bytes
unfoldable pub items_of : List ℕ → List Item
items_of file = items_from file (length file) 0
