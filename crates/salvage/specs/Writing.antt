-- What of the items of a file is written, where the output has room for so many bytes and the list for so many stretches, and the call's answer.
-- Assumes nothing.
use Rattle.std.specs.Prelude.{ℕ, suc, ◌-◌, ◌/◌, List, [], ◌∷◌, ◌++◌, ◌≡◌, leb, length, take, drop, Result, Ok, Err, ⊤}
use Rattle.salvage.specs.declared.Full.{Full}
use Rattle.strings.specs.Pick.{pick}
use Rattle.salvage.specs.declared.Full.TheVariants.{Output as OutputFull, List as ListFull}
use Rattle.salvage.specs.declared.Salvaged.{Salvaged}
use Rattle.salvage.specs.Items.{Item, Kept, Skipped, items_of}

-- ---- "it stops before that item": the items before the first for which there is no room
abbrev pub fitting : (room slots : ℕ) → List Item → List Item
fitting room slots [] = []
fitting room slots (Kept at n ∷ is) = pick (leb n room) (Kept at n ∷ fitting (room - n) slots is) []
fitting room slots (Skipped at n ∷ is) = pick (leb 1 slots) (Skipped at n ∷ fitting room (slots - 1) is) []

-- "44 no room in the output for the next field, 45 no room for the next stretch; it stops .. and says at which byte", which is the item's first
abbrev pub end_of : (room slots : ℕ) → List Item → Result ⊤ Full
end_of room slots [] = Ok tt
end_of room slots (Kept at n ∷ is) = pick (leb n room) (end_of (room - n) slots is) (Err (OutputFull at))
end_of room slots (Skipped at n ∷ is) = pick (leb 1 slots) (end_of room (slots - 1) is) (Err (ListFull at))

abbrev pub end_number : Result ⊤ Full → ℕ
end_number (Ok _) = 0
end_number (Err (OutputFull at)) = 44
end_number (Err (ListFull at)) = 45

-- ---- "It writes the fields found, unchanged"
abbrev pub kept_bytes : List ℕ → List Item → List ℕ
kept_bytes file [] = []
kept_bytes file (Kept at n ∷ is) = take n (drop at file) ++ kept_bytes file is
kept_bytes file (Skipped at n ∷ is) = kept_bytes file is

-- "and a list of the skipped stretches: first byte and count", two numbers each
abbrev pub stretches : List Item → List ℕ
stretches [] = []
stretches (Kept at n ∷ is) = stretches is
stretches (Skipped at n ∷ is) = at ∷ n ∷ stretches is

abbrev pub skips : List Item → ℕ
skips [] = 0
skips (Kept at n ∷ is) = skips is
skips (Skipped at n ∷ is) = suc (skips is)

-- a list has room for half as many stretches as it has numbers
abbrev pub slots_of : List ℕ → ℕ
slots_of list = length list / 2

-- ---- what is written over the front of what stood there; all behind it stays
abbrev pub laid : List ℕ → List ℕ → List ℕ
laid new old = new ++ drop (length new) old

-- how many bytes and how many stretches are written, and the end
abbrev pub answer_of : List ℕ → List Item → (room slots : ℕ) → Salvaged
answer_of file items room slots =
    record {
      written = length (kept_bytes file (fitting room slots items));
      stretches = skips (fitting room slots items);
      ended = end_of room slots items;
    }

-- items of a file written to an output and a list: the answer, and every byte and every number that is left
pub record Writes (file : List ℕ) (items : List Item) (out list : List ℕ) (r : Salvaged) (out' list' : List ℕ) : Type 0 where
  pub answer : r ≡ answer_of file items (length out) (slots_of list)
  pub output : out' ≡ laid (kept_bytes file (fitting (length out) (slots_of list) items)) out
  pub listed : list' ≡ laid (stretches (fitting (length out) (slots_of list) items)) list

-- a file salvaged
abbrev pub Salvages : (file out list : List ℕ) (r : Salvaged) (out' list' : List ℕ) → Type 0
Salvages file out list r out' list' = Writes file (items_of file) out list r out' list'
