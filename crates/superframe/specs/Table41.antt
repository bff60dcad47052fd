-- ICD Table 4.1: which almanac entries stand in which strings of a superframe. A frame is g, 0 to 4, where the ICD counts frames 1 to 5.
-- Assumes nothing.
use Rattle.std.specs.Prelude.{ℕ, ◌+◌, ◌-◌, ◌*◌, ◌/◌, ◌%◌, ◌≤◌, ◌<◌, true, List, [], ◌∷◌, ◌≡◌}
use Rattle.strings.specs.Pick.{is_one_of}

-- the first strings of the five pairs of a frame
abbrev pub pairs : List ℕ
pairs = 6 ∷ 8 ∷ 10 ∷ 12 ∷ 14 ∷ []

-- the slot of the strings p and p + 1 of frame g: frame 1 has the slots 1 to 5, frame 2 the slots 6 to 10, and so on
abbrev pub slot_of_pair : ℕ → ℕ → ℕ
slot_of_pair g p = 5 * g + (p - 4) / 2

-- and back: a slot's frame, and its even string
abbrev pub frame_of_slot : ℕ → ℕ
frame_of_slot k = (k - 1) / 5

abbrev pub pair_of_slot : ℕ → ℕ
pair_of_slot k = 6 + 2 * ((k - 1) % 5)

-- frame g has a pair at p: frame 5 has no fifth
abbrev pub HasSlot : ℕ → ℕ → Type 0
HasSlot g p = (g < 5) × ((is_one_of pairs p ≡ true) × (p ≡ 14 → g < 4))

-- each slot 1..24 has exactly one pair of places, and each pair a slot. Proved as `table_4_1` in `proofs/Table41.antt`
pub record Table41 : Type 0 where
  pub there : (k : ℕ) → 1 ≤ k → k ≤ 24 → HasSlot (frame_of_slot k) (pair_of_slot k) × (slot_of_pair (frame_of_slot k) (pair_of_slot k) ≡ k)
  pub slot : (g p : ℕ) → HasSlot g p → (1 ≤ slot_of_pair g p) × (slot_of_pair g p ≤ 24)
  pub only : (g p : ℕ) → HasSlot g p → (frame_of_slot (slot_of_pair g p) ≡ g) × (pair_of_slot (slot_of_pair g p) ≡ p)
