-- Which words are refused (request 12): "18 when the entries are not slots 1..24 in order; 10 with the string's place 1..75, also for N4 = 0".
-- Assumes nothing.
use Rattle.std.specs.Prelude.{ℕ, zero, suc, ◌≤◌, ◌<◌, Bool, true, false, not, ◌&&◌, ◌||◌, ◌≡◌, eqb, ℤ, pos, negsuc, Result, Ok, Err, ⊤}
use Rattle.strings.specs.declared.Refusal.{Refusal}
use Rattle.strings.specs.Pick.{pick}
use Rattle.records.specs.Records.{kind_of, list_of}
use Rattle.layout.specs.Layout.{layout}
use Rattle.words.specs.Values.{first_bad}
use Rattle.superframe.specs.declared.Sky.{Sky}
use Rattle.superframe.specs.Sky.{entry_at, record_in, frame_at, string_number}

-- a word has the value k
abbrev pub is_number : ℤ → ℕ → Bool
is_number (pos n) k = eqb n k
is_number (negsuc n) k = false

-- "18 when the entries are not slots 1..24 in order": entry k, for some k from 1 to n, does not carry nA k
unfoldable pub wrong_slot : Sky → ℕ → Bool
wrong_slot sky zero = false
wrong_slot sky (suc n) = wrong_slot sky n || not (is_number (entry_at sky (suc n)).even.na (suc n))

-- the encoder refuses the words of string m of frame g
abbrev pub words_bad : Sky → ℕ → ℕ → Bool
words_bad sky g m = not (eqb (first_bad (layout (kind_of (record_in sky g m))) (list_of (record_in sky g m))) 0)

-- string i is refused; "also for N4 = 0", in string 5
unfoldable pub string_bad : Sky → ℕ → Bool
string_bad sky i = words_bad sky (frame_at i) (string_number i) || (eqb i 5 && is_number sky.five.n4 0)

-- the lowest such string from 1 to n, 0 where there is none
unfoldable pub lowest_bad : Sky → ℕ → ℕ
lowest_bad sky zero = 0
lowest_bad sky (suc n) = pick (eqb (lowest_bad sky n) 0) (pick (string_bad sky (suc n)) (suc n) 0) (lowest_bad sky n)

-- an answer of the encoder says no
abbrev pub is_refused : Result ⊤ Refusal → Bool
is_refused (Ok _) = false
is_refused (Err r) = true

-- ---- what it means. Words that are not refused: entry k carries nA k, the encoder takes every string, and N4 is stated
pub record Makes (sky : Sky) : Type 0 where
  pub slots : (k : ℕ) → 1 ≤ k → k ≤ 24 → (entry_at sky k).even.na ≡ pos k
  pub range : (g m : ℕ) → g < 5 → 1 ≤ m → m ≤ 15 → first_bad (layout (kind_of (record_in sky g m))) (list_of (record_in sky g m)) ≡ 0
  pub stated : sky.five.n4 ≡ pos 0 → ⊥

-- string i, 1..n, is the lowest that is refused
pub record Lowest (sky : Sky) (n i : ℕ) : Type 0 where
  pub least : 1 ≤ i
  pub most : i ≤ n
  pub bad : string_bad sky i ≡ true
  pub none : (j : ℕ) → 1 ≤ j → j < i → string_bad sky j ≡ false

-- Proved as `refusals` in `proofs/Lowest.antt`
pub record Refusals (sky : Sky) : Type 0 where
  -- words are made a sky of exactly where neither test fits
  pub makes : wrong_slot sky 24 ≡ false → lowest_bad sky 75 ≡ 0 → Makes sky
  pub made : Makes sky → (wrong_slot sky 24 ≡ false) × (lowest_bad sky 75 ≡ 0)
  -- the place told is that of the lowest string that is refused
  pub told : (lowest_bad sky 75 ≡ 0 → ⊥) → Lowest sky 75 (lowest_bad sky 75)
  -- and never 75: of its own words string 15 of frame 5 has l alone, which is string 5's
  pub never_75 : lowest_bad sky 75 ≡ 75 → ⊥
