-- The numbers that say no (the paper, "Numbers that say no").
-- Assumes nothing.
use Rattle.std.specs.Prelude.{ℕ, zero, suc, ◌<◌, Bool, false, List, [], ◌∷◌, ◌↔◌, ◌≡◌, T, length, get_or}
use Rattle.strings.specs.declared.Refusal.{Refusal}
use Rattle.strings.specs.declared.Refusal.TheVariants.{Channel, Shape, Damaged, Idle, Number, Early, Stale, OffBeat, Conflict, Range, Place, Room, Nothing, Slot, Owner, Card}
use Rattle.strings.specs.declared.hamming.Damage.{Damage}
use Rattle.strings.specs.declared.hamming.Damage.TheVariants.{Unplaced, Even, Outside}
use Rattle.strings.specs.declared.Verdict.{Verdict}
use Rattle.strings.specs.declared.Verdict.TheVariants.{Clean, Repaired}
use Rattle.strings.specs.Pick.{pick}

-- "31 (S = 0, C = 1), 32 (S not 0, C = 0) and 33 (place above 85)": the number of each cause
abbrev pub damage_number : Damage → ℕ
damage_number Unplaced = 31
damage_number Even = 32
damage_number Outside = 33

-- "A refusal answers its number, with the place for RANGE, and nothing more"
abbrev pub refusal_paper : Refusal → List ℕ
refusal_paper Channel = 1 ∷ []
refusal_paper Shape = 2 ∷ []
refusal_paper (Damaged d) = damage_number d ∷ []
refusal_paper Idle = 4 ∷ []
refusal_paper Number = 5 ∷ []
refusal_paper Early = 6 ∷ []
refusal_paper Stale = 7 ∷ []
refusal_paper OffBeat = 8 ∷ []
refusal_paper Conflict = 9 ∷ []
refusal_paper (Range place) = 10 ∷ place ∷ []
refusal_paper Place = 11 ∷ []
refusal_paper Room = 12 ∷ []
refusal_paper Nothing = 13 ∷ []
refusal_paper Slot = 14 ∷ []
refusal_paper Owner = 15 ∷ []
refusal_paper Card = 16 ∷ []

-- "a verdict (clean, or repaired with its bit number)": its case, 0 or 1, and the bit number, 0 where none
abbrev pub verdict_paper : Verdict → List ℕ
verdict_paper Clean = 0 ∷ 0 ∷ []
verdict_paper (Repaired i) = 1 ∷ i ∷ []

-- one test: the number it gives, the place that goes with it (RANGE), and whether it fits
pub record Test : Type 0 where
  pub number : ℕ
  pub place : List ℕ
  pub fits : Bool

abbrev pub test : ℕ → Bool → Test
test n b = record { number = n; place = []; fits = b }

abbrev pub test_at : ℕ → ℕ → Bool → Test
test_at n place b = record { number = n; place = place ∷ []; fits = b }

-- "The first that fits is given": its number, or 0 where none fits
abbrev pub first_of : List Test → ℕ
first_of [] = 0
first_of (t ∷ ts) = pick t.fits t.number (first_of ts)

-- and its place
abbrev pub place_of : List Test → List ℕ
place_of [] = []
place_of (t ∷ ts) = pick t.fits t.place (place_of ts)

-- the answer: the number with its place, or 0 and what a taken call tells
abbrev pub said_by : ℕ → List ℕ → List ℕ → List ℕ
said_by zero place told = 0 ∷ told
said_by (suc k) place told = suc k ∷ place

abbrev pub answer_of : List Test → List ℕ → List ℕ
answer_of ts told = said_by (first_of ts) (place_of ts) told

-- "Refusals leave outputs untouched"
abbrev pub left_by : ℕ → List ℕ → List ℕ → List ℕ
left_by zero made out = made
left_by (suc k) made out = out

-- a call that tries these tests in this order, with an output of bytes: `said` is its answer in the paper's numbers and `out'` what it leaves,
-- where a taken call tells `told` and makes `made`
pub record Answers (tests : List Test) (told made out said out' : List ℕ) : Type 0 where
  pub answer : said ≡ answer_of tests told
  pub output : out' ≡ left_by (first_of tests) made out

-- the numbers of the tests, in their order
abbrev pub numbers_of : List Test → List ℕ
numbers_of [] = []
numbers_of (t ∷ ts) = t.number ∷ numbers_of ts

-- the j-th test's number, and that it fits
abbrev pub number_at : List Test → ℕ → ℕ
number_at ts j = (get_or ts j (test 0 false)).number

abbrev pub FitsAt : List Test → ℕ → Type 0
FitsAt ts j = T (get_or ts j (test 0 false)).fits

-- "The first that fits is given, and given only then": an answer that begins with the number of a test says that this one fits and none before
-- it does; and one that begins with 0, that none does
pub record Exactly (ts : List Test) (said : List ℕ) : Type 0 where
  pub refused : (j : ℕ) → j < length ts → (get_or said 0 0 ≡ number_at ts j) ↔ (FitsAt ts j × ((i : ℕ) → i < j → FitsAt ts i → ⊥))
  pub taken : (get_or said 0 0 ≡ 0) ↔ ((i : ℕ) → i < length ts → FitsAt ts i → ⊥)
