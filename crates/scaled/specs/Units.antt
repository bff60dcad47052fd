-- The signed words of the eight kinds, numbered from 1 in the paper's order, and their units (ICD Tables 4.5 and 4.9). t lambda and epsilon have no sign and are
-- not among them. The units themselves are held against the tables in Known.antt.
-- Assumes nothing.
use Rattle.std.specs.Prelude.{ℕ, suc, ◌-◌, ◌≤◌, ◌<◌, List, [], ◌∷◌, ◌++◌, ◌≡◌, ℤ, get_or}
use Rattle.records.specs.declared.kinds.Kind.{Kind}
use Rattle.records.specs.declared.kinds.Kind.TheVariants.{One, Two, Three, Four, Five, Even, Odd, Fourteen}
use Rattle.layout.specs.declared.table.Form.{Form}
use Rattle.layout.specs.declared.table.Form.TheVariants.{Plain, Signed, Time, Interval, Day, Slot, Carrier}
use Rattle.layout.specs.Layout.{layout, none, width}
use Rattle.layout.specs.Forms.{forms_of}
use Rattle.scaled.specs.declared.table.SignedWord.{SignedWord}
use Rattle.scaled.specs.Scaled.{Holds, Exact}

-- each by its kind, its place in that kind, and its unit, 2 ^ -unit
unfoldable pub units : List SignedWord
units =
    -- string 1: x velocity, x acceleration, x
    (One, 2, 20) ∷ (One, 3, 30) ∷ (One, 4, 11)
    -- string 2: y velocity, y acceleration, y
    ∷ (Two, 3, 20) ∷ (Two, 4, 30) ∷ (Two, 5, 11)
    -- string 3: gamma, z velocity, z acceleration, z
    ∷ (Three, 1, 40) ∷ (Three, 4, 20) ∷ (Three, 5, 30) ∷ (Three, 6, 11)
    -- string 4: tau, delta tau
    ∷ (Four, 0, 30) ∷ (Four, 1, 30)
    -- string 5: tau c, tau GPS
    ∷ (Five, 1, 31) ∷ (Five, 3, 30)
    -- even 6..14: tau A, lambda, delta i
    ∷ (Even, 3, 18) ∷ (Even, 4, 20) ∷ (Even, 5, 20)
    -- odd 7..15: omega, delta T, its rate
    ∷ (Odd, 0, 15) ∷ (Odd, 2, 9) ∷ (Odd, 3, 14)
    -- frame 5, string 14: B1, B2
    ∷ (Fourteen, 0, 10) ∷ (Fourteen, 1, 16)
    ∷ []

-- the word of a number, counted from 1
abbrev pub numbered : ℕ → SignedWord
numbered number = get_or units (number - 1) (One, 0, 0)

abbrev pub kind_at : ℕ → Kind
kind_at number = (numbered number).0

abbrev pub place_at : ℕ → ℕ
place_at number = (numbered number).1

abbrev pub unit_at : ℕ → ℕ
unit_at number = (numbered number).2

-- what the code's table answers: that word. A kind has eight places, and "units 2^-5 to 2^-40"
pub record IsListed (number : ℕ) (w : SignedWord) : Type 0 where
  pub is : w ≡ numbered number
  pub place : w.1 < 8
  pub least : 5 ≤ w.2
  pub most : w.2 ≤ 40

-- ---- "each signed word": the words of the layout that are sign and magnitude, kind by kind from the highest bit number down
abbrev pub signed_from : Kind → ℕ → List Form → List (Kind × ℕ)
signed_from k j [] = []
signed_from k j (Plain ∷ fs) = signed_from k (suc j) fs
signed_from k j (Signed ∷ fs) = (k, j) ∷ signed_from k (suc j) fs
signed_from k j (Time ∷ fs) = signed_from k (suc j) fs
signed_from k j (Interval ∷ fs) = signed_from k (suc j) fs
signed_from k j (Day ∷ fs) = signed_from k (suc j) fs
signed_from k j (Slot ∷ fs) = signed_from k (suc j) fs
signed_from k j (Carrier ∷ fs) = signed_from k (suc j) fs

abbrev pub signed_words : List Kind → List (Kind × ℕ)
signed_words [] = []
signed_words (k ∷ ks) = signed_from k 0 (forms_of (layout k)) ++ signed_words ks

abbrev pub places_of : List SignedWord → List (Kind × ℕ)
places_of [] = []
places_of (w ∷ ws) = (w.0, w.1) ∷ places_of ws

-- the table has exactly these, in this order: none is left out and none stands twice. Proved as `all_signed`
abbrev pub AllSigned : Type 0
AllSigned = places_of units ≡ signed_words (One ∷ Two ∷ Three ∷ Four ∷ Five ∷ Even ∷ Odd ∷ Fourteen ∷ [])

-- ---- each of them is exact at its unit, whatever its bits hold. Proved as `each_exact`, from the one law and with no case for a word
abbrev pub EachWord : Type 0
EachWord = (number : ℕ) (raw : ℤ) → 1 ≤ number → number ≤ 22 → Holds (width (get_or (layout (kind_at number)) (place_at number) none)) raw → Exact raw (unit_at number)
