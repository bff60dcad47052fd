-- RANGE in numbers (the paper, "Words" and "Numbers that say no"): the first word that fails, the ranges in the bits of a string, and both ends of
-- every word. What is proved of them is in proofs/Ranges.antt.
-- Assumes nothing.
use Rattle.std.specs.Prelude.{ℕ, ◌+◌, ◌*◌, ◌<◌, Bool, true, false, ◌&&◌, ◌||◌, List, [], ◌∷◌, ◌≡◌, leb, ltb, ℤ, pos, neg_ℤ, length, get_or}
use Rattle.std.proofs.Math.IntN.{suc_ℤ, pred_ℤ}
use Rattle.strings.specs.Number.{word_of}
use Rattle.layout.specs.declared.table.Word.{Word}
use Rattle.records.specs.declared.kinds.Kind.{Kind}
use Rattle.records.specs.declared.kinds.Kind.TheVariants.{One, Two, Three, Four, Five, Even, Odd, Fourteen}
use Rattle.layout.specs.Layout.{none}
use Rattle.words.specs.Values.{in_range}

-- ---- "RANGE names the first word that fails, from the highest bit number down, by that word's top bit number"
-- over any list of words: the j-th value is out of range, and every one before it is in range
pub record FirstOut (ws : List Word) (zs : List ℤ) (p : ℕ) : Type 0 where
  pub index : ℕ
  pub there : index < length ws
  pub names : p ≡ (get_or ws index none).top
  pub fails : in_range (get_or ws index none) (get_or zs index (pos 0)) ≡ false
  pub before : (i : ℕ) → i < index → in_range (get_or ws i none) (get_or zs i (pos 0)) ≡ true

-- ---- "Only these ranges refuse"
-- "hour 0..23; minute 0..59; tb raw 1..95 (15 to 1425 minutes); NA 1..1461; nA 1..24; H 0..13, or 25..31": in the bits of a string
abbrev pub readable : ℕ → Kind → Bool
readable n One = ltb (word_of n 76 72) 24 && ltb (word_of n 71 66) 60
readable n Two = leb 1 (word_of n 76 70) && leb (word_of n 76 70) 95
readable n Three = true
readable n Four = true
readable n Five = leb 1 (word_of n 80 70) && leb (word_of n 80 70) 1461
readable n Even = leb 1 (word_of n 77 73) && leb (word_of n 77 73) 24
readable n Odd = leb (word_of n 14 10) 13 || leb 25 (word_of n 14 10)
readable n Fourteen = true

-- the only place at which what is read may fail: tk, tb, NA, nA, H; strings 3 and 4 and string 14 of frame 5 have none
abbrev pub may_fail : Kind → ℕ
may_fail One = 76
may_fail Two = 76
may_fail Three = 0
may_fail Four = 0
may_fail Five = 80
may_fail Even = 77
may_fail Odd = 14
may_fail Fourteen = 0

-- ---- both ends of every word
pub record Ends : Type 0 where
  pub least : ℤ
  pub most : ℤ

abbrev pub up_to : ℕ → Ends
up_to n = record { least = pos 0; most = pos n }

abbrev pub one_to : ℕ → Ends
one_to n = record { least = pos 1; most = pos n }

abbrev pub around : ℕ → Ends
around n = record { least = neg_ℤ (pos n); most = pos n }

-- 23:59:30
abbrev pub last_time : ℕ
last_time = 23 * 128 + 59 * 2 + 1

-- the ends in numbers, as the table of the paper gives them: "A signed word of w bits runs from -(2^(w-1)-1) to 2^(w-1)-1"
abbrev pub ends_of : Kind → List Ends
ends_of One = up_to 3 ∷ up_to last_time ∷ around 8388607 ∷ around 15 ∷ around 67108863 ∷ []
ends_of Two = up_to 7 ∷ up_to 1 ∷ one_to 95 ∷ around 8388607 ∷ around 15 ∷ around 67108863 ∷ []
ends_of Three = up_to 1 ∷ around 1023 ∷ up_to 3 ∷ up_to 1 ∷ around 8388607 ∷ around 15 ∷ around 67108863 ∷ []
ends_of Four = around 2097151 ∷ around 15 ∷ up_to 31 ∷ up_to 1 ∷ up_to 15 ∷ up_to 2047 ∷ up_to 31 ∷ up_to 3 ∷ []
ends_of Five = one_to 1461 ∷ around 2147483647 ∷ up_to 31 ∷ around 2097151 ∷ up_to 1 ∷ []
ends_of Even = up_to 1 ∷ up_to 3 ∷ one_to 24 ∷ around 511 ∷ around 1048575 ∷ around 131071 ∷ up_to 32767 ∷ []
ends_of Odd = around 32767 ∷ up_to 2097151 ∷ around 2097151 ∷ around 63 ∷ record { least = neg_ℤ (pos 7); most = pos 13 } ∷ up_to 1 ∷ []
ends_of Fourteen = around 1023 ∷ around 511 ∷ up_to 3 ∷ []

-- the least and the greatest value are in range; one below and one above are not
pub record AtEnds (w : Word) (e : Ends) : Type 0 where
  pub least_in : in_range w e.least ≡ true
  pub most_in : in_range w e.most ≡ true
  pub below_out : in_range w (pred_ℤ e.least) ≡ false
  pub above_out : in_range w (suc_ℤ e.most) ≡ false

-- what fills the eight places holds 0 alone
abbrev pub end_at : Kind → ℕ → Ends
end_at k j = get_or (ends_of k) j (up_to 0)

-- tk: "hour (5 bits), minute (6), half minute (1)", "hour 0..23; minute 0..59"
pub record TimeOfDay (z : ℤ) : Type 0 where
  pub hours : ℕ
  pub minutes : ℕ
  pub halves : ℕ
  pub hours_lt : hours < 24
  pub minutes_lt : minutes < 60
  pub halves_lt : halves < 2
  pub is : z ≡ pos (hours * 128 + minutes * 2 + halves)
