-- The check of a string: positions, sums, ruling and check bits (the paper, "Check positions"; ICD 4.7, Table 4.13).
-- Assumes nothing.
use Rattle.std.specs.Prelude.{ℕ, zero, suc, ◌+◌, ◌-◌, ◌*◌, ◌%◌, ◌^◌, ◌≤◌, ◌<◌, Bool, true, false, ◌&&◌, List, ◌≡◌, leb, eqb, Result, Ok, Err}
use Rattle.strings.specs.declared.hamming.Damage.{Damage}
use Rattle.std.specs.Int.Bits.{bit_xor}
use Rattle.strings.specs.declared.Verdict.{Verdict}
use Rattle.strings.specs.declared.Verdict.TheVariants.{Clean, Repaired}
use Rattle.strings.specs.declared.hamming.Damage.TheVariants.{Unplaced, Even, Outside}
use Rattle.strings.specs.Pick.{pick}
use Rattle.strings.specs.Number.{bit_of, number_from_bits, flip, bytes_of_string}

-- "Bit i has a position: 9 has 3; 10..12 have i-5; 13..19 i-4; 20..34 i-3; 35..65 i-2; 66..85 i-1. Check bit k, 1..7, has 2^(k-1); bit 8 has 0"
unfoldable pub position : ℕ → ℕ
position i =
    pick (leb i 7) (2 ^ (i - 1))
    (pick (eqb i 8) 0
    (pick (eqb i 9) 3
    (pick (leb i 12) (i - 5)
    (pick (leb i 19) (i - 4)
    (pick (leb i 34) (i - 3)
    (pick (leb i 65) (i - 2)
    (i - 1)))))))

-- the bits 1..m of n, each times w of its number, added
abbrev pub add_up : (ℕ → ℕ) → ℕ → ℕ → ℕ
add_up w n zero = 0
add_up w n (suc m) = add_up w n m + w (suc m) * bit_of n (suc m)

-- "Sum C_k (k = 1..7) adds, modulo 2, all bits whose position has the weight 2^(k-1)": bit k of the position is 1
unfoldable pub sum_c : ℕ → ℕ → ℕ
sum_c k n = add_up (λ i. bit_of (position i) k) n 85 % 2

-- "The sum C adds all 85 bits"
unfoldable pub sum_all : ℕ → ℕ
sum_all n = add_up (λ i. 1) n 85 % 2

-- "Read C7..C1 as a number S"
unfoldable pub syndrome : ℕ → ℕ
syndrome n = number_from_bits (λ k. sum_c k n) 7

-- how many of C1..C7 are set; C_k is bit k of S
unfoldable pub sums_set : ℕ → ℕ
sums_set s = add_up (λ k. 1) s 7

-- the highest of the sums k..1 that is set; 0 where none is
abbrev pub highest_of : ℕ → ℕ → ℕ
highest_of zero s = 0
highest_of (suc k) s = pick (eqb (bit_of s (suc k)) 1) (suc k) (highest_of k s)

-- "K being the highest set sum"
unfoldable pub highest : ℕ → ℕ
highest s = highest_of 7 s

-- "C = 1, two or more set: bit S+8-K is inverted .. if S+8-K is at most 85"
unfoldable pub placed : ℕ → Result Verdict Damage
placed i = pick (leb i 85) (Ok (Repaired i)) (Err Outside)

-- "S = 0 and C = 0: clean. C = 1, exactly one of C1..C7 set: that check bit is wrong and is repaired. C = 1, two or more set: bit S+8-K ..
-- Everything else is DAMAGED": S not 0 with C = 0, and S = 0 with C = 1
unfoldable pub judge : ℕ → ℕ → Result Verdict Damage
judge s c =
    pick (eqb s 0 && eqb c 0) (Ok Clean)
    (pick (eqb c 1 && eqb (sums_set s) 1) (Ok (Repaired (highest s)))
    (pick (eqb c 1 && leb 2 (sums_set s)) (placed (s + 8 - highest s))
    (pick (eqb c 0) (Err Even) (Err Unplaced))))

-- the ruling on a string
unfoldable pub ruling : ℕ → Result Verdict Damage
ruling n = judge (syndrome n) (sum_all n)

-- DAMAGED: "check rule"
abbrev pub is_damaged : Result Verdict Damage → Bool
is_damaged (Ok v) = false
is_damaged (Err d) = true

-- what a ruling leaves of a string: the repair is made, and nothing else moves
abbrev pub mended_by : Result Verdict Damage → ℕ → ℕ
mended_by (Ok Clean) n = n
mended_by (Ok (Repaired i)) n = flip n i
mended_by (Err d) n = n

-- the bit that a verdict names, where it names one, is a bit of a string
abbrev pub NamesBit : Verdict → Type 0
NamesBit Clean = Unit
NamesBit (Repaired i) = (1 ≤ i) × (i ≤ 85)

-- the string as the check leaves it
unfoldable pub mended : ℕ → ℕ
mended n = mended_by (ruling n) n

-- an encoded string: every sum is 0
pub record Encoded (n : ℕ) : Type 0 where
  pub sums : syndrome n ≡ 0
  pub all : sum_all n ≡ 0

-- the bytes of an encoded string whose idle bit is 0
pub record Whole (s : List ℕ) : Type 0 where
  pub number : ℕ
  pub small : number < 2 ^ 85
  pub bytes : s ≡ bytes_of_string number
  pub encoded : Encoded number
  pub idle : bit_of number 85 ≡ 0

-- the string with check bit k turned where C_k is 1, 1..7: check bit k and C_k have one weight
unfoldable pub sums_made : ℕ → ℕ
sums_made n = bit_xor n (syndrome n)

-- the encoded string with the same bits 85..9: then bit 8 is turned where C is 1
unfoldable pub encode : ℕ → ℕ
encode n = bit_xor (sums_made n) (sum_all (sums_made n) * 2 ^ 7)
