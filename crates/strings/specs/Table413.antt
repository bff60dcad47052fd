-- Table 4.13 of the ICD as it is printed, and that the position rule makes it: for each sum C_k, the data bits 9..85 that it adds beside check bit k.
-- Assumes nothing.
use Rattle.std.specs.Prelude.{ℕ, zero, suc, ◌+◌, ◌-◌, Bool, true, ◌&&◌, List, [], ◌∷◌, ◌++◌, T, eqb}
use Rattle.std.specs.Bool.{beq}
use Rattle.strings.specs.Pick.{is_one_of}
use Rattle.strings.specs.Number.{bit_of}
use Rattle.strings.specs.Hamming.{position}

-- n numbers from a on
abbrev run : ℕ → ℕ → List ℕ
run a zero = []
run a (suc n) = a ∷ run (a + 1) n

-- "10-12"
infixl 70 ◌to◌
abbrev pub ◌to◌ : ℕ → ℕ → List ℕ
a to b = run a (b + 1 - a)

-- the printed lists
abbrev pub C1 : List ℕ
C1 =
    9 ∷ 10 ∷ 12 ∷ 13 ∷ 15 ∷ 17 ∷ 19 ∷ 20 ∷ 22 ∷ 24 ∷ 26 ∷ 28 ∷ 30 ∷ 32 ∷ 34 ∷ 35 ∷ 37 ∷ 39 ∷ 41 ∷ 43 ∷ 45 ∷ 47 ∷ 49 ∷ 51 ∷ 53 ∷ 55 ∷ 57 ∷ 59 ∷ 61
    ∷ 63 ∷ 65 ∷ 66 ∷ 68 ∷ 70 ∷ 72 ∷ 74 ∷ 76 ∷ 78 ∷ 80 ∷ 82 ∷ 84 ∷ []

abbrev pub C2 : List ℕ
C2 =
    9 ∷ 11 ∷ 12 ∷ 14 ∷ 15 ∷ 18 ∷ 19 ∷ 21 ∷ 22 ∷ 25 ∷ 26 ∷ 29 ∷ 30 ∷ 33 ∷ 34 ∷ 36 ∷ 37 ∷ 40 ∷ 41 ∷ 44 ∷ 45 ∷ 48 ∷ 49 ∷ 52 ∷ 53 ∷ 56 ∷ 57 ∷ 60 ∷ 61
    ∷ 64 ∷ 65 ∷ 67 ∷ 68 ∷ 71 ∷ 72 ∷ 75 ∷ 76 ∷ 79 ∷ 80 ∷ 83 ∷ 84 ∷ []

abbrev pub C3 : List ℕ
C3 = (10 to 12) ++ (16 to 19) ++ (23 to 26) ++ (31 to 34) ++ (38 to 41) ++ (46 to 49) ++ (54 to 57) ++ (62 to 65) ++ (69 to 72) ++ (77 to 80) ++ (85 to 85)

abbrev pub C4 : List ℕ
C4 = (13 to 19) ++ (27 to 34) ++ (42 to 49) ++ (58 to 65) ++ (73 to 80)

abbrev pub C5 : List ℕ
C5 = (20 to 34) ++ (50 to 65) ++ (81 to 85)

abbrev pub C6 : List ℕ
C6 = 35 to 65

abbrev pub C7 : List ℕ
C7 = 66 to 85

-- the position of a bit has the weight 2^(k-1) exactly where the list has the bit
abbrev agrees : ℕ → List ℕ → ℕ → Bool
agrees k l i = beq (eqb (bit_of (position i) k) 1) (is_one_of l i)

abbrev alike : List ℕ → ℕ → List ℕ → Bool
alike [] k l = true
alike (i ∷ is) k l = agrees k l i && alike is k l

-- Table 4.13: each printed list is what the position rule makes of bits 9..85
pub table_4_13 :
    T (alike (9 to 85) 1 C1) × T (alike (9 to 85) 2 C2) × T (alike (9 to 85) 3 C3) × T (alike (9 to 85) 4 C4) × T (alike (9 to 85) 5 C5)
    × T (alike (9 to 85) 6 C6) × T (alike (9 to 85) 7 C7)
unfolding position
table_4_13 = (tt, tt, tt, tt, tt, tt, tt)
