-- Tables 4.5 and 4.9 of the ICD: the number of bits of each word. With the reserved bits of Table 4.12 (Reserved.antt) they hold every word of the
-- layout to its place, from outside.
-- Assumes nothing.
use Rattle.std.specs.Prelude.{ℕ, Bool, true, false, ◌&&◌, List, [], ◌∷◌, T, eqb}
use Rattle.layout.specs.declared.table.Word.{Word}
use Rattle.records.specs.declared.kinds.Kind.{Kind}
use Rattle.records.specs.declared.kinds.Kind.TheVariants.{One, Two, Three, Four, Five, Even, Odd, Fourteen}
use Rattle.layout.specs.Layout.{layout}
use Rattle.layout.specs.Layout.{width}

-- the column "No. of bits", from the highest bit number down
abbrev pub bits : Kind → List ℕ
-- P1, tk (5, 6 and 1), x velocity, x acceleration, x
bits One = 2 ∷ 12 ∷ 24 ∷ 5 ∷ 27 ∷ []
-- B, P2, tb, y velocity, y acceleration, y
bits Two = 3 ∷ 1 ∷ 7 ∷ 24 ∷ 5 ∷ 27 ∷ []
-- P3, gamma, P, l, z velocity, z acceleration, z
bits Three = 1 ∷ 11 ∷ 2 ∷ 1 ∷ 24 ∷ 5 ∷ 27 ∷ []
-- tau, delta tau, E, P4, FT, NT, n, M
bits Four = 22 ∷ 5 ∷ 5 ∷ 1 ∷ 4 ∷ 11 ∷ 5 ∷ 2 ∷ []
-- NA, tau c (32 by Note 4), N4, tau GPS, l
bits Five = 11 ∷ 32 ∷ 5 ∷ 22 ∷ 1 ∷ []
-- C, MA, nA, tau A, lambda, delta i, epsilon
bits Even = 1 ∷ 2 ∷ 5 ∷ 10 ∷ 21 ∷ 18 ∷ 15 ∷ []
-- omega, t lambda, delta T, its rate, H, l
bits Odd = 16 ∷ 21 ∷ 22 ∷ 7 ∷ 5 ∷ 1 ∷ []
-- B1, B2, KP
bits Fourteen = 11 ∷ 10 ∷ 2 ∷ []

-- each word has its number of bits, and what fills the places after them has none
abbrev wide : List Word → List ℕ → Bool
wide [] [] = true
wide [] (n ∷ ns) = false
wide (w ∷ ws) [] = eqb (width w) 0 && wide ws []
wide (w ∷ ws) (n ∷ ns) = eqb (width w) n && wide ws ns

-- Tables 4.5 and 4.9: every word has the bits that they give it
pub tables_4_5_and_4_9 : (k : Kind) → T (wide (layout k) (bits k))
unfolding layout
tables_4_5_and_4_9 One = tt
tables_4_5_and_4_9 Two = tt
tables_4_5_and_4_9 Three = tt
tables_4_5_and_4_9 Four = tt
tables_4_5_and_4_9 Five = tt
tables_4_5_and_4_9 Even = tt
tables_4_5_and_4_9 Odd = tt
tables_4_5_and_4_9 Fourteen = tt
