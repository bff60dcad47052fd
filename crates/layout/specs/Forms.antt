-- Which words have a sign ("s" in the paper's table "Words") and which have a range that refuses, in the order of that table.
-- Assumes nothing.
use Rattle.std.specs.Prelude.{List, [], ◌∷◌, ◌≡◌, refl, length, take}
use Rattle.layout.specs.declared.table.Form.{Form}
use Rattle.layout.specs.declared.table.Form.TheVariants.{Plain, Signed, Time, Interval, Day, Slot, Carrier}
use Rattle.layout.specs.declared.table.Word.{Word}
use Rattle.records.specs.declared.kinds.Kind.{Kind}
use Rattle.records.specs.declared.kinds.Kind.TheVariants.{One, Two, Three, Four, Five, Even, Odd, Fourteen}
use Rattle.layout.specs.Layout.{layout}

-- "s" marks sign and magnitude; tk, tb, NA, nA and H have ranges of their own
abbrev pub forms : Kind → List Form
-- P1, tk, x velocity, x acceleration, x
forms One = Plain ∷ Time ∷ Signed ∷ Signed ∷ Signed ∷ []
-- B, P2, tb, y velocity, y acceleration, y
forms Two = Plain ∷ Plain ∷ Interval ∷ Signed ∷ Signed ∷ Signed ∷ []
-- P3, gamma, P, l, z velocity, z acceleration, z
forms Three = Plain ∷ Signed ∷ Plain ∷ Plain ∷ Signed ∷ Signed ∷ Signed ∷ []
-- tau, delta tau, E, P4, FT, NT, n, M
forms Four = Signed ∷ Signed ∷ Plain ∷ Plain ∷ Plain ∷ Plain ∷ Plain ∷ Plain ∷ []
-- NA, tau c, N4, tau GPS, l
forms Five = Day ∷ Signed ∷ Plain ∷ Signed ∷ Plain ∷ []
-- C, MA, nA, tau A, lambda, delta i, epsilon
forms Even = Plain ∷ Plain ∷ Slot ∷ Signed ∷ Signed ∷ Signed ∷ Plain ∷ []
-- omega, t lambda, delta T, its rate, H, l
forms Odd = Signed ∷ Plain ∷ Signed ∷ Signed ∷ Carrier ∷ Plain ∷ []
-- B1, B2, KP
forms Fourteen = Signed ∷ Signed ∷ Plain ∷ []

abbrev pub forms_of : List Word → List Form
forms_of [] = []
forms_of (w ∷ ws) = w.form ∷ forms_of ws

-- the words of a kind have these forms
pub forms_are : (k : Kind) → take (length (forms k)) (forms_of (layout k)) ≡ forms k
unfolding layout
forms_are One = refl
forms_are Two = refl
forms_are Three = refl
forms_are Four = refl
forms_are Five = refl
forms_are Even = refl
forms_are Odd = refl
forms_are Fourteen = refl
