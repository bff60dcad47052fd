-- The string numbers of each kind, as the first column of the paper's table "Words" has them; and that the test of PLACE passes just these of
-- 0..15, at each kind and each m. That it passes none above is `none_above` (proofs/KindNumbers.antt).
-- Assumes nothing.
use Rattle.std.specs.Prelude.{ℕ, Bool, true, ◌&&◌, List, [], ◌∷◌, ◌≡◌, refl, T}
use Rattle.std.specs.Bool.{beq}
use Rattle.strings.specs.Pick.{is_one_of}
use Rattle.strings.specs.Table413.{◌to◌}
use Rattle.records.specs.declared.kinds.Kind.{Kind}
use Rattle.records.specs.declared.kinds.Kind.TheVariants.{One, Two, Three, Four, Five, Even, Odd, Fourteen}
use Rattle.layout.specs.Layout.{kind_number, of_kind}

-- "string 1", .., "string 5", "even 6..14", "odd 7..15", "frame 5, string 14"
abbrev pub numbers : Kind → List ℕ
numbers One = 1 ∷ []
numbers Two = 2 ∷ []
numbers Three = 3 ∷ []
numbers Four = 4 ∷ []
numbers Five = 5 ∷ []
numbers Even = 6 ∷ 8 ∷ 10 ∷ 12 ∷ 14 ∷ []
numbers Odd = 7 ∷ 9 ∷ 11 ∷ 13 ∷ 15 ∷ []
numbers Fourteen = 14 ∷ []

abbrev agree : List ℕ → Kind → Bool
agree [] k = true
agree (m ∷ ms) k = beq (of_kind k m) (is_one_of (numbers k) m) && agree ms k

-- m 0..15 is of a kind exactly where the kind's list has it
pub kind_numbers : (k : Kind) → T (agree (0 to 15) k)
kind_numbers One = tt
kind_numbers Two = tt
kind_numbers Three = tt
kind_numbers Four = tt
kind_numbers Five = tt
kind_numbers Even = tt
kind_numbers Odd = tt
kind_numbers Fourteen = tt

abbrev numbered : List Kind → List ℕ
numbered [] = []
numbered (k ∷ ks) = kind_number k ∷ numbered ks

-- the kinds in the order of the paper's table are numbered 1 to 8
pub kinds_numbered : numbered (One ∷ Two ∷ Three ∷ Four ∷ Five ∷ Even ∷ Odd ∷ Fourteen ∷ []) ≡ 1 to 8
kinds_numbered = refl
