-- Lists of tests one after the other: the first list gives no number and the second answers (past_all), or it gives one and the second is not asked (stop-at); and what
-- an answer in one number says of the number that is given (told-zero, none_said).
-- Assumes nothing.
use mathlib.Core.Path.{◌≡◌, refl, sym, ap, ap₂, subst, ◌∙◌}
use mathlib.Core.Bool.{Bool, true, false, not}
use mathlib.Core.List.{List, [], ◌∷◌, ◌++◌}
use Prim.Native.Nat.{ℕ, zero, suc}
use native.Mathlib.Omega.{arith}
use borrow.Author.Tests.{ne_eqb}
use lib.Dec.{T, eqb, T_not}
use Rattle.strings.specs.Pick.{pick}
use Rattle.strings.specs.Numbers.{Test, first_of, place_of, said_by, answer_of}
use Rattle.strings.specs.Calls.{sound_tests, string_tests}
use Rattle.strings.proofs.Below.{and_left, and_right}
use Rattle.strings.proofs.Tests.{all_of}
use Rattle.records.specs.declared.kinds.Kind.{Kind}
use Rattle.words.specs.Calls.{read_tests}
use Rattle.told.specs.Told.{packed}
use Rattle.host.specs.Host.{left_in}

-- no number is 0
abbrev pub is_number : ℕ → Bool
is_number j = not (eqb j 0)

pub nonzero : (k : ℕ) → T (is_number k) → k ≡ 0 → ⊥
nonzero k t e = T_not (eqb k 0) t (subst (λ (j : ℕ). T (eqb j 0)) (sym e) tt)

pub string_numbers : (s : List ℕ) → T (all_of is_number (string_tests s))
unfolding sound_tests
string_numbers s = tt

pub read_numbers : (s : List ℕ) (k : Kind) → T (all_of is_number (read_tests s k))
unfolding sound_tests
read_numbers s k = tt

-- these tests answer as those do
abbrev pub Alike : List Test → List Test → Type 0
Alike ts us = (first_of ts ≡ first_of us) × (place_of ts ≡ place_of us)

pub past_all : (ts us : List Test) → T (all_of is_number ts) → first_of ts ≡ 0 → Alike (ts ++ us) us
past_all [] us a e = (refl, refl)
past_all (t ∷ ts) us a e = by t.fits (past_all ts us (and_right (is_number t.number) (all_of is_number ts) a)) e
  where
    by : (b : Bool) → (first_of ts ≡ 0 → Alike (ts ++ us) us) → pick b t.number (first_of ts) ≡ 0
        → (pick b t.number (first_of (ts ++ us)) ≡ first_of us) × (pick b t.place (place_of (ts ++ us)) ≡ place_of us)
    by true ih q = absurd (nonzero t.number (and_left (is_number t.number) (all_of is_number ts) a) q)
    by false ih q = ih q

pub stop_at : (ts us : List Test) → (first_of ts ≡ 0 → ⊥) → Alike (ts ++ us) ts
stop_at [] us h = absurd (h refl)
stop_at (t ∷ ts) us h = by t.fits (stop_at ts us) h
  where
    by : (b : Bool) → ((first_of ts ≡ 0 → ⊥) → Alike (ts ++ us) ts) → (pick b t.number (first_of ts) ≡ 0 → ⊥)
        → (pick b t.number (first_of (ts ++ us)) ≡ pick b t.number (first_of ts)) × (pick b t.place (place_of (ts ++ us)) ≡ pick b t.place (place_of ts))
    by true ih h = (refl, refl)
    by false ih h = ih h

pub alike_on : (ts us vs : List Test) → Alike ts us → Alike us vs → Alike ts vs
alike_on ts us vs p q = (p.0 ∙ q.0, p.1 ∙ q.1)

-- so their answer is the same, also in one number
pub alike_said : (ts us : List Test) → Alike ts us → answer_of ts [] ≡ answer_of us []
alike_said ts us p = ap₂ (λ (n : ℕ) (l : List ℕ). said_by n l []) p.0 p.1

pub alike_told : (ts us : List Test) → Alike ts us → packed (answer_of ts []) ≡ packed (answer_of us [])
alike_told ts us p = ap packed (alike_said ts us p)

-- ---- the answer of a call that tells nothing but its number is 0 exactly where none is given
pub told_zero : (n : ℕ) (p : List ℕ) → packed (said_by n p []) ≡ 0 → n ≡ 0
told_zero zero p e = refl
told_zero (suc k) p e = absurd (omega arith)

pub none_said : (n : ℕ) (p : List ℕ) → n ≡ 0 → 0 ∷ [] ≡ said_by n p []
none_said zero p e = refl
none_said (suc k) p e = absurd (omega arith)

-- ---- what is left
pub left_refused : {A : Type 0} (ts : List Test) (made out : A) → (first_of ts ≡ 0 → ⊥) → out ≡ left_in ts made out
left_refused ts made out h = rw (ne_eqb (first_of ts) 0 h)

pub left_done : {A : Type 0} (ts : List Test) (made out : A) → first_of ts ≡ 0 → made ≡ left_in ts made out
left_done ts made out e = rw e
