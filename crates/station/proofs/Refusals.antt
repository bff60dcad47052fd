-- Tests of which each has its refusal, which is computed from its number (named): none of them fits, or there is a refusal that says what the first
-- that fits says (settles). And a refusal leaves its output as it was (untouched).
-- Assumes nothing.
use mathlib.Core.Path.{◌≡◌, refl, sym, ap, subst, ◌∙◌}
use mathlib.Core.Bool.{Bool, true, false, ◌&&◌}
use mathlib.Core.List.{List, [], ◌∷◌, ◌++◌}
use mathlib.Core.Logic.{◌⊎◌, inl, inr, ⊎_elim}
use Prim.Native.Nat.{ℕ, zero, suc}
use lib.Dec.{T, eqb, eqb→eq}
use Rattle.strings.specs.declared.Refusal.{Refusal}
use Rattle.strings.specs.Numbers.{refusal_paper, Test, first_of, place_of, said_by, answer_of, left_by, Answers}
use Rattle.strings.proofs.Answer.{refusal_of, not_taken}
use Rattle.strings.proofs.Below.{and_left, and_right}
use Rattle.strings.proofs.Tests.{is_empty, empty_is}

-- the number is a refusal's, which tells it alone
abbrev is_alone : ℕ → List ℕ → Bool
is_alone n [] = false
is_alone n (k ∷ []) = eqb k n
is_alone n (k ∷ l ∷ ls) = false

-- a computed test: each of the tests has the number of a refusal, and no place
abbrev pub named : List Test → Bool
named [] = true
named (t ∷ ts) = (is_empty t.place && is_alone t.number (refusal_paper (refusal_of (t.number ∷ [])))) && named ts

-- one of them fits
pub record Fitting (ts : List Test) : Type 0 where
  pub refusal : Refusal
  pub number : ℕ
  pub first : first_of ts ≡ suc number
  pub says : (told : List ℕ) → refusal_paper refusal ≡ answer_of ts told

alone_is : (n : ℕ) (l : List ℕ) → T (is_alone n l) → l ≡ n ∷ []
alone_is n [] t = absurd t
alone_is n (k ∷ []) t = ap (λ (x : ℕ). x ∷ []) (eqb→eq k n t)
alone_is n (k ∷ l ∷ ls) t = absurd t

-- no refusal's number is 0
one_more_lem : (q : Refusal) (n : ℕ) (p : List ℕ) → refusal_paper q ≡ n ∷ p → (k : ℕ) × (n ≡ suc k)
one_more_lem q zero p e = absurd (not_taken q p e)
one_more_lem q (suc k) p e = (k, refl)

-- a refusal for the first test, and what settles the others
pub settles_first : (q : Refusal) (n : ℕ) (p : List ℕ) (b : Bool) (ts : List Test) → refusal_paper q ≡ n ∷ p → (first_of ts ≡ 0) ⊎ Fitting ts
    → (first_of (record { number = n; place = p; fits = b } ∷ ts) ≡ 0) ⊎ Fitting (record { number = n; place = p; fits = b } ∷ ts)
settles_first q n p true ts e later =
    let k = one_more_lem q n p e in
    inr (record { refusal = q; number = k.0; first = k.1; says = λ told. e ∙ rw k.1 })
settles_first q n p false ts e later =
    ⊎_elim inl (λ (w : Fitting ts). inr (record { refusal = w.refusal; number = w.number; first = w.first; says = w.says })) later

-- the tests ts, which have names, and others after them
pub settles_then : (ts us : List Test) → T (named ts) → (first_of us ≡ 0) ⊎ Fitting us → (first_of (ts ++ us) ≡ 0) ⊎ Fitting (ts ++ us)
settles_then [] us a later = later
settles_then (t ∷ ts) us a later =
    let q = refusal_of (t.number ∷ []) in
    let e = is_empty t.place in
    let o = is_alone t.number (refusal_paper q) in
    let h = and_left (e && o) (named ts) a in
    let p = alone_is t.number (refusal_paper q) (and_right e o h) ∙ ap (λ (l : List ℕ). t.number ∷ l) (sym (empty_is t.place (and_left e o h))) in
    settles_first q t.number t.place t.fits (ts ++ us) p (settles_then ts us (and_right (e && o) (named ts) a) later)

no_more : (ts : List Test) → ts ++ [] ≡ ts
no_more [] = refl
no_more (t ∷ ts) = ap (λ (us : List Test). t ∷ us) (no_more ts)

pub settles : (ts : List Test) → T (named ts) → (first_of ts ≡ 0) ⊎ Fitting ts
settles ts a = subst (λ (us : List Test). (first_of us ≡ 0) ⊎ Fitting us) (no_more ts) (settles_then ts [] a (inl refl))

-- where none fits, the call is taken
pub taken_says : (ts : List Test) (told : List ℕ) → first_of ts ≡ 0 → 0 ∷ told ≡ answer_of ts told
taken_says ts told z = rw z

-- "Refusals leave outputs untouched"
pub untouched : (ts : List Test) (told made out : List ℕ) (why : Refusal) (out' : List ℕ) → Answers ts told made out (refusal_paper why) out' → out' ≡ out
untouched ts told made out why out' a = by (first_of ts) a.answer a.output
  where
    by : (k : ℕ) → refusal_paper why ≡ said_by k (place_of ts) told → out' ≡ left_by k made out → out' ≡ out
    by zero p q = absurd (not_taken why told p)
    by (suc k) p q = q
