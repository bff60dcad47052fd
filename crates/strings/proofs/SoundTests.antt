-- The tests that every call on a string makes (soundTests), before others: where none fits, the string is not damaged, its repair is not idle, and none
-- of the others fits (sound-first); and where it is neither, the others decide (sound-then). Whoever has them among its tests goes by these two, and
-- counts nothing.
-- Assumes nothing.
use mathlib.Core.Path.{◌≡◌, refl, ◌∙◌, sym, subst}
use mathlib.Core.Bool.{Bool, true, false, not}
use mathlib.Core.List.{List, [], ◌∷◌, ◌++◌}
use mathlib.Core.Logic.{⊎_elim}
use Prim.Native.Nat.{ℕ}
use lib.Dec.{T, eqb, eqb_refl, T_not}
use lib.ListN.{get_or, drop}
use native.Mathlib.Omega.{arith}
use Rattle.strings.specs.Pick.{pick}
use Rattle.std.specs.Prelude.{Err}
use Rattle.strings.specs.declared.hamming.Damage.{Damage}
use Rattle.strings.specs.declared.hamming.Damage.TheVariants.{Unplaced, Even, Outside}
use Rattle.strings.specs.Hamming.{sum_all, syndrome, ruling, is_damaged, mended}
use Rattle.strings.specs.Numbers.{damage_number, Test, test, first_of, place_of}
use Rattle.strings.specs.Calls.{is_idle, damage_tests, sound_tests}
use Rattle.strings.specs.Damage.{fitting}
use Rattle.strings.proofs.Tests.{past_first, all_of, first_by}
use Rattle.strings.proofs.DamagedExactly.{damaged_exactly}

-- a string that the check takes
pub record IsSound (x : ℕ) : Type 0 where
  pub sound : is_damaged (ruling x) ≡ false
  pub idle : is_idle (mended x) ≡ false

-- ---- the three of a damaged string
none_of : (a b c : Bool) → fitting (test 31 a ∷ test 32 b ∷ test 33 c ∷ []) ≡ 0 → (a ≡ false) × ((b ≡ false) × (c ≡ false))
none_of true b c e = absurd (omega arith)
none_of false true c e = absurd (omega arith)
none_of false false true e = absurd (omega arith)
none_of false false false e = (refl, (refl, refl))

one_of : (a b c : Bool) (n : ℕ) (ts : List Test) → (n ≡ 0 → ⊥) → first_of (test 31 a ∷ test 32 b ∷ test 33 c ∷ []) ≡ n
    → let us = test 31 a ∷ test 32 b ∷ test 33 c ∷ ts in
    (first_of us ≡ n) × (place_of us ≡ [])
one_of true b c n ts z e = (e, refl)
one_of false true c n ts z e = (e, refl)
one_of false false true n ts z e = (e, refl)
one_of false false false n ts z e = absurd (z (sym e))

pub not_zero : (d : Damage) → damage_number d ≡ 0 → ⊥
not_zero Unplaced e = omega arith
not_zero Even e = omega arith
not_zero Outside e = omega arith

module _ (x : ℕ) where
  -- whether the j-th of them fits
  abbrev fit : ℕ → Bool
  fit j = (get_or (damage_tests (syndrome x) (sum_all x)) j (test 0 false)).fits

  abbrev NoneFits : Type 0
  NoneFits = (fit 0 ≡ false) × ((fit 1 ≡ false) × (fit 2 ≡ false))

  pub no_damage : is_damaged (ruling x) ≡ false → NoneFits
  no_damage e = none_of (fit 0) (fit 1) (fit 2) ((damaged_exactly x).one ∙ rw e)

  none_damaged : NoneFits → is_damaged (ruling x) ≡ false
  none_damaged f = by (is_damaged (ruling x)) (sym (damaged_exactly x).one ∙ rw (f.0, f.1.0, f.1.1))
    where
      by : (b : Bool) → ◌≡◌ {A = ℕ} (pick b 1 0) 0 → b ≡ false
      by true e = absurd (omega arith)
      by false e = refl

  -- none of them fits, nor IDLE
  pub sound_alone : first_of (sound_tests x) ≡ 0 → IsSound x
  unfolding sound_tests
  sound_alone e =
      let ts = sound_tests x in
      let p = past_first 30 (fit 0) (drop 1 ts) e in
      let q = past_first 31 (fit 1) (drop 2 ts) p.1 in
      let r = past_first 32 (fit 2) (drop 3 ts) q.1 in
      let i = past_first 3 (is_idle (mended x)) [] r.1 in
      record { sound = none_damaged (p.0, (q.0, r.0)); idle = i.0 }

  -- another number is given than theirs
  pub sound_else : (k : ℕ) (ts : List Test) → T (all_of (λ j. not (eqb j k)) (sound_tests x)) → first_of (sound_tests x ++ ts) ≡ k → IsSound x × (first_of ts ≡ k)
  sound_else k ts a e =
      ⊎_elim
      (λ (o : T (not (eqb (first_of (sound_tests x ++ ts)) k))). absurd (T_not (eqb (first_of (sound_tests x ++ ts)) k) o (subst (λ (j : ℕ). T (eqb j k)) (sym e) (eqb_refl k))))
      (λ (o : (first_of (sound_tests x) ≡ 0) × (first_of (sound_tests x ++ ts) ≡ first_of ts)). (sound_alone o.0, sym o.1 ∙ e))
      (first_by (λ j. not (eqb j k)) (sound_tests x) ts a)

  -- NONE FITS, OF THEM AND OF OTHERS AFTER THEM
  pub sound_first : (ts : List Test) → first_of (sound_tests x ++ ts) ≡ 0 → IsSound x × (first_of ts ≡ 0)
  unfolding sound_tests
  sound_first ts e = sound_else 0 ts tt e

  -- AND BACK: where it is neither, THE OTHERS DECIDE
  pub sound_then : IsSound x → (ts : List Test) → (first_of (sound_tests x ++ ts) ≡ first_of ts) × (place_of (sound_tests x ++ ts) ≡ place_of ts)
  unfolding sound_tests
  sound_then i ts =
      let f = no_damage i.sound in
      (rw (f.0, f.1.0, f.1.1, i.idle), rw (f.0, f.1.0, f.1.1, i.idle))

  -- A DAMAGED STRING is answered by the number of its cause, whatever stands after these tests
  pub damaged_says : (d : Damage) → ruling x ≡ Err d → (ts : List Test)
      → (first_of (sound_tests x ++ ts) ≡ damage_number d) × (place_of (sound_tests x ++ ts) ≡ [])
  unfolding sound_tests
  damaged_says d e ts =
      one_of (fit 0) (fit 1) (fit 2) (damage_number d) (test 4 (is_idle (mended x)) ∷ ts) (not_zero d) ((damaged_exactly x).cause d e)

-- they look at the ruling and at what it leaves: two strings that are not damaged and are repaired to one have the same tests
pub sound_same : (x y : ℕ) → is_damaged (ruling x) ≡ false → is_damaged (ruling y) ≡ false → mended x ≡ mended y → sound_tests x ≡ sound_tests y
unfolding sound_tests
sound_same x y a b e =
    let f = no_damage x a in
    let g = no_damage y b in
    rw (f.0, f.1.0, f.1.1, g.0, g.1.0, g.1.1, e)
