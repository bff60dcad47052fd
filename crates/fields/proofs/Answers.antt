-- What the code finds at a place of a block, test by test, is what the definition says: at the end (ends), refused (cut, unknown, wrong) and good (well).
-- Assumes nothing.
use mathlib.Core.Path.{◌≡◌, refl, sym, ap, ◌∙◌}
use mathlib.Core.Bool.{Bool, true, false, not, ◌||◌}
use mathlib.Core.List.{List, ◌∷◌}
use Prim.Native.Nat.{ℕ, suc, ◌+◌, ◌-◌, ◌*◌, ◌≤◌, ◌<◌}
use native.Mathlib.Omega.{arith}
use lib.Dec.{eqb, ltb}
use lib.ListN.{length, get_or, take, drop, length-drop, drop_of_length-le}
use lib.Seq.{drop-cons, drop-drop, get_or-drop}
use borrow.Author.Tests.{eqb-true, ltb-true, ltb-false, lt-ltb, le-ltb, le-leb, lt-leb, ne_eqb}
use Rattle.strings.specs.Number.{value_of}
use Rattle.fields.specs.declared.Why.{Why}
use Rattle.fields.specs.declared.Why.TheVariants.{Tag, Length, Cut}
use Rattle.fields.specs.declared.Field.{Field}
use Rattle.fields.specs.declared.Field.TheVariants.{End, Refused}
use Rattle.fields.specs.Fields.{tag_in, length_in, is_unknown, is_wrong, is_cut, is_good, size_in, field_paper, told_of, said_at, Finds}

-- ---- a tag that is not unknown is 3, where it is neither 1 nor 2
only_one : (b : Bool) → not (b || false) ≡ false → b ≡ true
only_one true e = refl
only_one false e = sym e

pub third : (tag : ℕ) → is_unknown tag ≡ false → (tag ≡ 1 → ⊥) → (tag ≡ 2 → ⊥) → tag ≡ 3
third tag k a b = eqb-true tag 3 (only_one (eqb tag 3) (rw (ne_eqb tag 1 a, ne_eqb tag 2 b) at k))

-- ---- the parts of the field at a place of a block
pub left_is : (block : List ℕ) (at : ℕ) → length (drop at block) ≡ length block - at
left_is block at = length-drop at block

pub tag_is : (block : List ℕ) (at : ℕ) → get_or block at 0 ≡ tag_in (drop at block)
tag_is block at = ap (λ (k : ℕ). get_or block k 0) (omega arith) ∙ sym (get_or-drop at block 0 0)

pub length_is : (block : List ℕ) (at : ℕ) → at + 3 ≤ length block → get_or block (at + 1) 0 * 256 + get_or block (at + 2) 0 ≡ length_in (drop at block)
length_is block at h =
    let e : suc (at + 1) ≡ at + 2 = omega arith in
    let d = drop-drop 1 at block ∙ drop-cons block (at + 1) 0 (omega arith) in
    let f = ap (λ (k : ℕ). drop k block) e ∙ drop-cons block (at + 2) 0 (omega arith) in
    sym (ap (λ (l : List ℕ). value_of (take 2 l)) (d ∙ ap (λ (l : List ℕ). get_or block (at + 1) 0 ∷ l) f) ∙ omega arith)

-- ---- the test of 43
pub too_few : (block : List ℕ) (at : ℕ) → length block - at < 3 → true ≡ is_cut (length_in (drop at block)) (length (drop at block))
too_few block at h = sym (lt-ltb (length (drop at block)) (3 + length_in (drop at block)) (omega (arith, left_is block at)))

pub too_long : (block : List ℕ) (at : ℕ) {n : ℕ} → 3 ≤ length block - at → n ≡ length_in (drop at block)
    → ltb (length block - at - 3) n ≡ is_cut (length_in (drop at block)) (length (drop at block))
too_long block at {n} h e = by (ltb (length block - at - 3) n) refl
  where
    by : (t : Bool) → ltb (length block - at - 3) n ≡ t → t ≡ is_cut (length_in (drop at block)) (length (drop at block))
    by true q =
        sym (lt-ltb (length (drop at block)) (3 + length_in (drop at block)) (omega (arith, left_is block at, ltb-true (length block - at - 3) n q, e)))
    by false q =
        sym (le-ltb (length (drop at block)) (3 + length_in (drop at block)) (omega (arith, left_is block at, ltb-false (length block - at - 3) n q, e)))

-- a field that is not cut is whole
pub fits : (block : List ℕ) (at : ℕ) → at < length block → is_cut (length_in (drop at block)) (length (drop at block)) ≡ false
    → at + 3 + length_in (drop at block) ≤ length block
fits block at before whole = omega (arith, ltb-false (length (drop at block)) (3 + length_in (drop at block)) whole, left_is block at)

-- ---- the five ends of the reading
module _ {block : List ℕ} {at : ℕ} where
  pub ends : length block ≤ at → Finds block at End at
  unfolding said_at size_in is_good
  ends h = record { answer = rw (le-leb (length block) at h); next = rw (drop_of_length-le block h) (omega arith) }

  -- what `refused` answers
  refused_at : {f : Field} {a : ℕ} {w : Why} → (f ≡ Refused w at) × (a ≡ at) → Finds block at (Refused w at) at → Finds block at f a
  refused_at e h = record { answer = ap field_paper e.0 ∙ h.answer; next = e.1 ∙ h.next }

  module _ (before : at < length block) where
    pub cut : {f : Field} {a : ℕ} → is_cut (length_in (drop at block)) (length (drop at block)) ≡ true → (f ≡ Refused Cut at) × (a ≡ at) → Finds block at f a
    unfolding said_at size_in is_good
    cut c e = refused_at e (record { answer = rw (lt-leb (length block) at before, c); next = rw c (omega arith) })

    module _ (whole : is_cut (length_in (drop at block)) (length (drop at block)) ≡ false) where
      pub unknown : {f : Field} {a : ℕ} → is_unknown (get_or block at 0) ≡ true → (f ≡ Refused Tag at) × (a ≡ at) → Finds block at f a
      unfolding said_at size_in is_good
      unknown u e =
          let u : is_unknown (tag_in (drop at block)) ≡ true = rw tag_is at u in
          refused_at e (record { answer = rw (lt-leb (length block) at before, whole, u); next = rw (whole, u) (omega arith) })

      module _ (known : is_unknown (get_or block at 0) ≡ false) where
        pub wrong : {f : Field} {a size : ℕ} → size ≡ length_in (drop at block) → is_wrong (get_or block at 0) size ≡ true
            → (f ≡ Refused Length at) × (a ≡ at) → Finds block at f a
        unfolding said_at size_in is_good
        wrong {f} {a} {size} s w e =
            let k : is_unknown (tag_in (drop at block)) ≡ false = rw tag_is at known in
            let w : is_wrong (tag_in (drop at block)) (length_in (drop at block)) ≡ true = rw (tag_is, s) at w in
            refused_at e (record { answer = rw (lt-leb (length block) at before, whole, k, w); next = rw (whole, k, w) (omega arith) })

        pub well : {f : Field} {a size : ℕ} → size ≡ length_in (drop at block) → is_wrong (get_or block at 0) size ≡ false
            → (field_paper f ≡ 0 ∷ told_of at (get_or block at 0)) × (a ≡ at + 3 + size) → Finds block at f a
        unfolding said_at size_in is_good
        well {f} {a} {size} s w e =
            let k : is_unknown (tag_in (drop at block)) ≡ false = rw tag_is at known in
            let w : is_wrong (tag_in (drop at block)) (length_in (drop at block)) ≡ false = rw (tag_is, s) at w in
            record {
              answer = e.0 ∙ ap (λ (k : ℕ). 0 ∷ told_of at k) (tag_is block at) ∙ rw (lt-leb (length block) at before, whole, k, w);
              next = e.1 ∙ rw (whole, k, w) (omega (arith, s));
            }
