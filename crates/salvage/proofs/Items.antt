-- The items of a file: one induction over them (items-ind); what stands at the end, at a refused place and at a good one (items-end, items-bad, items-good); any
-- number that is enough gives them all (same-items). And the items from a place on, as the loop meets them (rest, rest_end, rest-bad, rest-good).
-- Assumes nothing.
use Prim.Native.Nat.{ℕ, zero, suc, ◌+◌, ◌-◌, ◌≤◌, ◌<◌}
use native.Mathlib.Omega.{arith}
use mathlib.Core.Path.{◌≡◌, refl, sym, ap, ◌∙◌}
use mathlib.Core.Bool.{Bool, true, false}
use mathlib.Core.List.{List, [], ◌∷◌}
use lib.Dec.{leb, eqb}
use lib.ListN.{length}
use borrow.Author.Tests.{leb-true, leb-false, eqb-true, eqb-false, le-leb, lt-leb, eq-eqb, ne_eqb}
use Rattle.strings.specs.Pick.{pick}
use Rattle.fields.specs.Fields.{size_at}
use Rattle.fields.proofs.Near.{size_in_lem}
use Rattle.salvage.specs.Items.{Item, Kept, Skipped, next_place, items_from, items_of}
use Rattle.salvage.proofs.Places.{not_zero, next_in}

-- ---- one induction over the items of a file: what is to be shown at its end, at a refused place and at a good one
abbrev pub AtEnd : List ℕ → (ℕ → List Item → Type 0) → Type 0
AtEnd s P = (at : ℕ) → length s ≤ at → P at []

abbrev pub AtBad : List ℕ → (ℕ → List Item → Type 0) → Type 0
AtBad s P = (at : ℕ) (is : List Item) → at < length s → size_at s at ≡ 0 → P (next_place s at) is → P at (Skipped at (next_place s at - at) ∷ is)

abbrev pub AtGood : List ℕ → (ℕ → List Item → Type 0) → Type 0
AtGood s P = (at : ℕ) (is : List Item) → at < length s → 0 < size_at s at → P (at + size_at s at) is → P at (Kept at (size_at s at) ∷ is)

by_case : (P : List Item → Type 0) (t u : Bool) (a b c : List Item) → (t ≡ true → P a) → (t ≡ false → u ≡ true → P b)
    → (t ≡ false → u ≡ false → P c) → P (pick t a (pick u b c))
by_case P true u a b c f g h = f refl
by_case P false true a b c f g h = g refl refl
by_case P false false a b c f g h = h refl refl

module _ (s : List ℕ) (P : ℕ → List Item → Type 0) (at_end : AtEnd s P) (at-bad : AtBad s P) (at-good : AtGood s P) where
  pub items_ind : (more at : ℕ) → length s ≤ at + more → P at (items_from s more at)
  items_ind zero at h = at_end at (omega arith)
  items_ind (suc more) at h =
      by_case (P at) (leb (length s) at) (eqb (size_at s at) 0) [] (Skipped at (next_place s at - at) ∷ items_from s more (next_place s at))
      (Kept at (size_at s at) ∷ items_from s more (at + size_at s at))
      (λ t. at_end at (leb-true (length s) at t))
      (λ t u.
      let l = leb-false (length s) at t in
      at-bad at (items_from s more (next_place s at)) l (eqb-true (size_at s at) 0 u)
      (items_ind more (next_place s at) (omega (arith, (next_in s at l).0))))
      (λ t u.
      let l = leb-false (length s) at t in
      let z = not_zero (size_at s at) (eqb-false (size_at s at) 0 u) in
      at-good at (items_from s more (at + size_at s at)) l z
      (items_ind more (at + size_at s at) (omega (arith, z))))

-- ---- the items from a place on do not depend on how many are allowed
pub items_end : (s : List ℕ) (n p : ℕ) → length s ≤ p → items_from s n p ≡ []
items_end s zero p h = refl
items_end s (suc n) p h = simp (le-leb (length s) p h)

pub items_bad : (s : List ℕ) (m p : ℕ) → p < length s → size_at s p ≡ 0
    → items_from s (suc m) p ≡ Skipped p (next_place s p - p) ∷ items_from s m (next_place s p)
items_bad s m p h z = simp (lt-leb (length s) p h, eq-eqb (size_at s p) 0 z)

pub items_good : (s : List ℕ) (m p : ℕ) → p < length s → (size_at s p ≡ 0 → ⊥)
    → items_from s (suc m) p ≡ Kept p (size_at s p) ∷ items_from s m (p + size_at s p)
items_good s m p h z = simp (lt-leb (length s) p h, ne_eqb (size_at s p) 0 z)

abbrev Same : List ℕ → ℕ → List Item → Type 0
Same s p is = (n : ℕ) → length s ≤ p + n → is ≡ items_from s n p

same_bad : (s : List ℕ) (p : ℕ) (is : List Item) → p < length s → size_at s p ≡ 0 → Same s (next_place s p) is → Same s p (Skipped p (next_place s p - p) ∷ is)
same_bad s p is l z f zero h = absurd (omega arith)
same_bad s p is l z f (suc n) h =
    ap (λ (x : List Item). Skipped p (next_place s p - p) ∷ x) (f n (omega (arith, (next_in s p l).0))) ∙ sym (items_bad s n p l z)

same_good : (s : List ℕ) (p : ℕ) (is : List Item) → p < length s → 0 < size_at s p → Same s (p + size_at s p) is → Same s p (Kept p (size_at s p) ∷ is)
same_good s p is l z f zero h = absurd (omega arith)
same_good s p is l z f (suc n) h =
    ap (λ (x : List Item). Kept p (size_at s p) ∷ x) (f n (omega (arith, z))) ∙ sym (items_good s n p l (λ e. omega (arith, e, z)))

pub same_items : (s : List ℕ) (m n p : ℕ) → length s ≤ p + m → length s ≤ p + n → items_from s m p ≡ items_from s n p
same_items s m n p h k = items_ind s (Same s) (λ q l i g. sym (items_end s i q l)) (same_bad s) (same_good s) m p h n k

-- ---- as many as are left
abbrev pub rest : List ℕ → ℕ → List Item
rest s at = items_from s (length s - at) at

pub rest_all : (s : List ℕ) → rest s 0 ≡ items_of s
unfolding items_of
rest_all s = same_items s (length s - 0) (length s) 0 (omega arith) (omega arith)

pub rest_end : (s : List ℕ) (p : ℕ) → length s ≤ p → rest s p ≡ []
rest_end s p h = items_end s (length s - p) p h

pub rest_bad : (s : List ℕ) (p : ℕ) → p < length s → size_at s p ≡ 0 → rest s p ≡ Skipped p (next_place s p - p) ∷ rest s (next_place s p)
rest_bad s p h z =
    let e : length s - p ≡ suc (length s - suc p) = omega arith in
    let n = next_in s p h in
    rw e (items_bad s (length s - suc p) p h z)
    ∙ ap (λ (x : List Item). Skipped p (next_place s p - p) ∷ x)
    (same_items s (length s - suc p) (length s - next_place s p) (next_place s p) (omega (arith, n.0)) (omega arith))

pub rest_good : (s : List ℕ) (p n : ℕ) → p < length s → n ≡ size_at s p → (n ≡ 0 → ⊥) → rest s p ≡ Kept p n ∷ rest s (p + n)
rest_good s p n h e z =
    let l : length s - p ≡ suc (length s - suc p) = omega arith in
    let c : 0 < n = not_zero n z in
    rw l (items_good s (length s - suc p) p h (λ q. z (e ∙ q)))
    ∙ ap (λ (x : ℕ). Kept p x ∷ items_from s (length s - suc p) (p + x)) (sym e)
    ∙ ap (λ (x : List Item). Kept p n ∷ x) (same_items s (length s - suc p) (length s - (p + n)) (p + n) (omega (arith, c)) (omega arith))

-- the same induction over all of them
module _ (s : List ℕ) (P : ℕ → List Item → Type 0) (at_end : AtEnd s P) (at-bad : AtBad s P) (at-good : AtGood s P) where
  pub rest_ind : (at : ℕ) → P at (rest s at)
  rest_ind at = items_ind s P at_end at-bad at-good (length s - at) at (omega arith)

  pub all_ind : P 0 (items_of s)
  unfolding items_of
  all_ind = items_ind s P at_end at-bad at-good (length s) 0 (omega arith)

pub field_in : (s : List ℕ) (at n : ℕ) → n ≡ size_at s at → (n ≡ 0 → ⊥) → at + n ≤ length s
field_in s at n e z = rw e (size_in_lem s at (rw (← e) (not_zero n z)))
