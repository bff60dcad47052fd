-- The items of a file keep the rules of the request (rules); no others do (items-only), so that these are written (by-rules). Items that follow one another
-- from a place are that far behind it (follow-le).
-- Assumes nothing.
use Prim.Native.Nat.{ℕ, zero, suc, ◌+◌, ◌-◌, ◌≤◌, ◌<◌, zero-le}
use native.Mathlib.Omega.{arith}
use mathlib.Core.Path.{◌≡◌, refl, sym, ap, ◌∙◌}
use mathlib.Core.List.{List, [], ◌∷◌}
use lib.ListN.{length}
use Rattle.fields.specs.Fields.{size_at}
use Rattle.fields.proofs.Near.{size_in_lem}
use Rattle.salvage.specs.declared.Salvaged.{Salvaged}
use Rattle.salvage.specs.Items.{Item, Kept, Skipped, count_of, next_place, items_from, items_of}
use Rattle.salvage.specs.Rules.{Follow, First, Right, Keeps}
use Rattle.salvage.specs.Writing.{Writes, Salvages}
use Rattle.salvage.proofs.Places.{next_in, next_first, first_same}
use Rattle.salvage.proofs.Items.{items_end, items_bad, items_good, all_ind}

pub follow_le : (p e : ℕ) (is : List Item) → Follow p is e → p ≤ e
follow_le p e [] f = omega arith
follow_le p e (i ∷ is) f = omega (arith, follow_le (p + count_of i) e is f.1.1)

-- ---- the items keep the rules
follow_all : (s : List ℕ) → 0 ≤ length s → Follow 0 (items_of s) (length s)
follow_all s =
    all_ind s (λ p is. p ≤ length s → Follow p is (length s))
    (λ p e l. omega arith)
    (λ p is l z f m.
    let n = next_in s p l in
    let e : p + (next_place s p - p) ≡ next_place s p = omega (arith, n.0) in
    (refl, (omega (arith, n.0), rw e (f n.1))))
    (λ p is l z f m. (refl, (z, f (size_in_lem s p z))))

right_all : (s : List ℕ) → Right s (items_of s)
right_all s =
    all_ind s (λ p is. Right s is)
    (λ p l. tt)
    (λ p is l z f.
    let n = next_in s p l in
    let e : p + (next_place s p - p) ≡ next_place s p = omega (arith, n.0) in
    ((z, rw e (next_first s p l)), f))
    (λ p is l z f. ((z, refl), f))

pub rules : (file : List ℕ) → Keeps file (items_of file)
rules s = record { follow = follow_all s zero-le; right = right_all s }

-- ---- and no others do
only : (s : List ℕ) (is : List Item) (p n : ℕ) → Follow p is (length s) → Right s is → length s ≤ p + n → is ≡ items_from s n p
only s [] p n f r h = sym (items_end s n p (omega (arith, f)))
only s (Kept at m ∷ is) p zero f r h = absurd (omega (arith, follow_le (p + m) (length s) is f.1.1, f.1.0))
only s (Kept at m ∷ is) p (suc n) f r h =
    let l : p < length s = omega (arith, follow_le (p + m) (length s) is f.1.1, f.1.0) in
    let e : size_at s p ≡ m = ap (size_at s) (sym f.0) ∙ r.0.1 in
    rw (items_good s n p l (λ q. omega (arith, q, e, f.1.0)), e, f.0)
    (ap (λ (x : List Item). Kept p m ∷ x) (only s is (p + m) n f.1.1 r.1 (omega (arith, f.1.0))))
only s (Skipped at m ∷ is) p zero f r h = absurd (omega (arith, follow_le (p + m) (length s) is f.1.1, f.1.0))
only s (Skipped at m ∷ is) p (suc n) f r h =
    let l : p < length s = omega (arith, follow_le (p + m) (length s) is f.1.1, f.1.0) in
    let z : size_at s p ≡ 0 = ap (size_at s) (sym f.0) ∙ r.0.0 in
    let g : First s p (p + m) = rw f.0 at r.0.1 in
    let e : next_place s p ≡ p + m = first_same s p (next_place s p) (p + m) (next_first s p l) g in
    let d : p + m - p ≡ m = omega arith in
    rw (items_bad s n p l z, e, d, f.0)
    (ap (λ (x : List Item). Skipped p m ∷ x) (only s is (p + m) n f.1.1 r.1 (omega (arith, f.1.0))))

pub items_only : (file : List ℕ) (items : List Item) → Keeps file items → items ≡ items_of file
unfolding items_of
items_only s is k = only s is 0 (length s) k.follow k.right (omega arith)

pub by_rules : (file out list : List ℕ) (r : Salvaged) (out' list' : List ℕ) → Salvages file out list r out' list' → (items : List Item) → Keeps file items
    → Writes file items out list r out' list'
by_rules file out list r out' list' h items k = rw (items_only file items k) h
