-- What is put of an item: a field whole (field_put), the record of an offer (record-put) and of no other field (record-none), a line (line-long).
-- Assumes nothing.
use Prim.Native.Nat.{ℕ, ◌+◌, ◌-◌, ◌^◌, ◌≤◌, ◌<◌}
use native.Mathlib.Omega.{arith}
use mathlib.Core.Path.{◌≡◌, ap}
use mathlib.Core.List.{List, [], ◌∷◌}
use lib.ListN.{length, take, drop, get_or, length-take}
use borrow.Author.Tests.{eq-eqb, ne_eqb}
use Rattle.digits.specs.Text.{row, Puts}
use Rattle.digits.proofs.Pieces.{puts_as, puts_none}
use Rattle.digits.proofs.Row.{row_length}
use Rattle.salvage.specs.Items.{Kept}
use Rattle.windows.specs.Shown.{record_of}

-- no more is put than the field has
short : {written end : ℕ} {out out' : List ℕ} (n k : ℕ) (l : List ℕ) → Puts out written (take k l) out' end → k ≤ n → end ≤ written + n
short n k l p h = omega (arith, p.past, length-take k l)

module _ (window : List ℕ) (at n : ℕ) where
  pub field_put : {written end : ℕ} {out out' : List ℕ} → Puts out written (take (at + n - at) (drop at window)) out' end
      → Puts out written (take n (drop at window)) out' end × (end ≤ written + n)
  field_put p = let e : at + n - at ≡ n = omega arith in (puts_as (ap (λ (k : ℕ). take k (drop at window)) e) p, short n (at + n - at) (drop at window) p (omega arith))

  pub record_put : {written end : ℕ} {out out' : List ℕ} → get_or window at 0 ≡ 1 → 3 ≤ n
      → Puts out written (take (at + n - (at + 3)) (drop (at + 3) window)) out' end → Puts out written (record_of window (Kept at n)) out' end × (end ≤ written + n)
  record_put t h p =
      let e : at + n - (at + 3) ≡ n - 3 = omega arith in
      let q = puts_as (ap (λ (k : ℕ). take k (drop (at + 3) window)) e) p in
      (rw (eq-eqb (get_or window at 0) 1 t) q, short n (at + n - (at + 3)) (drop (at + 3) window) p (omega arith))

  pub record_none : {written : ℕ} {out : List ℕ} → (get_or window at 0 ≡ 1 → ⊥)
      → Puts out written (record_of window (Kept at n)) out written × (written ≤ written + n)
  record_none t = (rw (ne_eqb (get_or window at 0) 1 t) puts_none, omega arith)

-- numbers of 64 bits have twenty digits at most
pub line_long : (first count : ℕ) → first < 2 ^ 64 → count < 2 ^ 64 → length (row (first ∷ count ∷ [])) ≤ 42
line_long first count f c = row_length (20 ∷ 20 ∷ []) (first ∷ count ∷ []) (omega arith, omega (arith, f), (omega arith, omega (arith, c), tt))
