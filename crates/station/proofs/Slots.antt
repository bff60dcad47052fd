-- The entry of a slot that a card asks for is refused with SLOT exactly where the slot is 0 or above the last (slot-exactly).
-- Assumes nothing.
use mathlib.Core.Path.{◌≡◌, refl, sym, ap, ◌∙◌}
use mathlib.Core.Bool.{Bool, true, false, not, ◌&&◌}
use mathlib.Core.List.{List, [], ◌∷◌}
use mathlib.Core.Logic.{◌⊎◌, inl, inr, ⊎_elim, ◌↔◌}
use Prim.Native.Nat.{ℕ, ◌≤◌, ◌<◌}
use native.Mathlib.Omega.{arith}
use borrow.Author.Tests.{leb-true, leb-false}
use lib.Dec.{leb}
use lib.ListN.{get_or}
use Rattle.strings.specs.Numbers.{test, answer_of}
use Rattle.book.specs.Entry.{meaning}
use Rattle.book.specs.Book.{slots, in_slot}
use Rattle.station.specs.Queries.{is_empty, three_numbers, entry_paper}
use Rattle.station.specs.Slots.{SlotExactly}

pub slot_exactly : SlotExactly
slot_exactly st card slot r k a = by (leb 1 slot) (leb slot slots) (is_empty st.book slot) refl refl (a.answer ∙ rw k)
  where
    told : List ℕ
    told = three_numbers (meaning (in_slot st.book slot))

    by : (x y z : Bool) → leb 1 slot ≡ x → leb slot slots ≡ y → entry_paper r ≡ answer_of (test 14 (not (x && y)) ∷ test 13 z ∷ []) told
        → (entry_paper r ≡ 14 ∷ []) ↔ ((slot ≡ 0) ⊎ (slots < slot))
    by false y z p q e = let h : slot < 1 = leb-false 1 slot p in ((λ f. inl (omega arith)), (λ f. e))
    by true false z p q e = ((λ f. inr (leb-false slot slots q)), (λ f. e))
    by true true z p q e =
        let l : 1 ≤ slot = leb-true 1 slot p in
        let u : slot ≤ slots = leb-true slot slots q in
        ((λ f. absurd (other z (sym e ∙ f))), (λ f. absurd (⊎_elim (λ (k : slot ≡ 0). omega arith) (λ (k : slots < slot). omega arith) f)))
      where
        other : (t : Bool) → answer_of (test 13 t ∷ []) told ≡ 14 ∷ [] → ⊥
        other true f = let k : ◌≡◌ {A = ℕ} 13 14 = ap (λ (l : List ℕ). get_or l 0 0) f in omega arith
        other false f = let k : ◌≡◌ {A = ℕ} 0 14 = ap (λ (l : List ℕ). get_or l 0 0) f in omega arith
