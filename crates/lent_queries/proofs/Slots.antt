-- The tests of a call on a slot: what the number of the card's leaves to that of the slot's (slot-low, slot-high, slot-good), and a call that is let in names one
-- of the slots (slot-known). A record's slot that is not 0 has its place in the book (at_least_one, in_book, place_wide).
-- Assumes nothing.
use mathlib.Core.Path.{◌≡◌, refl, sym, ap, ◌∙◌}
use mathlib.Core.Bool.{Bool, true, false, not, ◌&&◌, true≢false}
use mathlib.Core.List.{[], ◌∷◌}
use Prim.Native.Nat.{ℕ, ◌-◌, ◌≤◌, ◌<◌, ◌^◌}
use native.Mathlib.Omega.{arith}
use borrow.Author.Tests.{le-leb, lt-leb, leb-true, not-false}
use lib.Dec.{leb}
use Rattle.strings.specs.Pick.{pick}
use Rattle.strings.specs.Numbers.{test, first_of}
use Rattle.strings.proofs.Tests.{past_first}
use Rattle.book.specs.Book.{slots}
use Rattle.station.specs.Station.{is_card, card_test}
use Rattle.station.specs.Queries.{is_slot}
use Rattle.lent_queries.specs.Lent.{slot_tests}
use Rattle.lent_queries.proofs.Said.{first_passes}

module _ (card k z : ℕ) (e : z ≡ first_of (card_test card ∷ [])) (l : z ≤ 0) where
  rest : first_of (slot_tests card k) ≡ pick (not (is_slot k)) 14 0
  rest = let none : z ≡ 0 = omega (arith, l) in first_passes (card_test card ∷ []) (test 14 (not (is_slot k)) ∷ []) tt (sym e ∙ none)

  by : (t : Bool) → is_slot k ≡ t → pick (not t) 14 0 ≡ first_of (slot_tests card k)
  by t q = ap (λ (u : Bool). pick (not u) 14 0) (sym q) ∙ sym rest

  pub slot_low : k ≡ 0 → 14 ≡ first_of (slot_tests card k)
  slot_low q = by false (rw (lt-leb 1 k (omega (arith, q))))

  pub slot_high : slots < k → 14 ≡ first_of (slot_tests card k)
  slot_high h = by false (rw (le-leb 1 k (omega (arith, h)), lt-leb k slots h))

  pub slot_good : 1 ≤ k → k ≤ slots → 0 ≡ first_of (slot_tests card k)
  slot_good h h' = by true (rw (le-leb 1 k h, le-leb k slots h'))

both : (t u : Bool) → (t && u) ≡ true → (t ≡ true) × (u ≡ true)
both true true e = (refl, refl)
both true false e = absurd (true≢false (sym e))
both false u e = absurd (true≢false (sym e))

pub slot_known : (card k z : ℕ) → z ≡ first_of (slot_tests card k) → z ≤ 0 → (1 ≤ k) × (k ≤ slots)
slot_known card k z e n =
    let none : z ≡ 0 = omega arith in
    let p = past_first 15 (not (is_card card)) (test 14 (not (is_slot k)) ∷ []) (sym e ∙ none) in
    let q = not-false (is_slot k) (past_first 13 (not (is_slot k)) [] p.1).0 in
    let r = both (leb 1 k) (leb k slots) q in
    (leb-true 1 k r.0, leb-true k slots r.1)

-- a slot that is not 0: its place is one of the book's
module _ (s : ℕ) (f : s ≡ 0 → ⊥) (l : s ≤ slots) where
  pub at_least_one : 1 ≤ s
  at_least_one = omega (arith, f)

  pub in_book : s - 1 < slots
  in_book = omega (arith, at_least_one, l)

  pub place_wide : s - 1 < 2 ^ 64
  place_wide = omega (arith, in_book)
