-- Each slot 1..24 has exactly one pair of places in a superframe: table-4-1.
-- Assumes nothing.
use mathlib.Core.Path.{◌≡◌, refl, sym, subst}
use mathlib.Core.Bool.{Bool, true, false, ◌||◌, true≢false}
use Prim.Native.Nat.{ℕ, zero, suc, ◌+◌, ◌-◌, ◌*◌, ◌%◌, ◌≤◌, ◌<◌}
use native.Mathlib.Omega.{arith}
use borrow.Author.Tests.{eqb-true}
use lib.Dec.{eqb}
use Rattle.strings.specs.Pick.{is_one_of}
use Rattle.superframe.specs.Table41.{pairs, slot_of_pair, frame_of_slot, pair_of_slot, Table41}

-- ---- the five pairs, one by one
pub pair_cases : (P : ℕ → Type 0) → P 6 → P 8 → P 10 → P 12 → P 14 → (p : ℕ) → is_one_of pairs p ≡ true → P p
pair_cases P a b c d f p = by (eqb p 6) (eqb p 8) (eqb p 10) (eqb p 12) (eqb p 14) refl refl refl refl refl
  where
    by : (i j k l m : Bool) → eqb p 6 ≡ i → eqb p 8 ≡ j → eqb p 10 ≡ k → eqb p 12 ≡ l → eqb p 14 ≡ m → (i || (j || (k || (l || (m || false))))) ≡ true → P p
    by true j k l m q r s t u w = subst P (sym (eqb-true p 6 q)) a
    by false true k l m q r s t u w = subst P (sym (eqb-true p 8 r)) b
    by false false true l m q r s t u w = subst P (sym (eqb-true p 10 s)) c
    by false false false true m q r s t u w = subst P (sym (eqb-true p 12 t)) d
    by false false false false true q r s t u w = subst P (sym (eqb-true p 14 u)) f
    by false false false false false q r s t u w = absurd (true≢false (sym w))

-- a slot's pair is one of the five
pub pair_named : (k : ℕ) → is_one_of pairs (pair_of_slot k) ≡ true
pair_named k = by ((k - 1) % 5) (omega arith)
  where
    by : (r : ℕ) → r < 5 → is_one_of pairs (6 + 2 * r) ≡ true
    by zero l = refl
    by (suc zero) l = refl
    by (suc (suc zero)) l = refl
    by (suc (suc (suc zero))) l = refl
    by (suc (suc (suc (suc zero)))) l = refl
    by (suc (suc (suc (suc (suc r))))) l = absurd (omega arith)

-- a pair of a frame has a slot, and is the slot's
record Placed (g p : ℕ) : Type 0 where
  least : 1 ≤ slot_of_pair g p
  most : slot_of_pair g p ≤ 24
  frame : frame_of_slot (slot_of_pair g p) ≡ g
  pair : pair_of_slot (slot_of_pair g p) ≡ p

placed : (g : ℕ) → g < 5 → (p : ℕ) → is_one_of pairs p ≡ true → (p ≡ 14 → g < 4) → Placed g p
placed g l =
    pair_cases (λ p. (p ≡ 14 → g < 4) → Placed g p)
    (λ h. record { least = omega arith; most = omega arith; frame = omega arith; pair = omega arith })
    (λ h. record { least = omega arith; most = omega arith; frame = omega arith; pair = omega arith })
    (λ h. record { least = omega arith; most = omega arith; frame = omega arith; pair = omega arith })
    (λ h. record { least = omega arith; most = omega arith; frame = omega arith; pair = omega arith })
    (λ h. let k : g < 4 = h refl in record { least = omega arith; most = omega arith; frame = omega arith; pair = omega arith })

-- EACH SLOT HAS EXACTLY ONE PAIR OF PLACES
pub table_4_1 : Table41
table_4_1 =
    record {
      there = λ k a b. ((omega arith, (pair_named k, (λ q. omega arith))), omega arith);
      slot = λ g p h. let o = placed g h.0 p h.1.0 h.1.1 in (o.least, o.most);
      only = λ g p h. let o = placed g h.0 p h.1.0 h.1.1 in (o.frame, o.pair);
    }
