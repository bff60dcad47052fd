-- A list of tests before others, in one number: of a call that they stop (stopped), and of one that they let through (let_through); an output that has room,
-- and one that has not (has_room, no_room; room-none, then-nothing, then-made where a test for NOTHING follows).
-- Assumes nothing.
use mathlib.Core.Path.{◌≡◌, refl, sym, ap, ◌∙◌}
use mathlib.Core.Bool.{Bool, true, false, not}
use mathlib.Core.List.{List, [], ◌∷◌, ◌++◌}
use Prim.Native.Nat.{ℕ, zero, suc, ◌<◌, ◌≤◌}
use native.Mathlib.Omega.{arith}
use borrow.Author.Tests.{eq-eqb, ne_eqb}
use lib.Dec.{T, eqb}
use lib.ListN.{length}
use Rattle.strings.specs.Pick.{pick}
use Rattle.strings.specs.Numbers.{Test, test, first_of, said_by, answer_of}
use Rattle.strings.proofs.Below.{and_left, and_right}
use Rattle.strings.proofs.Tests.{placeless, no_place, all_of}
use Rattle.told.specs.Told.{packed}
use Rattle.lent_queries.specs.Lent.{room_test, Tells, PutsOut}

abbrev pub is_number : ℕ → Bool
is_number n = not (eqb n 0)

-- tests that tell no place: the answer is the first number
one_number : (k : ℕ) → packed (said_by k [] []) ≡ k
one_number zero = refl
one_number (suc k) = omega arith

pub number_of : (ts : List Test) → T (placeless ts) → packed (answer_of ts []) ≡ first_of ts
number_of ts p = ap (λ (l : List ℕ). packed (said_by (first_of ts) l [])) (no_place ts p) ∙ one_number (first_of ts)

-- one of us fits: it gives the number
pub first_stops : (us ts : List Test) (r : ℕ) → r ≡ first_of us → 0 < r → first_of (us ++ ts) ≡ r
first_stops [] ts r e l = absurd (omega (arith, e, l))
first_stops (u ∷ us) ts r e l = by u.fits u.number e (λ q. first_stops us ts r q l)
  where
    by : (b : Bool) (n : ℕ) → r ≡ pick b n (first_of us) → (r ≡ first_of us → first_of (us ++ ts) ≡ r) → pick b n (first_of (us ++ ts)) ≡ r
    by true n q next = sym q
    by false n q next = next q

-- none does: the others give it
pub first_passes : (us ts : List Test) → T (all_of is_number us) → first_of us ≡ 0 → first_of (us ++ ts) ≡ first_of ts
first_passes [] ts a e = refl
first_passes (u ∷ us) ts a e =
    by u.fits u.number (and_left (is_number u.number) (all_of is_number us) a) e (first_passes us ts (and_right (is_number u.number) (all_of is_number us) a))
  where
    by : (b : Bool) (n : ℕ) → T (is_number n) → pick b n (first_of us) ≡ 0 → (first_of us ≡ 0 → first_of (us ++ ts) ≡ first_of ts) → pick b n (first_of (us ++ ts)) ≡ first_of ts
    by true zero z q next = absurd z
    by true (suc k) z q next = absurd (omega (arith, q))
    by false n z q next = next q

module _ {X : Type 0} (made out : X) where
  left_as_was : (k : ℕ) → 0 < k → out ≡ pick (eqb k 0) made out
  left_as_was k l = rw (ne_eqb k 0 (λ e. omega (arith, e, l)))

  -- a call tests the number z of the tests that stand first for 0
  pub stopped : (us ts : List Test) (z : ℕ) → T (placeless (us ++ ts)) → z ≡ first_of us → 0 < z → Tells (us ++ ts) made out out z
  stopped us ts z p e l =
      let f = first_stops us ts z e l in
      record { answer = sym f ∙ sym (number_of (us ++ ts) p); output = left_as_was z l ∙ ap (λ (k : ℕ). pick (eqb k 0) made out) (sym f) }

  pub let_through : (us ts : List Test) (out' : X) (z r : ℕ) → T (placeless (us ++ ts)) → T (placeless ts) → T (all_of is_number us) → z ≡ first_of us → z ≤ 0 → Tells ts made out out' r → Tells (us ++ ts) made out out' r
  let_through us ts out' z r p p' a e n g =
      let none : z ≡ 0 = omega arith in
      let f = first_passes us ts a (sym e ∙ none) in
      record { answer = g.answer ∙ number_of ts p' ∙ sym f ∙ sym (number_of (us ++ ts) p); output = g.output ∙ ap (λ (k : ℕ). pick (eqb k 0) made out) (sym f) }

-- ---- ROOM, and NOTHING after it
module _ {X Y : Type 0} (n : ℕ) (out : List X) (made was : Y) where
  pub room_none : (ts : List Test) → (length out ≡ n → ⊥) → Tells (room_test n out ∷ ts) made was was 12
  room_none ts f = let q = ne_eqb (length out) n f in record { answer = rw q; output = rw q }

  pub then_nothing : (b : Bool) → length out ≡ n → b ≡ true → Tells (room_test n out ∷ test 13 b ∷ []) made was was 13
  then_nothing b e g = let q = eq-eqb (length out) n e in record { answer = rw (q, g); output = rw (q, g) }

  pub then_made_lem : (b : Bool) (now' : Y) → length out ≡ n → b ≡ false → now' ≡ made → Tells (room_test n out ∷ test 13 b ∷ []) made was now' 0
  then_made_lem b now' e g m = let q = eq-eqb (length out) n e in record { answer = rw (q, g); output = rw (q, g, m) }

pub no_room_lem : (n : ℕ) (made out : List ℕ) → (length out ≡ n → ⊥) → PutsOut n made out out 12
no_room_lem n made out f = room_none n out made out [] f

pub has_room_lem : (n : ℕ) (made out out' : List ℕ) → length out ≡ n → out' ≡ made → PutsOut n made out out' 0
has_room_lem n made out out' e m = let q = eq-eqb (length out) n e in record { answer = rw q; output = rw (q, m) }
