-- The table of the code and its rule, shown once over all of it: the list of what the register puts out, one digit a step, computes to the table.
-- Assumes nothing.
use native.Mathlib.Omega.{arith}
use native.Mathlib.Nat.{not-suc-le-zero, le_of_suc-le-suc, mod-lt, zero-lt-suc}
use Prim.Native.Nat.{ℕ, zero, suc, ◌+◌, ◌-◌, ◌*◌, ◌/◌, ◌%◌, ◌<◌, ◌≤◌}
use mathlib.Core.Path.{◌≡◌, refl, sym, ap, ◌∙◌}
use mathlib.Core.List.{List, [], ◌∷◌}
use lib.ListN.{get_or}
use Rattle.chips.specs.Register.{Register, ones, step, output, after, chip_of}
use Rattle.chips.specs.Known.{known}

-- the digits that the register puts out in n steps
abbrev pub digits : ℕ → Register → List ℕ
digits zero r = []
digits (suc n) r = (48 + output r) ∷ digits n (step r)

digits_at : (n : ℕ) (r : Register) (k : ℕ) → k < n → get_or (digits n r) k 0 ≡ 48 + output (after k r)
digits_at zero r k h = absurd (not-suc-le-zero h)
digits_at (suc n) r zero h = refl
digits_at (suc n) r (suc k) h = digits_at n (step r) k (le_of_suc-le-suc h)

-- ---- the code repeats
after_more : (a b : ℕ) (r : Register) → after (a + b) r ≡ after b (after a r)
after_more zero b r = let e : 0 + b ≡ b = omega arith in ap (λ (n : ℕ). after n r) e
after_more (suc a) b r = let e : suc a + b ≡ suc (a + b) = omega arith in ap (λ (n : ℕ). after n r) e ∙ after_more a b (step r)

rounds : (q : ℕ) → after (511 * q) ones ≡ ones
rounds zero = refl
rounds (suc q) =
    let e : 511 * suc q ≡ 511 * q + 511 = omega arith in
    ap (λ (n : ℕ). after n ones) e ∙ after_more (511 * q) 511 ones ∙ ap (after 511) (rounds q) ∙ known.back

-- its 511 chips come again every millisecond
pub repeats : (k : ℕ) → chip_of k ≡ chip_of (k % 511)
unfolding chip_of
repeats k =
    let e : k ≡ 511 * (k / 511) + k % 511 = omega arith in
    ap (λ (n : ℕ). output (after n ones)) e ∙ ap output (after_more (511 * (k / 511)) (k % 511) ones)
    ∙ ap (λ (r : Register). output (after (k % 511) r)) (rounds (k / 511))

digit : (k : ℕ) → k < 511 → get_or (digits 511 ones) k 0 ≡ 48 + chip_of k
unfolding chip_of
digit k h = digits_at 511 ones k h

pub chip_at : (k : ℕ) → get_or (digits 511 ones) (k % 511) 0 ≡ 48 + chip_of k
chip_at k = digit (k % 511) (mod-lt k (zero-lt-suc 510)) ∙ ap (λ (n : ℕ). 48 + n) (sym (repeats k))

pub digit_up : (x y : ℕ) → x ≡ 48 + y → 48 ≤ x
digit_up x y e = omega arith

pub digit_off : (x y : ℕ) → x ≡ 48 + y → x - 48 ≡ y
digit_off x y e = omega arith
