-- Decimal digits: what `io::decimal` spells is the definition's (spelled), and how many there are (cell-length).
-- Assumes nothing.
use mathlib.Core.Path.{◌≡◌, sym, ap, subst, ◌∙◌}
use mathlib.Core.Bool.{Bool, true, false}
use mathlib.Core.List.{List, []}
use Prim.Native.Nat.{ℕ, zero, suc, ◌+◌, ◌-◌, ◌/◌, ◌%◌, ◌^◌, ◌≤◌, ◌<◌}
use native.Mathlib.Nat.{le_of_suc-le-suc, lt_of_not-le, pow-le-pow_right}
use native.Mathlib.Omega.{arith}
use borrow.Author.Tests.{lt-ltb, le-ltb}
use lib.Dec.{ltb}
use lib.ListN.{length, take, length-append}
use Rattle.io.specs.Counts.{IsPrefixLen}
use Rattle.io.specs.Digits.{hex_digit_ascii, last_digits, IsDigitCount}
use Rattle.strings.specs.Pick.{pick}
use Rattle.digits.specs.Text.{last_digits_of, decimal, cell}

glyph_is : (n : ℕ) → hex_digit_ascii (n % 10) ≡ 48 + n % 10
glyph_is n = rw (lt-ltb (n % 10) 10 (omega arith))

-- two digits or more: the number has a tenth, which has one fewer
tenth : (k n : ℕ) → IsDigitCount 10 1 n (suc (suc k)) → 10 ^ suc k ≤ n
tenth k n f =
    let e : suc (suc k) - 1 ≡ suc k = omega arith in
    subst (λ (j : ℕ). 10 ^ j ≤ n) e (f.2 (omega arith))

fewer : (k n : ℕ) → IsDigitCount 10 1 n (suc (suc k)) → IsDigitCount 10 1 (n / 10) (suc k)
fewer k n f =
    let e : k ≡ suc k - 1 = omega arith in
    let l : 10 ^ k ≤ n / 10 = omega (arith, tenth k n f) in
    (omega arith, omega (arith, f.1), λ h. subst (λ (j : ℕ). 10 ^ j ≤ n / 10) e l)

digits_are : (k n m : ℕ) → k ≤ m → IsDigitCount 10 1 n k → last_digits 10 k n ≡ last_digits_of m n
digits_are zero n m h f = absurd (omega (arith, f.0))
digits_are (suc k) n zero h f = absurd (omega arith)
digits_are (suc zero) n (suc m) h f = rw (lt-ltb n 10 (omega (arith, f.1)), glyph_is)
digits_are (suc (suc k)) n (suc m) h f =
    rw (le-ltb n 10 (omega (arith, tenth k n f)), glyph_is n, digits_are (suc k) (n / 10) m (le_of_suc-le-suc h) (fewer k n f))

-- twenty are enough for 64 bits
at_most : (n k : ℕ) → n < 2 ^ 64 → IsDigitCount 10 1 n k → k ≤ 20
at_most n k h f = omega (arith, lt_of_not-le many)
  where
    many : 21 ≤ k → ⊥
    many l =
        let i : 20 ≤ k - 1 = omega arith in
        let p : 10 ^ 20 ≤ 10 ^ (k - 1) = pow-le-pow_right (omega arith) i in
        omega (arith, p, f.2 (omega arith))

-- what `io::decimal` puts at the start of its output
pub spelled : (n k : ℕ) (out : List ℕ) → n < 2 ^ 64 → IsPrefixLen k out → IsDigitCount 10 1 n k → take k out ≡ last_digits 10 k n
    → (take k out ≡ decimal n) × (length (decimal n) ≡ k)
unfolding decimal
spelled n k out h c f e =
    let d = e ∙ digits_are k n 20 (at_most n k h f) f in
    (d, ap length (sym d) ∙ sym c.1)

-- ---- how many digits
-- a number below 10 ^ k has at most k, and one even where it is 0
digits_length : (k n m : ℕ) → 1 ≤ k → n < 10 ^ k → length (last_digits_of m n) ≤ k
digits_length k n zero l h = omega arith
digits_length zero n (suc m) l h = absurd (omega arith)
digits_length (suc zero) n (suc m) l h = rw (lt-ltb n 10 (omega arith)) (omega arith)
digits_length (suc (suc k)) n (suc m) l h =
    simp length-append (by (ltb n 10) (digits_length (suc k) (n / 10) m (omega arith) (omega arith)))
  where
    by : (t : Bool) → length (last_digits_of m (n / 10)) ≤ suc k → length (pick t [] (last_digits_of m (n / 10))) + 1 ≤ suc (suc k)
    by true i = omega arith
    by false i = omega arith

decimal_length : (k n : ℕ) → 1 ≤ k → n < 10 ^ k → length (decimal n) ≤ k
unfolding decimal
decimal_length k n = digits_length k n 20

pub cell_length : (k n after : ℕ) → 1 ≤ k → n < 10 ^ k → length (cell n after) ≤ k + 1
cell_length k n after l h = simp length-append (omega (arith, decimal_length k n l h))
