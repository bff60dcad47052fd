-- The bits of numbers: of two combined by exclusive or, of one written from its bits, and that the bits say it all.
-- Assumes nothing.
use mathlib.Core.Path.{◌≡◌, refl, ◌∙◌, subst, sym, ap}
use mathlib.Core.Bool.{Bool, true, false}
use mathlib.Core.Logic.{⊎_elim, ◌⊎◌, inl, inr}
use Prim.Native.Nat.{ℕ, zero, suc, ◌+◌, ◌-◌, ◌/◌, ◌%◌, ◌^◌, ◌≤◌, ◌<◌}
use native.Mathlib.Nat.{mod-lt, mod-eq_of_lt, pow-suc, mul_comm, le_of_suc-le-suc, not-suc-le-zero, zero-lt-suc, zero-div, eq-or-lt_of_le, lt_of_lt_of_le, ne_of_lt, ne_of_gt, one-mul, div-eq_of_lt}
use native.Mathlib.Omega.{arith}
use lib.Arith.{digits_lt, digits_div}
use lib.Bits.{bit_xor, xor_shr, xor_mod, xor_lt}
use lib.Dec.{eqb, ltb}
use lib.Pow.{low, field, mod-mod-pow, shr-shr, shl-shr, pow-add, pow-lt, pow_mono}
use borrow.Author.Tests.{eq-eqb, ne_eqb, ltb-true, ltb-false}
use Rattle.strings.specs.Pick.{pick}
use Rattle.strings.specs.Number.{bit_of, number_from_bits, flip}

pub bit_lt : (n i : ℕ) → bit_of n i < 2
bit_lt n i = mod-lt (n / 2 ^ (i - 1)) (zero-lt-suc 1)

pub bit_zero : (i : ℕ) → bit_of 0 i ≡ 0
bit_zero i = ap (λ (x : ℕ). x % 2) (zero-div (2 ^ (i - 1)))

-- ---- exclusive or
pub xor_digit : (x y : ℕ) → x < 2 → y < 2 → bit_xor x y ≡ (x + y) % 2
xor_digit zero zero h k = refl
xor_digit zero (suc zero) h k = refl
xor_digit zero (suc (suc y)) h k = absurd (not-suc-le-zero (le_of_suc-le-suc (le_of_suc-le-suc k)))
xor_digit (suc zero) zero h k = refl
xor_digit (suc zero) (suc zero) h k = refl
xor_digit (suc zero) (suc (suc y)) h k = absurd (not-suc-le-zero (le_of_suc-le-suc (le_of_suc-le-suc k)))
xor_digit (suc (suc x)) y h k = absurd (not-suc-le-zero (le_of_suc-le-suc (le_of_suc-le-suc h)))

pub bit_xor_lem : (a b i : ℕ) → bit_of (bit_xor a b) i ≡ (bit_of a i + bit_of b i) % 2
bit_xor_lem a b i =
    ap (λ (x : ℕ). x % 2) (xor_shr a b (i - 1)) ∙ xor_mod (a / 2 ^ (i - 1)) (b / 2 ^ (i - 1)) 1
    ∙ xor_digit (bit_of a i) (bit_of b i) (bit_lt a i) (bit_lt b i)

parity_assoc : (x y z : ℕ) → ((x + y) % 2 + z) % 2 ≡ (x + (y + z) % 2) % 2
parity_assoc x y z = omega arith

xor_bits : (a b c i : ℕ) → bit_of (bit_xor (bit_xor a b) c) i ≡ bit_of (bit_xor a (bit_xor b c)) i
xor_bits a b c i =
    bit_xor_lem (bit_xor a b) c i ∙ ap (λ (x : ℕ). (x + bit_of c i) % 2) (bit_xor_lem a b i) ∙ parity_assoc (bit_of a i) (bit_of b i) (bit_of c i)
    ∙ sym (bit_xor_lem a (bit_xor b c) i ∙ ap (λ (x : ℕ). (bit_of a i + x) % 2) (bit_xor_lem b c i))

-- ---- a number is its bits
digits_same : (k a b : ℕ) → a < 2 ^ k → b < 2 ^ k → ((i : ℕ) → i < k → a / 2 ^ i % 2 ≡ b / 2 ^ i % 2) → a ≡ b
digits_same zero a b ha hb h = omega arith
digits_same (suc k) a b ha hb h =
    let p = pow-suc 2 k in
    let half : (x i : ℕ) → x / 2 / 2 ^ i % 2 ≡ x / 2 ^ suc i % 2 = (λ x i. ap (λ (y : ℕ). y % 2) (shr-shr x 1 i) ∙ ap (λ (j : ℕ). x / 2 ^ j % 2) (omega arith)) in
    let e = digits_same k (a / 2) (b / 2) (omega arith) (omega arith) (λ i l. half a i ∙ h (suc i) (omega arith) ∙ sym (half b i)) in
    let z = h 0 (omega arith) in
    omega arith

pub bits_same : (k a b : ℕ) → a < 2 ^ k → b < 2 ^ k → ((i : ℕ) → 1 ≤ i → i ≤ k → bit_of a i ≡ bit_of b i) → a ≡ b
bits_same k a b ha hb h =
    digits_same k a b ha hb (λ i l. let e : suc i - 1 ≡ i = omega arith in subst (λ (j : ℕ). a / 2 ^ j % 2 ≡ b / 2 ^ j % 2) e (h (suc i) (omega arith) (omega arith)))

pub xor_assoc : (k a b c : ℕ) → a < 2 ^ k → b < 2 ^ k → c < 2 ^ k → bit_xor (bit_xor a b) c ≡ bit_xor a (bit_xor b c)
xor_assoc k a b c ha hb hc =
    bits_same k (bit_xor (bit_xor a b) c) (bit_xor a (bit_xor b c)) (xor_lt k (bit_xor a b) c (xor_lt k a b ha hb) hc) (xor_lt k a (bit_xor b c) ha (xor_lt k b c hb hc))
    (λ i l u. xor_bits a b c i)

-- two numbers that differ in no bit are the same
pub xor_same : (k a b : ℕ) → a < 2 ^ k → b < 2 ^ k → bit_xor a b ≡ 0 → a ≡ b
xor_same k a b ha hb e =
    bits_same k a b ha hb
    (λ i l u. omega (arith, bit_xor_lem a b i, ap (λ (x : ℕ). bit_of x i) e, bit_zero i, bit_lt a i, bit_lt b i))

-- ---- the low bits
pub low_digit : (x m i : ℕ) → i < m → x % 2 ^ m / 2 ^ i % 2 ≡ x / 2 ^ i % 2
low_digit x m i h =
    let e : m ≡ (m - 1 - i + 1) + i = omega arith in
    ap (λ (j : ℕ). x % 2 ^ j / 2 ^ i % 2) e ∙ ap (λ (y : ℕ). y % 2) (field x (m - 1 - i + 1) i) ∙ mod-mod-pow (x / 2 ^ i) (m - 1 - i) 1

pub high_bit : (x i m : ℕ) → x < 2 ^ m → m < i → bit_of x i ≡ 0
high_bit x i m h l =
    let g : x < 2 ^ (i - 1) = lt_of_lt_of_le h (pow_mono {i = m} {j = i - 1} (omega arith)) in
    ap (λ (y : ℕ). y % 2) (div-eq_of_lt g)

-- ---- a number written from its bits
pub from_lt : (f : ℕ → ℕ) → ((i : ℕ) → f i < 2) → (m : ℕ) → number_from_bits f m < 2 ^ m
from_lt f h zero = zero-lt-suc 0
from_lt f h (suc m) = subst (λ (x : ℕ). number_from_bits f (suc m) < x) (mul_comm 2 (2 ^ m) ∙ sym (pow-suc 2 m)) (digits_lt (h (suc m)) (from_lt f h m))

from_digit : (f : ℕ → ℕ) → ((i : ℕ) → f i < 2) → (m i : ℕ) → i < m → number_from_bits f m / 2 ^ i % 2 ≡ f (suc i)
from_digit f h zero i l = absurd (not-suc-le-zero l)
from_digit f h (suc m) i l =
    let x = number_from_bits f (suc m) in
    let r = number_from_bits f m in
    let b = from_lt f h m in
    ⊎_elim
    (λ (e : i ≡ m). ap (λ (j : ℕ). x / 2 ^ j % 2) e ∙ ap (λ (y : ℕ). y % 2) (digits_div (f (suc m)) b) ∙ mod-eq_of_lt (h (suc m)) ∙ ap (λ (j : ℕ). f (suc j)) (sym e))
    (λ (g : i < m). sym (low_digit x m i g) ∙ ap (λ (y : ℕ). y / 2 ^ i % 2) (low (f (suc m)) m b) ∙ from_digit f h m i g)
    (eq-or-lt_of_le (le_of_suc-le-suc l))

pub bit_from : (f : ℕ → ℕ) → ((i : ℕ) → f i < 2) → (m i : ℕ) → 1 ≤ i → i ≤ m → bit_of (number_from_bits f m) i ≡ f i
bit_from f h m i l u =
    let e : suc (i - 1) ≡ i = omega arith in
    from_digit f h m (i - 1) (omega arith) ∙ ap f e

-- ---- a flip
three_by : (i j : ℕ) (t u : Bool) → ltb i j ≡ t → ltb j i ≡ u → (i < j) ⊎ ((i ≡ j) ⊎ (j < i))
three_by i j true u p q = inl (ltb-true i j p)
three_by i j false true p q = inr (inr (ltb-true j i q))
three_by i j false false p q = inr (inl (omega (arith, ltb-false i j p, ltb-false j i q)))

pub three : (i j : ℕ) → (i < j) ⊎ ((i ≡ j) ⊎ (j < i))
three i j = three_by i j (ltb i j) (ltb j i) refl refl

-- bit i of the weight of bit j
pub bit_one : (i j : ℕ) → 1 ≤ i → 1 ≤ j → bit_of (2 ^ (j - 1)) i ≡ pick (eqb i j) 1 0
bit_one i j l l' =
    ⊎_elim
    (λ (g : i < j). let e : j - 1 ≡ suc (j - 1 - i) + (i - 1) = omega arith in
    let z : 2 ^ suc (j - 1 - i) % 2 ≡ 0 = omega (arith, pow-suc 2 (j - 1 - i)) in
    ap (λ (k : ℕ). 2 ^ k / 2 ^ (i - 1) % 2) e
    ∙ ap (λ (x : ℕ). x / 2 ^ (i - 1) % 2) (pow-add 2 (suc (j - 1 - i)) (i - 1))
    ∙ ap (λ (x : ℕ). x % 2) (shl-shr (2 ^ suc (j - 1 - i)) (i - 1)) ∙ z ∙ rw (ne_eqb i j (ne_of_lt g)))
    (⊎_elim
    (λ (e : i ≡ j). ap (λ (k : ℕ). 2 ^ (j - 1) / 2 ^ (k - 1) % 2) e
    ∙ ap (λ (x : ℕ). x / 2 ^ (j - 1) % 2) (sym (one-mul (2 ^ (j - 1))))
    ∙ ap (λ (x : ℕ). x % 2) (shl-shr 1 (j - 1)) ∙ rw (eq-eqb i j e))
    (λ (g : j < i). high_bit (2 ^ (j - 1)) i j (pow-lt {i = j - 1} {j = j} (omega arith)) g ∙ rw (ne_eqb i j (ne_of_gt g))))
    (three i j)

pub bit_flip : (n i j : ℕ) → 1 ≤ i → 1 ≤ j → bit_of (flip n j) i ≡ (bit_of n i + pick (eqb i j) 1 0) % 2
unfolding flip
bit_flip n i j l l' = bit_xor_lem n (2 ^ (j - 1)) i ∙ ap (λ (x : ℕ). (bit_of n i + x) % 2) (bit_one i j l l')

pub flip_lt : (k n i : ℕ) → n < 2 ^ k → 1 ≤ i → i ≤ k → flip n i < 2 ^ k
unfolding flip
flip_lt k n i h l u = xor_lt k n (2 ^ (i - 1)) h (pow-lt {i = i - 1} {j = k} (omega arith))

pub flip_undo : (k n i : ℕ) → n < 2 ^ k → 1 ≤ i → i ≤ k → flip (flip n i) i ≡ n
flip_undo k n i h l u =
    let f = flip_lt k n i h l u in
    bits_same k (flip (flip n i) i) n (flip_lt k (flip n i) i f l u) h
    (λ j lj uj. omega (arith, bit_flip (flip n i) j i lj l, bit_flip n j i lj l, bit_lt n j))
