-- The sums are linear: the sums of two strings combined bit by bit are the two strings' sums combined bit by bit. The sums of one bit alone.
-- Assumes nothing.
use mathlib.Core.Path.{◌≡◌, refl, ◌∙◌, sym, ap, ap₂}
use mathlib.Core.Bool.{Bool}
use mathlib.Core.Logic.{⊎_elim}
use Prim.Native.Nat.{ℕ, zero, suc, ◌+◌, ◌-◌, ◌*◌, ◌/◌, ◌%◌, ◌^◌, ◌≤◌, ◌<◌}
use native.Mathlib.Nat.{div-add-mod', mul-add, mul_assoc, mul-zero, mul-one, mod-lt, mod-eq_of_lt, zero-lt-suc, not-suc-le-zero, eq-or-lt_of_le, ne_of_lt, ne_of_gt}
use native.Mathlib.Omega.{arith}
use lib.Bits.{bit_xor, xor_lt}
use lib.Dec.{T, ltb, ltb→lt}
use borrow.Author.Tests.{eq-eqb, ne_eqb}
use Rattle.strings.specs.Number.{bit_of, flip}
use Rattle.strings.specs.Hamming.{position, add_up, syndrome, sum_c, sum_all}
use Rattle.strings.proofs.Below.{below, below_at}
use Rattle.strings.proofs.Digits.{bit_lt, bit_one, bit_xor_lem, bit_from, from_lt, bits_same}

times_mod : (w z : ℕ) → w * z ≡ w * (z / 2) * 2 + w * (z % 2)
times_mod w z =
    ap (λ (x : ℕ). w * x) (sym (div-add-mod' z 2)) ∙ mul-add w (z / 2 * 2) (z % 2) ∙ ap (λ (x : ℕ). x + w * (z % 2)) (sym (mul_assoc w (z / 2) 2))

pub add_linear : (w : ℕ → ℕ) (a b m : ℕ) → add_up w (bit_xor a b) m % 2 ≡ (add_up w a m + add_up w b m) % 2
add_linear w a b zero = refl
add_linear w a b (suc m) =
    let x = bit_of a (suc m) in
    let y = bit_of b (suc m) in
    let e = ap (λ (z : ℕ). w (suc m) * z) (bit_xor_lem a b (suc m)) in
    omega (arith, add_linear w a b m, e, times_mod (w (suc m)) (x + y), mul-add (w (suc m)) x y)

parts : (x y z : ℕ) → x % 2 ≡ (y + z) % 2 → x % 2 ≡ (y % 2 + z % 2) % 2
parts x y z e = omega arith

pub sum_c_linear : (k a b : ℕ) → sum_c k (bit_xor a b) ≡ (sum_c k a + sum_c k b) % 2
unfolding sum_c
sum_c_linear k a b = parts _ _ _ (add_linear (λ i. bit_of (position i) k) a b 85)

pub sum_all_linear : (a b : ℕ) → sum_all (bit_xor a b) ≡ (sum_all a + sum_all b) % 2
unfolding sum_all
sum_all_linear a b = parts _ _ _ (add_linear (λ i. 1) a b 85)

pub sum_c_lt : (k n : ℕ) → sum_c k n < 2
unfolding sum_c
sum_c_lt k n = mod-lt _ (zero-lt-suc 1)

pub sum_all_lt : (n : ℕ) → sum_all n < 2
unfolding sum_all
sum_all_lt n = mod-lt _ (zero-lt-suc 1)

-- C_k is bit k of S
pub syndrome_bit : (n k : ℕ) → 1 ≤ k → k ≤ 7 → bit_of (syndrome n) k ≡ sum_c k n
unfolding syndrome
syndrome_bit n k l u = bit_from (λ k. sum_c k n) (λ k. sum_c_lt k n) 7 k l u

pub syndrome_lt : (n : ℕ) → syndrome n < 128
unfolding syndrome
syndrome_lt n = from_lt (λ k. sum_c k n) (λ k. sum_c_lt k n) 7

-- a number below 128 whose bits are the sums is S
pub syndrome_is : (s n : ℕ) → s < 128 → ((k : ℕ) → bit_of s k ≡ sum_c k n) → s ≡ syndrome n
syndrome_is s n h e = bits_same 7 s (syndrome n) h (syndrome_lt n) (λ k l u. e k ∙ sym (syndrome_bit n k l u))

pub syndrome_linear : (a b : ℕ) → syndrome (bit_xor a b) ≡ bit_xor (syndrome a) (syndrome b)
syndrome_linear a b =
    let s = syndrome a in
    let t = syndrome b in
    bits_same 7 (syndrome (bit_xor a b)) (bit_xor s t) (syndrome_lt (bit_xor a b)) (xor_lt 7 s t (syndrome_lt a) (syndrome_lt b))
    (λ k l u. syndrome_bit (bit_xor a b) k l u ∙ sum_c_linear k a b
    ∙ sym (bit_xor_lem s t k ∙ ap₂ (λ (x y : ℕ). (x + y) % 2) (syndrome_bit a k l u) (syndrome_bit b k l u)))

-- ---- one bit alone: what is added up is the bit's own weight, once the bit is reached
add_before : (w : ℕ → ℕ) (i m : ℕ) → m < i → add_up w (2 ^ (i - 1)) m ≡ 0
add_before w i zero h = refl
add_before w i (suc m) h =
    let z : bit_of (2 ^ (i - 1)) (suc m) ≡ 0 = bit_one (suc m) i (omega arith) (omega arith) ∙ rw (ne_eqb (suc m) i (ne_of_lt h)) in
    omega (arith, add_before w i m (omega arith), ap (λ (x : ℕ). w (suc m) * x) z, mul-zero (w (suc m)))

add_one : (w : ℕ → ℕ) (i m : ℕ) → 1 ≤ i → i ≤ m → add_up w (2 ^ (i - 1)) m ≡ w i
add_one w i zero l u = absurd (omega arith)
add_one w i (suc m) l u =
    ⊎_elim
    (λ (e : i ≡ suc m). let b : bit_of (2 ^ (i - 1)) (suc m) ≡ 1 = bit_one (suc m) i (omega arith) l ∙ rw (eq-eqb (suc m) i (sym e)) in
    omega (arith, add_before w i m (omega arith), ap (λ (x : ℕ). w (suc m) * x) b, mul-one (w (suc m)), ap w e))
    (λ (g : i < suc m). let z : bit_of (2 ^ (i - 1)) (suc m) ≡ 0 = bit_one (suc m) i (omega arith) l ∙ rw (ne_eqb (suc m) i (ne_of_gt g)) in
    omega (arith, add_one w i m l (omega arith), ap (λ (x : ℕ). w (suc m) * x) z, mul-zero (w (suc m))))
    (eq-or-lt_of_le u)

-- every position is below 128
small_test : ℕ → Bool
small_test j = ltb (position (suc j)) 128

smalls : T (below 85 small_test)
unfolding small_test position
smalls = tt

pub position_lt : (i : ℕ) → 1 ≤ i → i ≤ 85 → position i < 128
unfolding small_test
position_lt zero l h = absurd (not-suc-le-zero l)
position_lt (suc j) l h = ltb→lt _ _ (below_at 85 small_test smalls j h)

-- S of bit i alone is the bit's position
one_sum : (k i : ℕ) → 1 ≤ i → i ≤ 85 → sum_c k (2 ^ (i - 1)) ≡ bit_of (position i) k
unfolding sum_c
one_sum k i l u = ap (λ (x : ℕ). x % 2) (add_one (λ i. bit_of (position i) k) i 85 l u) ∙ mod-eq_of_lt (bit_lt (position i) k)

pub one_syndrome : (i : ℕ) → 1 ≤ i → i ≤ 85 → syndrome (2 ^ (i - 1)) ≡ position i
one_syndrome i l u = sym (syndrome_is (position i) (2 ^ (i - 1)) (position_lt i l u) (λ k. sym (one_sum k i l u)))

-- C of it is 1, so a flip turns C
one_all : (i : ℕ) → 1 ≤ i → i ≤ 85 → sum_all (2 ^ (i - 1)) ≡ 1
unfolding sum_all
one_all i l u = ap (λ (x : ℕ). x % 2) (add_one (λ i. 1) i 85 l u)

pub flip_all : (n i : ℕ) → 1 ≤ i → i ≤ 85 → sum_all (flip n i) ≡ (sum_all n + 1) % 2
unfolding flip
flip_all n i l u = sum_all_linear n (2 ^ (i - 1)) ∙ ap (λ (x : ℕ). (sum_all n + x) % 2) (one_all i l u)
