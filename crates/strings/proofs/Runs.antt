-- The sums as the check adds them up: bit after bit, C beside S at the weight 128, and the runs of the position rule.
-- Assumes nothing.
use mathlib.Core.Path.{◌≡◌, refl, ◌∙◌, sym, ap, ap₂}
use mathlib.Core.Bool.{Bool, true, false, not, ◌&&◌, ◌||◌}
use mathlib.Core.Logic.{⊎_elim, ◌⊎◌, inl, inr}
use Prim.Native.Nat.{ℕ, zero, suc, ◌+◌, ◌-◌, ◌*◌, ◌/◌, ◌%◌, ◌^◌, ◌≤◌, ◌<◌}
use native.Mathlib.Nat.{mod-lt, mod-eq_of_lt, zero-mul, one-mul}
use native.Mathlib.Omega.{arith}
use lib.Bits.{bit_xor, xor_block, xor_comm, xor_shifted, xor_zero_r, xor_self}
use lib.Dec.{T, lit<, leb, le→leb, leb→le, eqb, eqb→eq}
use lib.Pow.{pow_pos, mod-pow-add, high, low, shl_exact}
use borrow.Author.Tests.{le-leb}
use Rattle.strings.specs.Number.{bit_of, flip}
use Rattle.strings.specs.Hamming.{position, syndrome, sum_all}
use Rattle.strings.proofs.Below.{below, below_at}
use Rattle.strings.proofs.Digits.{bit_lt, xor_digit}
use Rattle.strings.proofs.Sums.{syndrome_lt, syndrome_linear, sum_all_lt, sum_all_linear, one_syndrome, flip_all, position_lt}

-- S with C beside it
abbrev pub sums_of : ℕ → ℕ
sums_of n = sum_all n * 128 + syndrome n

-- two numbers below 128, each with C beside it, combine part by part
beside : (a b x y : ℕ) → a < 2 → b < 2 → x < 128 → y < 128 → bit_xor (a * 128 + x) (b * 128 + y) ≡ (a + b) % 2 * 128 + bit_xor x y
beside a b x y ha hb hx hy = xor_block 7 a b x y hx hy ∙ ap (λ (z : ℕ). z * 128 + bit_xor x y) (xor_digit a b ha hb)

-- and are parted again
pub parted : (n : ℕ) → (sums_of n % 128 ≡ syndrome n) × (sums_of n / 128 ≡ sum_all n)
parted n = (low (sum_all n) 7 (syndrome_lt n), high (sum_all n) 7 (syndrome_lt n))

-- ---- the string of the bits 1..m of n alone, and one bit more
flip_sums : (n i : ℕ) → 1 ≤ i → i ≤ 85 → sums_of (flip n i) ≡ bit_xor (sums_of n) (128 + position i)
unfolding flip
flip_sums n i l u =
    ap₂ (λ (c s : ℕ). c * 128 + s) (flip_all n i l u) (syndrome_linear n (2 ^ (i - 1)) ∙ ap (bit_xor (syndrome n)) (one_syndrome i l u))
    ∙ sym (beside (sum_all n) 1 (syndrome n) (position i) (sum_all_lt n) (lit< tt) (syndrome_lt n) (position_lt i l u))

cut_more : (n i : ℕ) → 1 ≤ i → n % 2 ^ i ≡ bit_of n i * 2 ^ (i - 1) + n % 2 ^ (i - 1)
cut_more n i l =
    let e : i ≡ 1 + (i - 1) = omega arith in
    ap (λ (k : ℕ). n % 2 ^ k) e ∙ mod-pow-add n 1 (i - 1)

cut_set : (n i : ℕ) → 1 ≤ i → bit_of n i ≡ 1 → n % 2 ^ i ≡ flip (n % 2 ^ (i - 1)) i
unfolding flip
cut_set n i l e =
    let x = n % 2 ^ (i - 1) in
    cut_more n i l ∙ ap (λ (b : ℕ). b * 2 ^ (i - 1) + x) e ∙ sym (xor_shifted 1 (i - 1) x (mod-lt n (pow_pos (i - 1))))
    ∙ xor_comm (1 * 2 ^ (i - 1)) x ∙ ap (bit_xor x) (one-mul (2 ^ (i - 1)))

cut_clear : (n i : ℕ) → 1 ≤ i → bit_of n i ≡ 0 → n % 2 ^ i ≡ n % 2 ^ (i - 1)
cut_clear n i l e = omega (arith, cut_more n i l, ap (λ (b : ℕ). b * 2 ^ (i - 1)) e, zero-mul (2 ^ (i - 1)))

clear_or_set : (b : ℕ) → b < 2 → (b ≡ 0) ⊎ (b ≡ 1)
clear_or_set zero h = inl refl
clear_or_set (suc zero) h = inr refl
clear_or_set (suc (suc b)) h = absurd (omega arith)

-- what a bit turns is at most eight bits wide
pub turned_lt : (b p : ℕ) → b < 2 → p < 128 → b * (128 + p) < 256
turned_lt b p h l =
    ⊎_elim
    (λ (z : b ≡ 0). omega (arith, ap (λ (c : ℕ). c * (128 + p)) z, zero-mul (128 + p)))
    (λ (z : b ≡ 1). omega (arith, ap (λ (c : ℕ). c * (128 + p)) z, one-mul (128 + p)))
    (clear_or_set b h)

one_more_lem : (n i : ℕ) → 1 ≤ i → i ≤ 85 → bit_xor (sums_of (n % 2 ^ (i - 1))) (bit_of n i * (128 + position i)) ≡ sums_of (n % 2 ^ i)
one_more_lem n i l u =
    let x = sums_of (n % 2 ^ (i - 1)) in
    ⊎_elim
    (λ (z : bit_of n i ≡ 0). ap (λ (b : ℕ). bit_xor x (b * (128 + position i))) z ∙ ap (bit_xor x) (zero-mul (128 + position i)) ∙ xor_zero_r x
    ∙ ap sums_of (sym (cut_clear n i l z)))
    (λ (z : bit_of n i ≡ 1). ap (λ (b : ℕ). bit_xor x (b * (128 + position i))) z ∙ ap (bit_xor x) (one-mul (128 + position i))
    ∙ sym (flip_sums (n % 2 ^ (i - 1)) i l u) ∙ ap sums_of (sym (cut_set n i l z)))
    (clear_or_set (bit_of n i) (bit_lt n i))

-- a bit b added at p, as the code does it
pub added : (n i : ℕ) {t b p : ℕ} → 1 ≤ i → i ≤ 85 → t ≡ sums_of (n % 2 ^ (i - 1)) → b ≡ bit_of n i → p ≡ position i
    → bit_xor t (b * (128 + p)) ≡ sums_of (n % 2 ^ i)
added n i l u et eb ep = ap₂ bit_xor et (ap₂ (λ (b p : ℕ). b * (128 + p)) eb ep) ∙ one_more_lem n i l u

-- no bit, and all of them
no_S : syndrome 0 ≡ 0
no_S = syndrome_linear 0 0 ∙ xor_self (syndrome 0)

no_C : sum_all 0 ≡ 0
no_C = omega (arith, sum_all_linear 0 0)

pub none_yet : (n : ℕ) → 0 ≡ sums_of (n % 2 ^ 0)
none_yet n = let e : 0 ≡ n % 2 ^ 0 = omega arith in sym (ap₂ (λ (c s : ℕ). c * 128 + s) no_C no_S) ∙ ap sums_of e

pub whole : (n : ℕ) → n < 2 ^ 85 → sums_of (n % 2 ^ 85) ≡ sums_of n
whole n h = ap sums_of (mod-eq_of_lt h)

-- ---- the position rule: a check bit, as the machine shifts 1 to it
pub check_at : (k : ℕ) → 1 ≤ k → k ≤ 7 → 1 * 2 ^ (k - 1) % 2 ^ 32 ≡ position k
unfolding position
check_at k l u = shl_exact {a = 1} 1 (k - 1) 32 (lit< tt) (omega arith) ∙ one-mul (2 ^ (k - 1)) ∙ rw (le-leb k 7 u)

pub position_8 : 0 ≡ position 8
unfolding position
position_8 = refl

pub position_9 : 3 ≡ position 9
unfolding position
position_9 = refl

-- a run, bits low to high: d less than the bit number
abbrev run_test : ℕ → ℕ → ℕ → ℕ → Bool
run_test low high d j = not (leb low (suc j) && leb (suc j) high) || eqb (position (suc j)) (suc j - d)

implied : (a b c : Bool) → T (not (a && b) || c) → T a → T b → T c
implied true true c t p q = t
implied true false c t p q = absurd q
implied false b c t p q = absurd p

pub in_run : (low high d : ℕ) → T (leb 1 low) → T (leb high 85) → T (below 85 (run_test low high d)) → (i : ℕ) → low ≤ i → i ≤ high → position i ≡ i - d
in_run low high d p q t zero l u = absurd (omega (arith, leb→le 1 low p))
in_run low high d p q t (suc j) l u =
    let at = below_at 85 (run_test low high d) t j (omega (arith, leb→le high 85 q)) in
    eqb→eq _ _ (implied (leb low (suc j)) (leb (suc j) high) (eqb (position (suc j)) (suc j - d)) at (le→leb _ _ l) (le→leb _ _ u))
