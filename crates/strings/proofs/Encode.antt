-- For every choice of bits 85..9 there is exactly one encoded string, and it is the one that `encode` makes.
-- Assumes nothing.
use mathlib.Core.Path.{◌≡◌, refl, ◌∙◌, subst, sym, ap, ap₂}
use Prim.Native.Nat.{ℕ, zero, suc, ◌+◌, ◌-◌, ◌*◌, ◌/◌, ◌%◌, ◌^◌, ◌≤◌, ◌<◌}
use native.Mathlib.Nat.{mod-eq_of_lt, mod-lt, div-add-mod', mul-zero, zero-mul, one-mul, lt_trans, zero-lt-suc}
use native.Mathlib.Omega.{arith}
use lib.Bits.{bit_xor, xor_self, xor_shr, xor_lt, xor_zero_l, xor_zero_r, xor_shifted, xor_comm}
use lib.Dec.{lit<, lit≤}
use lib.Pow.{mod-pow-add, pow_pos, pow-lt, shr_lt}
use borrow.Author.Tests.{le-leb}
use Rattle.strings.specs.Number.{bit_of, flip}
use Rattle.strings.specs.Hamming.{position, syndrome, sum_all, Encoded, sums_made, encode}
use Rattle.strings.proofs.Digits.{xor_assoc, xor_same}
use Rattle.strings.proofs.Sums.{syndrome_linear, sum_all_linear, syndrome_lt, sum_all_lt, one_syndrome}

-- ---- check bits alone: C_k is check bit k, and bit 8 is in no sum but C
none : syndrome 0 ≡ 0
none = syndrome_linear 0 0 ∙ xor_self (syndrome 0)

-- bit m+1, set or not
bit_syndrome : (d m : ℕ) → d < 2 → m < 85 → syndrome (d * 2 ^ m) ≡ d * position (suc m)
bit_syndrome zero m h u = ap syndrome (zero-mul (2 ^ m)) ∙ none ∙ sym (zero-mul (position (suc m)))
bit_syndrome (suc zero) m h u =
    let e : m ≡ suc m - 1 = omega arith in
    ap syndrome (one-mul (2 ^ m) ∙ ap (λ (j : ℕ). 2 ^ j) e) ∙ one_syndrome (suc m) (omega arith) u ∙ sym (one-mul (position (suc m)))
bit_syndrome (suc (suc d)) m h u = absurd (omega arith)

-- S of the highest bit and of those below it, combined
split : (m k : ℕ) → m < 85 → k < 2 ^ (1 + m) → syndrome k ≡ bit_xor (k / 2 ^ m * position (suc m)) (syndrome (k % 2 ^ m))
split m k u h =
    let d = k / 2 ^ m in
    let r = k % 2 ^ m in
    ap syndrome (sym (xor_shifted d m r (mod-lt k (pow_pos m)) ∙ div-add-mod' k (2 ^ m)))
    ∙ syndrome_linear (d * 2 ^ m) r ∙ ap (λ (x : ℕ). bit_xor x (syndrome r)) (bit_syndrome d m (shr_lt 1 m h) u)

check_position : (m : ℕ) → m < 7 → position (suc m) ≡ 2 ^ m
unfolding position
check_position m h = let e : 2 ^ (suc m - 1) ≡ 2 ^ m = ap (λ (j : ℕ). 2 ^ j) (omega arith) in rw (le-leb (suc m) 7 h, e)

sums_alone : (m k : ℕ) → m ≤ 7 → k < 2 ^ m → syndrome k ≡ k
sums_alone zero k u h = let z : k ≡ 0 = omega arith in ap syndrome z ∙ none ∙ sym z
sums_alone (suc m) k u h =
    let d = k / 2 ^ m in
    let r = k % 2 ^ m in
    let l = mod-lt k (pow_pos m) in
    split m k (omega arith) (subst (λ (j : ℕ). k < 2 ^ j) (omega arith) h)
    ∙ ap₂ bit_xor (ap (λ (x : ℕ). d * x) (check_position m u)) (sums_alone m r (omega arith) l) ∙ xor_shifted d m r l ∙ div-add-mod' k (2 ^ m)

position_8 : position 8 ≡ 0
unfolding position
position_8 = refl

low_syndrome : (k : ℕ) → k < 256 → syndrome k ≡ k % 128
low_syndrome k h =
    split 7 k (lit< tt) h
    ∙ ap₂ bit_xor (ap (λ (x : ℕ). k / 128 * x) position_8 ∙ mul-zero (k / 128)) (sums_alone 7 (k % 128) (lit≤ tt) (mod-lt k (zero-lt-suc 127)))
    ∙ xor_zero_l (k % 128)

-- bit 8 alone
eighth : (b : ℕ) → b < 2 → sum_all (b * 2 ^ 7) ≡ b
unfolding sum_all
eighth zero h = refl
eighth (suc zero) h = refl
eighth (suc (suc b)) h = absurd (omega arith)

-- ---- the string that `encode` makes is encoded
made_syndrome : (n : ℕ) → syndrome (sums_made n) ≡ 0
unfolding sums_made
made_syndrome n =
    let h = syndrome_lt n in
    syndrome_linear n (syndrome n) ∙ ap (bit_xor (syndrome n)) (low_syndrome (syndrome n) (omega arith) ∙ mod-eq_of_lt h) ∙ xor_self (syndrome n)

pub encode_encoded : (n : ℕ) → Encoded (encode n)
unfolding encode
encode_encoded n =
    let m = sums_made n in
    let b = sum_all m in
    let h = sum_all_lt m in
    let z : b * 2 ^ 7 % 128 ≡ 0 = omega arith in
    record {
      sums = syndrome_linear m (b * 2 ^ 7) ∙ ap₂ bit_xor (made_syndrome n) (low_syndrome (b * 2 ^ 7) (omega arith) ∙ z);
      all = omega (arith, sum_all_linear m (b * 2 ^ 7), eighth b h);
    }

-- with bits 85..9 as they were
low_stays : (n k : ℕ) → k < 256 → bit_xor n k / 2 ^ 8 ≡ n / 2 ^ 8
low_stays n k h = let z : k / 2 ^ 8 ≡ 0 = omega arith in xor_shr n k 8 ∙ ap (bit_xor (n / 2 ^ 8)) z ∙ xor_zero_r (n / 2 ^ 8)

pub encode_stays : (n : ℕ) → encode n / 2 ^ 8 ≡ n / 2 ^ 8
unfolding encode sums_made
encode_stays n =
    let m = bit_xor n (syndrome n) in
    let h = syndrome_lt n in
    let b = sum_all_lt m in
    low_stays m (sum_all m * 2 ^ 7) (omega arith) ∙ low_stays n (syndrome n) (omega arith)

made_lt : (n : ℕ) → n < 2 ^ 85 → sums_made n < 2 ^ 85
unfolding sums_made
made_lt n h = let s = syndrome_lt n in xor_lt 85 n (syndrome n) h (omega arith)

pub encode_lt : (n : ℕ) → n < 2 ^ 85 → encode n < 2 ^ 85
unfolding encode
encode_lt n h = let b = sum_all_lt (sums_made n) in xor_lt 85 (sums_made n) (sum_all (sums_made n) * 2 ^ 7) (made_lt n h) (omega arith)

-- ---- and it is the only one
-- an encoded string of check bits alone is 0
low_alone : (w : ℕ) → w < 256 → Encoded w → w ≡ 0
low_alone w h v =
    let s : w % 128 ≡ 0 = sym (low_syndrome w h) ∙ v.sums in
    let e : w ≡ w / 128 * 2 ^ 7 = omega arith in
    let b : w / 128 ≡ 0 = sym (eighth (w / 128) (omega arith)) ∙ ap sum_all (sym e) ∙ v.all in
    omega arith

pub encoded_once : (n k : ℕ) → n < 2 ^ 85 → k < 2 ^ 85 → Encoded k → k / 2 ^ 8 ≡ n / 2 ^ 8 → k ≡ encode n
encoded_once n k hn hk v e =
    let m = encode n in
    let u = encode_encoded n in
    let w = bit_xor k m in
    let z : w / 2 ^ 8 ≡ 0 = xor_shr k m 8 ∙ ap (λ (x : ℕ). bit_xor x (m / 2 ^ 8)) (e ∙ sym (encode_stays n)) ∙ xor_self (m / 2 ^ 8) in
    xor_same 85 k m hk (encode_lt n hn)
    (low_alone w (omega arith)
    (record {
      sums = syndrome_linear k m ∙ ap₂ bit_xor v.sums u.sums;
      all = sum_all_linear k m ∙ ap₂ (λ (x y : ℕ). (x + y) % 2) v.all u.all;
    }))

-- ---- the loop that makes the check bits: those below bit k are made
unfoldable pub made_to : ℕ → ℕ → ℕ
made_to n k = bit_xor n (syndrome n % 2 ^ (k - 1))

pub made_to_lt : (n k : ℕ) → n < 2 ^ 85 → 1 ≤ k → k ≤ 8 → made_to n k < 2 ^ 85
unfolding made_to
made_to_lt n k h l u =
    xor_lt 85 n (syndrome n % 2 ^ (k - 1)) h (lt_trans (mod-lt (syndrome n) (pow_pos (k - 1))) (pow-lt {i = k - 1} {j = 85} (omega arith)))

pub made_none : (n : ℕ) → n ≡ made_to n 1
unfolding made_to
made_none n = let z : syndrome n % 2 ^ 0 ≡ 0 = omega arith in sym (ap (bit_xor n) z ∙ xor_zero_r n)

pub made_all : (n : ℕ) → made_to n 8 ≡ sums_made n
unfolding made_to sums_made
made_all n = ap (bit_xor n) (mod-eq_of_lt (syndrome_lt n))

-- one digit more of S
digit_more : (s k : ℕ) → 1 ≤ k → s % 2 ^ (k + 1 - 1) ≡ bit_of s k * 2 ^ (k - 1) + s % 2 ^ (k - 1)
digit_more s k l = let e : k + 1 - 1 ≡ 1 + (k - 1) = omega arith in ap (λ (j : ℕ). s % 2 ^ j) e ∙ mod-pow-add s 1 (k - 1)

pub made_clear : (n k : ℕ) → 1 ≤ k → bit_of (syndrome n) k ≡ 0 → made_to n k ≡ made_to n (k + 1)
unfolding made_to
made_clear n k l e =
    let s = syndrome n in
    ap (bit_xor n) (sym (digit_more s k l ∙ ap (λ (b : ℕ). b * 2 ^ (k - 1) + s % 2 ^ (k - 1)) e ∙ omega arith))

pub made_set : (n k : ℕ) → n < 2 ^ 85 → 1 ≤ k → k ≤ 7 → bit_of (syndrome n) k ≡ 1 → flip (made_to n k) k ≡ made_to n (k + 1)
unfolding made_to flip
made_set n k h l u e =
    let s = syndrome n in
    let r = s % 2 ^ (k - 1) in
    let w = 2 ^ (k - 1) in
    let rl : r < w = mod-lt s (pow_pos (k - 1)) in
    let wl : w < 2 ^ 85 = pow-lt {i = k - 1} {j = 85} (omega arith) in
    xor_assoc 85 n r w h (lt_trans rl wl) wl
    ∙ ap (bit_xor n) (xor_comm r w ∙ ap (λ (x : ℕ). bit_xor x r) (sym (one-mul w)) ∙ xor_shifted 1 (k - 1) r rl
    ∙ sym (digit_more s k l ∙ ap (λ (b : ℕ). b * w + r) e))

-- at last bit 8
pub eighth_set : (n : ℕ) → sum_all (sums_made n) ≡ 1 → flip (sums_made n) 8 ≡ encode n
unfolding flip encode
eighth_set n e = ap (λ (b : ℕ). bit_xor (sums_made n) (b * 2 ^ 7)) (sym e)

pub eighth_clear : (n : ℕ) → sum_all (sums_made n) ≡ 0 → sums_made n ≡ encode n
unfolding encode
eighth_clear n e = sym (ap (λ (b : ℕ). bit_xor (sums_made n) (b * 2 ^ 7)) e ∙ xor_zero_r (sums_made n))
