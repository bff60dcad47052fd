-- For a below 10 ^ 12 and b below 2 * 10 ^ 13, so for every 2 ^ p with p to 44, nothing rounds up to 10 ^ 13: a / b * 10 ^ k and 10 ^ 13 are both multiples of
-- 10 ^ j / b for a j with b < 2 * 10 ^ j, so the one is more than a half below the other. Assumes nothing.
use mathlib.Core.Path.{◌≡◌, refl, sym, ap, ◌∙◌, subst}
use mathlib.Core.Logic.{◌⊎◌, inl, inr}
use mathlib.Core.Bool.{Bool, true, false, not}
use Prim.Native.Nat.{ℕ, zero, suc, ◌+◌, ◌-◌, ◌*◌, ◌^◌, ◌≤◌, ◌<◌}
use native.Mathlib.Nat.{le_refl, le_trans, lt_of_not-le, lt_of_mul-lt-mul_right, mul_assoc, mul-le-mul_right, mul-le-mul_left, pow-le-pow_right, zero-lt-suc, add-mul, one-mul}
use native.Mathlib.Omega.{arith}
use lib.Dec.{T, leb, leb→le, nleb→lt}
use lib.Pow.{pow-add, pow_pos, pow_mono}
use Rattle.decimals.specs.Decimal.{Scale, Nearest, scale_of, figures_of}
use Rattle.decimals.specs.Theorems.{NoCarry}
use Rattle.decimals.proofs.Scales.{scale_is}
use Rattle.decimals.proofs.ToNearest.{n_near}

-- the least j, up to m, with b < 2 * 10 ^ j
abbrev Least : ℕ → ℕ → ℕ → Type 0
Least m b j = (j ≤ m) × (b < 2 * 10 ^ j) × ((j ≡ 0) ⊎ (2 * 10 ^ (j - 1) ≤ b))

least : (m b : ℕ) → b < 2 * 10 ^ m → (j : ℕ) × Least m b j
least zero b h = (0, (le_refl 0, h, inl refl))
least (suc m) b h = go (leb (2 * 10 ^ m) b) (leb→le (2 * 10 ^ m) b) (nleb→lt (2 * 10 ^ m) b) (λ (q : b < 2 * 10 ^ m). least m b q)
  where
    last : suc m - 1 ≡ m
    last = omega arith

    more : (j : ℕ) → j ≤ m → j ≤ suc m
    more j g = omega arith

    go : (t : Bool) → (T t → 2 * 10 ^ m ≤ b) → (T (not t) → b < 2 * 10 ^ m) → (b < 2 * 10 ^ m → (j : ℕ) × Least m b j) → (j : ℕ) × Least (suc m) b j
    go true p q i = (suc m, (le_refl (suc m), h, inr (subst (λ (z : ℕ). 2 * 10 ^ z ≤ b) (sym last) (p tt))))
    go false p q i = let r = i (q tt) in (r.0, (more r.0 r.1.0, r.1.1, r.1.2))

tens_le : (i j : ℕ) → i ≤ j → 10 ^ i ≤ 10 ^ j
tens_le i j h = pow-le-pow_right {n = 10} (zero-lt-suc 9) {i = i} {j = j} h

reaches : (a b j k : ℕ) → a < 1000000000000 → Scale a b k → (j ≡ 0) ⊎ (2 * 10 ^ (j - 1) ≤ b) → j ≤ k
reaches a b j k A s (inl e) = omega arith
reaches a b j k A s (inr h) =
    let far : suc k ≤ j → ⊥ = λ g. omega (arith, s.low, mul-le-mul_left a (tens_le k (j - 1) (omega arith)), mul-le-mul_right (10 ^ (j - 1)) A, h, add-mul a 1 (10 ^ (j - 1)), one-mul (10 ^ (j - 1)), pow-pos10 (j - 1), ap (λ (z : ℕ). z * 10 ^ (j - 1)) (native.Mathlib.Numerals.add-one a)) in
    omega (arith, lt_of_not-le far)
  where
    pow-pos10 : (i : ℕ) → 1 ≤ 10 ^ i
    pow-pos10 i = tens_le 0 i (omega arith)

-- two multiples of c, one below the other, are c apart
gap : (u w c : ℕ) → u * c < w * c → u * c + c ≤ w * c
gap u w c h = le_trans (native.Mathlib.Nat.le_of_eq (sym (add-mul u 1 c ∙ ap (λ (z : ℕ). u * c + z) (one-mul c)))) (mul-le-mul_right c (less (lt_of_mul-lt-mul_right c h)))
  where
    less : u < w → u + 1 ≤ w
    less g = omega arith

as_multiple : (x j k : ℕ) → j ≤ k → x * 10 ^ k ≡ x * 10 ^ (k - j) * 10 ^ j
as_multiple x j k h = ap (λ (z : ℕ). x * 10 ^ z) (sum j k h) ∙ ap (λ (z : ℕ). x * z) (pow-add 10 (k - j) j) ∙ sym (mul_assoc x (10 ^ (k - j)) (10 ^ j))
  where
    sum : (j k : ℕ) → j ≤ k → k ≡ k - j + j
    sum j k h = omega arith

apart : (a b j k : ℕ) → j ≤ k → j ≤ 13 → Scale a b k → a * 10 ^ k + 10 ^ j ≤ 10000000000000 * b
apart a b j k h g s =
    let e = as_multiple a j k h in
    let f : 10000000000000 * b ≡ b * 10 ^ (13 - j) * 10 ^ j = native.Mathlib.Nat.mul_comm 10000000000000 b ∙ as_multiple b j 13 g in
    let d : a * 10 ^ (k - j) * 10 ^ j < b * 10 ^ (13 - j) * 10 ^ j = omega (arith, e, f, s.high) in
    omega (arith, e, f, gap (a * 10 ^ (k - j)) (b * 10 ^ (13 - j)) (10 ^ j) d)

no_ten : (a b k n j : ℕ) → j ≤ k → Least 13 b j → Scale a b k → Nearest (a * 10 ^ k) b n → n < 10000000000000
no_ten a b k n j h l s u = lt_of_not-le (λ (g : 10000000000000 ≤ n). omega (arith, mul-le-mul_right b g, u.below, apart a b j k h l.0 s, l.1))

pub below_ten : (a b : ℕ) → 0 < a → a < 1000000000000 → 0 < b → b < 20000000000000 → figures_of a b < 10000000000000
below_ten a b A small B big =
    let l = least 13 b big in
    let s = scale_is a b A (omega arith) (omega arith) in
    no_ten a b (scale_of a b) (figures_of a b) l.0 (reaches a b l.0 (scale_of a b) small s l.1.2) l.1 s (n_near a b A small B (omega arith))

pub power_least : (p : ℕ) → 0 < 2 ^ p
power_least p = pow_pos p

pub power_most : (p : ℕ) → p ≤ 44 → 2 ^ p < 20000000000000
power_most p h = omega (arith, pow_mono {i = p} {j = 44} h)

pub no_carry : NoCarry
no_carry a p A small h = below_ten a (2 ^ p) A (omega (arith, small)) (power_least p) (power_most p h)
