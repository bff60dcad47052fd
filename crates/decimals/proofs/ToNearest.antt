-- What is written is the number, rounded once to nearest, ties to even, with one digit before the point that is not 0. Assumes nothing.
use mathlib.Core.Path.{◌≡◌, sym, ap, ◌∙◌, subst}
use mathlib.Core.Logic.{◌⊎◌, inl, inr, ⊎_elim}
use mathlib.Core.Bool.{Bool, true, false, not, cond}
use Prim.Native.Nat.{ℕ, zero, suc, ◌+◌, ◌*◌, ◌/◌, ◌%◌, ◌^◌, ◌≤◌, ◌<◌, compare, Ordering}
use native.Mathlib.Nat.{le_refl, le_trans, lt_of_not-le, one-mul, mul-le-mul_right, add-mul, div-add-mod', mod-lt, le-div_iff_mul-le}
use native.Mathlib.Omega.{arith}
use lib.Dec.{T, leb, eqb, leb→le, nleb→lt, eqb→eq, eqb_refl}
use Rattle.decimals.specs.Decimal.{Scale, Nearest, climbs, scale_of, to_nearest, rounded, figures_of}
use Rattle.decimals.proofs.Scales.{scale_is, near_lt, near_eq, near_gt}

-- ---- rounding
parity : (q : ℕ) → (q % 2 ≡ 0) ⊎ (q % 2 ≡ 1)
parity q = go (eqb (q % 2) 0) (eqb→eq (q % 2) 0) (λ e. eqb-eq e)
  where
    eqb-eq : (q % 2 ≡ 0) → T (eqb (q % 2) 0)
    eqb-eq e = subst (λ (y : ℕ). T (eqb (q % 2) y)) e (eqb_refl (q % 2))

    go : (t : Bool) → (T t → q % 2 ≡ 0) → (q % 2 ≡ 0 → T t) → (q % 2 ≡ 0) ⊎ (q % 2 ≡ 1)
    go true h k = inl (h tt)
    go false h k = inr (let n : q % 2 ≡ 0 → ⊥ = k in omega (arith, n))

is_lt : (x b q r : ℕ) → q * b + r ≡ x → r * 2 < b → Nearest x b q
is_lt x b q r e h = record {
  below = omega arith;
  above = omega arith;
  even = ⊎_elim (λ w. absurd (omega (arith, w, e, h))) (λ w. absurd (omega (arith, w, e, h)));
}

is_half_even : (x b q r : ℕ) → q * b + r ≡ x → r * 2 ≡ b → q % 2 ≡ 0 → Nearest x b q
is_half_even x b q r e h p = record { below = omega arith; above = omega arith; even = λ w. p }

next_mul : (q b : ℕ) → (q + 1) * b ≡ q * b + b
next_mul q b = add-mul q 1 b ∙ ap (λ (z : ℕ). q * b + z) (one-mul b)

is_half_odd : (x b q r : ℕ) → q * b + r ≡ x → r * 2 ≡ b → q % 2 ≡ 1 → Nearest x b (q + 1)
is_half_odd x b q r e h p = record {
  below = omega (arith, next_mul q b);
  above = omega (arith, next_mul q b);
  even = λ w. omega arith;
}

is_gt : (x b q r : ℕ) → q * b + r ≡ x → r < b → b < r * 2 → Nearest x b (q + 1)
is_gt x b q r e l h = record {
  below = omega (arith, next_mul q b);
  above = omega (arith, next_mul q b);
  even = ⊎_elim (λ w. absurd (omega (arith, w, e, h, next_mul q b))) (λ w. absurd (omega (arith, w, e, h, l, next_mul q b)));
}

nearest_at : (x b q r : ℕ) → q * b + r ≡ x → r < b → Nearest x b (to_nearest q (compare (r * 2) b))
nearest_at x b q r sum rest = go (leb (b + 1) (r * 2)) (leb→le (b + 1) (r * 2)) (nleb→lt (b + 1) (r * 2)) (eqb (r * 2) b) (eqb→eq (r * 2) b) (λ e. subst (λ (y : ℕ). T (eqb (r * 2) y)) e (eqb_refl (r * 2)))
  where
    half : r * 2 ≡ b → (q % 2 ≡ 0) ⊎ (q % 2 ≡ 1) → Nearest x b (q + q % 2)
    half e (inl p) = subst (λ (z : ℕ). Nearest x b z) (omega (arith, p)) (is_half_even x b q r sum e p)
    half e (inr p) = subst (λ (z : ℕ). Nearest x b (q + z)) (sym p) (is_half_odd x b q r sum e p)

    go : (t : Bool) → (T t → b + 1 ≤ r * 2) → (T (not t) → r * 2 < b + 1) → (u : Bool) → (T u → r * 2 ≡ b) → (r * 2 ≡ b → T u) → Nearest x b (to_nearest q (compare (r * 2) b))
    go true h k u e f = subst (λ (z : ℕ). Nearest x b z) (sym (near_gt q (r * 2) b (omega (arith, h tt)))) (is_gt x b q r sum rest (omega (arith, h tt)))
    go false h k true e f = subst (λ (z : ℕ). Nearest x b z) (sym (near_eq q (r * 2) b (e tt))) (half (e tt) (parity q))
    go false h k false e f =
        let ne : r * 2 ≡ b → ⊥ = f in
        subst (λ (z : ℕ). Nearest x b z) (sym (near_lt q (r * 2) b (omega (arith, k tt, ne)))) (is_lt x b q r sum (omega (arith, k tt, ne)))

pub nearest_is : (x b : ℕ) → 0 < b → Nearest x b (rounded x b)
nearest_is x b B = nearest_at x b (x / b) (x % b) (div-add-mod' x b) (mod-lt x B)

-- one at most: two neighbours would both be even
clash : (x b n m : ℕ) → 0 < b → n < m → Nearest x b n → Nearest x b m → ⊥
clash x b n m B h u v =
    let step : (n + 1) * b ≤ m * b = mul-le-mul_right b (omega arith) in
    let tie : 2 * x ≡ 2 * (n * b) + b = omega (arith, u.above, v.below, next_mul n b) in
    let tie' : 2 * (m * b) ≡ 2 * x + b = omega (arith, u.above, v.below, next_mul n b) in
    let close : m < n + 2 = lt_of_not-le (λ (g : n + 2 ≤ m). omega (arith, mul-le-mul_right b g, add-mul n 2 b, tie, tie')) in
    omega (arith, u.even (inr tie), v.even (inl tie'))

pub nearest_once : (x b n m : ℕ) → 0 < b → Nearest x b n → Nearest x b m → n ≡ m
nearest_once x b n m B u v =
    let up : suc n ≤ m → ⊥ = λ h. clash x b n m B h u v in
    let down : suc m ≤ n → ⊥ = λ h. clash x b m n B h v u in
    omega (arith, lt_of_not-le up, lt_of_not-le down)

-- between q and q + 1
at_least : (q : ℕ) (o : Ordering) → q ≤ to_nearest q o
at_least q Ordering.lt = le_refl q
at_least q Ordering.eq = omega arith
at_least q Ordering.gt = omega arith

-- ---- the figures and their place
climbs_le : (f x g : ℕ) → climbs f x g ≤ f
climbs_le zero x g = le_refl 0
climbs_le (suc f) x g = go (leb g x) (climbs_le f (x * 10) g)
  where
    go : (t : Bool) → climbs f (x * 10) g ≤ f → cond t 0 (suc (climbs f (x * 10) g)) ≤ suc f
    go true h = omega arith
    go false h = omega arith

pub scale_le : (a b : ℕ) → scale_of a b ≤ 31
unfolding scale_of
scale_le a b = climbs_le 31 a (1000000000000 * b)

module _ (a b : ℕ) (A : 0 < a) (small : a < 1000000000000) (B : 0 < b) (big : b ≤ 1152921504606846976) where
  pub right : Scale a b (scale_of a b)
  right = scale_is a b A (omega arith) big

  pub n_low : 1000000000000 ≤ figures_of a b
  unfolding figures_of
  n_low = let X = a * 10 ^ scale_of a b in le_trans ((le-div_iff_mul-le B).1 right.low) (at_least (X / b) (compare (X % b * 2) b))

  pub n_near : Nearest (a * 10 ^ scale_of a b) b (figures_of a b)
  unfolding figures_of
  n_near = nearest_is (a * 10 ^ scale_of a b) b B
