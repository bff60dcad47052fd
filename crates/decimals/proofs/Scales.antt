-- The right power of ten: there is one at most, `scale_of` is one, and long division finds it. Then the rounding. All over a fraction a / b. Assumes nothing.
use mathlib.Core.Path.{◌≡◌, refl, sym, ap, ◌∙◌, subst}
use mathlib.Core.Bool.{Bool, true, false, not, cond}
use Prim.Native.Nat.{ℕ, zero, suc, ◌+◌, ◌*◌, ◌/◌, ◌%◌, ◌^◌, ◌≤◌, ◌<◌, compare, Ordering}
use native.Mathlib.Nat.{le_trans, le_of_eq, lt_of_not-le, mul-one, one-mul, mul_assoc, mul_right_comm, mul-le-mul_right, mul-le-mul_left, add-mul, pow-suc, pow-succ', pow-le-pow_right, div-add-mod', div-lt_iff_lt-mul, mod-lt, zero-lt-suc}
use native.Mathlib.Numerals.{add-one}
use native.Mathlib.Omega.{arith}
use lib.Dec.{T, is_le, compare_is_eq, leb, eqb, leb→le, nleb→lt, eqb→eq, eqb_refl}
use lib.Arith.{digits_div, digits_mod}
use Rattle.decimals.specs.Decimal.{Scale, climbs, scale_of, to_nearest, rounded, figures_of}

-- ---- the three cases of the rounding
pub near_lt : (q x b : ℕ) → x < b → to_nearest q (compare x b) ≡ q
near_lt q x b h = go (compare x b) (eqb→eq x b) (nleb→lt x b)
  where
    go : (o : Ordering) → (T (compare_is_eq o) → x ≡ b) → (T (not (is_le o)) → b < x) → to_nearest q o ≡ q
    go Ordering.lt e n = refl
    go Ordering.eq e n = absurd (omega (arith, e tt, h))
    go Ordering.gt e n = absurd (omega (arith, n tt, h))

pub near_eq : (q x b : ℕ) → x ≡ b → to_nearest q (compare x b) ≡ q + q % 2
near_eq q x b h = go (compare x b) (subst (λ (y : ℕ). T (eqb x y)) h (eqb_refl x))
  where
    go : (o : Ordering) → T (compare_is_eq o) → to_nearest q o ≡ q + q % 2
    go Ordering.lt e = absurd e
    go Ordering.eq e = refl
    go Ordering.gt e = absurd e

pub near_gt : (q x b : ℕ) → b < x → to_nearest q (compare x b) ≡ q + 1
near_gt q x b h = go (compare x b) (leb→le x b)
  where
    go : (o : Ordering) → (T (is_le o) → x ≤ b) → to_nearest q o ≡ q + 1
    go Ordering.lt e = absurd (omega (arith, e tt, h))
    go Ordering.eq e = absurd (omega (arith, e tt, h))
    go Ordering.gt e = refl

-- ---- one turn of the long division
pub next_pow : (a k : ℕ) → a * 10 ^ (k + 1) ≡ a * 10 ^ k * 10
next_pow a k = ap (λ (z : ℕ). a * 10 ^ z) (add-one k) ∙ ap (λ (z : ℕ). a * z) (pow-suc 10 k) ∙ sym (mul_assoc a (10 ^ k) 10)

pub turn : (a b q r k : ℕ) → q * b + r ≡ a * 10 ^ k → (q * 10 + r * 10 / b) * b + r * 10 % b ≡ a * 10 ^ (k + 1)
turn a b q r k e = omega (arith, div-add-mod' (r * 10) b, add-mul (q * 10) (r * 10 / b) b, mul_right_comm q 10 b, next_pow a k)

pub digit_lt : (b r : ℕ) → 0 < b → r < b → r * 10 / b < 10
digit_lt b r B h = (div-lt_iff_lt-mul B).1 (omega arith)

-- ---- where it ends
pub found : (a b q r k : ℕ) → q * b + r ≡ a * 10 ^ k → r < b → 1000000000000 ≤ q → q < 10000000000000 → Scale a b k
found a b q r k e h l u = record {
  low = omega (arith, mul-le-mul_right b l);
  high = omega (arith, mul-le-mul_right b u, add-mul q 1 b, one-mul b, add-one q, ap (λ (z : ℕ). z * b) (add-one q));
}

tens : (a k : ℕ) → 0 < a → 10 ^ k ≤ a * 10 ^ k
tens a k h = le_trans (le_of_eq (sym (one-mul (10 ^ k)))) (mul-le-mul_right (10 ^ k) h)

pub short : (a b k : ℕ) → 0 < a → b ≤ 1152921504606846976 → a * 10 ^ k < 1000000000000 * b → k < 31
short a b k A B h = lt_of_not-le (λ (g : 31 ≤ k). omega (arith, tens a k A, pow-le-pow_right {n = 10} (zero-lt-suc 9) {i = 31} {j = k} g))

pub small : (a b q r k : ℕ) → q * b + r ≡ a * 10 ^ k → r < b → q < 1000000000000 → a * 10 ^ k < 1000000000000 * b
small a b q r k e h u = omega (arith, mul-le-mul_right b u, ap (λ (z : ℕ). z * b) (add-one q), add-mul q 1 b, one-mul b)

-- ---- one at most
apart : (a b j k : ℕ) → j < k → Scale a b j → Scale a b k → ⊥
apart a b j k h x y = omega (arith, x.low, y.high, next_pow a j, mul-le-mul_left a (pow-le-pow_right {n = 10} (zero-lt-suc 9) {i = j + 1} {j = k} (omega arith)))

pub scale_once : (a b j k : ℕ) → Scale a b j → Scale a b k → j ≡ k
scale_once a b j k x y =
    let up : suc j ≤ k → ⊥ = λ h. apart a b j k h x y in
    let down : suc k ≤ j → ⊥ = λ h. apart a b k j h y x in
    omega (arith, lt_of_not-le up, lt_of_not-le down)

-- ---- `scale_of` is one
climbs_low : (f x g : ℕ) → g ≤ x * 10 ^ f → g ≤ x * 10 ^ climbs f x g
climbs_low zero x g h = h
climbs_low (suc f) x g h = go (leb g x) (leb→le g x) (climbs_low f (x * 10) g (le_trans h (le_of_eq (shift x f))))
  where
    shift : (x f : ℕ) → x * 10 ^ suc f ≡ x * 10 * 10 ^ f
    shift x f = ap (λ (z : ℕ). x * z) (pow-succ' 10 f) ∙ sym (mul_assoc x 10 (10 ^ f))

    go : (t : Bool) → (T t → g ≤ x) → g ≤ x * 10 * 10 ^ climbs f (x * 10) g → g ≤ x * 10 ^ cond t 0 (suc (climbs f (x * 10) g))
    go true h i = le_trans (h tt) (le_of_eq (sym (mul-one x)))
    go false h i = le_trans i (le_of_eq (sym (shift x (climbs f (x * 10) g))))

climbs_high : (f x g : ℕ) → x < g * 10 → x * 10 ^ climbs f x g < g * 10
climbs_high zero x g h = subst (λ (z : ℕ). z < g * 10) (sym (mul-one x)) h
climbs_high (suc f) x g h = go (leb g x) (nleb→lt g x) (climbs_high f (x * 10) g)
  where
    shift : (x f : ℕ) → x * 10 ^ suc f ≡ x * 10 * 10 ^ f
    shift x f = ap (λ (z : ℕ). x * z) (pow-succ' 10 f) ∙ sym (mul_assoc x 10 (10 ^ f))

    go : (t : Bool) → (T (not t) → x < g) → (x * 10 < g * 10 → x * 10 * 10 ^ climbs f (x * 10) g < g * 10) → x * 10 ^ cond t 0 (suc (climbs f (x * 10) g)) < g * 10
    go true n i = subst (λ (z : ℕ). z < g * 10) (sym (mul-one x)) h
    go false n i = subst (λ (z : ℕ). z < g * 10) (sym (shift x (climbs f (x * 10) g))) (i (omega (arith, n tt)))

pub scale_is : (a b : ℕ) → 0 < a → a < 10000000000000 * b → b ≤ 1152921504606846976 → Scale a b (scale_of a b)
unfolding scale_of
scale_is a b A h B = record {
  low = climbs_low 31 a (1000000000000 * b) (le_trans (mul-le-mul_left 1000000000000 B) (le_trans {m = 10 ^ 31} (lib.Dec.lit≤ tt) (tens a 31 A)));
  high = omega (arith, climbs_high 31 a (1000000000000 * b) (omega arith));
}

-- ---- the answer of the long division
pub rounds : (a b q r k : ℕ) → q * b + r ≡ a * 10 ^ k → r < b → rounded (a * 10 ^ k) b ≡ to_nearest q (compare (r * 2) b)
rounds a b q r k e h = ap (λ (z : ℕ). rounded z b) (sym e) ∙ ap (λ (z : ℕ). to_nearest z (compare ((q * b + r) % b * 2) b)) (digits_div q h) ∙ ap (λ (z : ℕ). to_nearest q (compare (z * 2) b)) (digits_mod q h)

module _ (a b q r k n : ℕ) (A : 0 < a) (small : a < 1000000000000) (B : 0 < b) (big : b ≤ 1152921504606846976)
    (s : Scale a b k) (e : q * b + r ≡ a * 10 ^ k) (h : r < b) (near : n ≡ to_nearest q (compare (r * 2) b)) where
  pub is_scale : k ≡ scale_of a b
  is_scale = scale_once a b k (scale_of a b) s (scale_is a b A (omega arith) big)

  pub is_nearest : n ≡ figures_of a b
  unfolding figures_of
  is_nearest = near ∙ sym (rounds a b q r k e h) ∙ ap (λ (z : ℕ). rounded (a * 10 ^ z) b) is_scale

-- ---- what holds at each turn
pub record Turned (a b q r k : ℕ) : Type 0 where
  pub same : q * b + r ≡ a * 10 ^ k
  pub rest : r < b
  pub top : q < 10000000000000
  pub few : k ≤ 31

-- `1 << p`
abbrev pub one_of : ℕ → ℕ
one_of p = 1 * 2 ^ p % 18446744073709551616

pub one_is : (p : ℕ) → p ≤ 60 → one_of p ≡ 2 ^ p
one_is p h = lib.Pow.shl_exact {a = 1} 1 p 64 (lib.Dec.lit< tt) (omega arith) ∙ one-mul (2 ^ p)

pub one_pos : (p : ℕ) → p ≤ 60 → 0 < one_of p
one_pos p h = rw (one_is p h) (lib.Pow.pow_pos p)

pub one_le : (p : ℕ) → p ≤ 60 → one_of p ≤ 1152921504606846976
one_le p h = rw (one_is p h) (lib.Pow.pow_mono {i = p} {j = 60} h)

pub begins : (a b : ℕ) → 0 < b → a < 4294967296 → Turned a b (a / b) (a % b) 0
begins a b B h = record {
  same = div-add-mod' a b ∙ sym (mul-one a);
  rest = mod-lt a B;
  top = omega (arith, native.Mathlib.Nat.div-le_self a b);
  few = lib.Dec.lit≤ tt;
}

pub goes_on : (a b q r k : ℕ) → 0 < a → 0 < b → b ≤ 1152921504606846976 → q < 1000000000000 → Turned a b q r k → (k < 31) × Turned a b (q * 10 + r * 10 / b) (r * 10 % b) (k + 1)
goes_on a b q r k A B big h t =
    let less : k < 31 = short a b k A big (small a b q r k t.same t.rest h) in (
      less,
      record {
        same = turn a b q r k t.same;
        rest = mod-lt (r * 10) B;
        top = omega (arith, digit_lt b r B t.rest);
        few = omega arith;
      },
    )
