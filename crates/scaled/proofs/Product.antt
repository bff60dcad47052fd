-- An integer of at most 53 binary digits and 2 ^ -unit, both as floats of 64 bits: the float of the number raw / 2 ^ unit is there (is-number, is-float), and
-- their product is that float (product_is).
-- Assumes nothing.
use mathlib.Core.Path.{◌≡◌, refl, sym, ap, ◌∙◌, subst}
use Prim.Native.Nat.{ℕ, zero, suc, ◌+◌, ◌-◌, ◌*◌, ◌/◌, ◌^◌, ◌≤◌, ◌<◌}
use native.Mathlib.Nat.{mul-one, one-mul, mul_assoc, mul_comm, mul_left_comm, mul_right_comm, mul-pos, lt_of_lt_of_le, le_of_lt, eq_of_mul-eq-mul_right, zero-add}
use native.Mathlib.Omega.{arith}
use mathlib.Core.Bool.{Bool, true, false, cond}
use lib.Dec.{T, leb, leb→le, nleb→lt}
use lib.IntN.{ℤ, pos, negsuc, nat_abs}
use lib.Pow.{pow-add, pow_pos, pow_mono, shl_lt}
use lib.Count.{count_trailing_zeros}
use lib.Ieee.{Float, nan, inf, fin, binary64, up, down, minus, odd, round, mul, of_int, fits}
use lib.Ieee.Fits.{down_pos, odd-fits, mul-fits}
use lib.Ieee.Exact.{HasValue, odd_sign, round_exact}
use lib.Ieee.Back.{round_whole}
use Rattle.scaled.specs.Scaled.{below0}
use Rattle.scaled.proofs.Once.{one_float}

-- raw / 2 ^ u as a float
abbrev pub float_of : ℤ → ℕ → Float
float_of raw u = odd 53 (below0 raw) (nat_abs raw) 0 u

-- ---- it is the number itself, and a float of the format
abbrev minus_at : Bool → ℕ → ℕ → ℤ
minus_at b a l = cond b (pos (a - l)) (negsuc (l - suc a))

minus_add : (a b c : ℕ) → minus (c + a) (c + b) ≡ minus a b
minus_add a b c = go (leb (c + b) (c + a)) (leb b a) (leb→le (c + b) (c + a)) (nleb→lt (c + b) (c + a)) (leb→le b a) (nleb→lt b a)
  where
    go : (x y : Bool) → (T x → c + b ≤ c + a) → (T (mathlib.Core.Bool.not x) → c + a < c + b) → (T y → b ≤ a) → (T (mathlib.Core.Bool.not y) → a < b) → minus_at x (c + a) (c + b) ≡ minus_at y a b
    go true true h k p q = ap pos (omega arith)
    go false false h k p q = ap negsuc (omega (arith, k tt))
    go true false h k p q = absurd (omega (arith, h tt, q tt))
    go false true h k p q = absurd (omega (arith, k tt, p tt))

odd_add : (d : ℕ) (s : Bool) (q l c : ℕ) → odd d s q c (c + l) ≡ odd d s q 0 l
unfolding odd
odd_add d s zero l c = refl
odd_add d s (suc q) l c =
    let t = count_trailing_zeros d (suc q) in
    ap (λ (e : ℤ). fin s (suc q / 2 ^ t) e) (minus_add t l c ∙ ap (λ (x : ℕ). minus x l) (sym (zero-add t)))

pub is_number_lem : (raw : ℤ) (unit : ℕ) → HasValue (float_of raw unit) (below0 raw) (nat_abs raw) (2 ^ unit)
is_number_lem raw unit =
    subst (λ (a : ℕ). HasValue (odd 53 (below0 raw) (nat_abs raw) 0 unit) (below0 raw) a (2 ^ unit)) (mul-one (nat_abs raw)) (odd_sign 53 (below0 raw) (nat_abs raw) 0 unit)

room : (q j : ℕ) → q < 2 ^ 53 → j ≤ 1074 → q * 2 ^ j < 2 ^ 2098
room q j h k = lt_of_lt_of_le (shl_lt 53 j h) (pow_mono {i = 53 + j} {j = 2098} (omega arith))

pub is_float : (raw : ℤ) (unit : ℕ) → nat_abs raw < 2 ^ 53 → unit ≤ 1074 → T (fits binary64 (float_of raw unit))
is_float raw unit h u =
    let j = 1074 - unit in
    let same : j + unit ≡ 1074 = omega arith in
    let at : odd 53 (below0 raw) (nat_abs raw) j 1074 ≡ odd 53 (below0 raw) (nat_abs raw) 0 unit =
    ap (λ (l : ℕ). odd 53 (below0 raw) (nat_abs raw) j l) (sym same) ∙ odd_add 53 (below0 raw) (nat_abs raw) unit j in
    subst (λ (x : Float). T (fits binary64 x)) at (odd-fits binary64 53 (below0 raw) (nat_abs raw) j h (le_of_lt h) (room (nat_abs raw) j h (omega arith)))

-- ---- the product
pub rescale : (x : Float) (s : Bool) (w l num den : ℕ) → 0 < l → num * l ≡ w * den → HasValue x s w l → HasValue x s num den
rescale nan s w l num den p h v = v
rescale (inf t) s w l num den p h v = v
rescale (fin t m e) s w l num den p h v = (
  v.0,
  eq_of_mul-eq-mul_right l p (m * up e * den) (num * down e)
      (mul_right_comm (m * up e) den l
      ∙ ap (λ (x : ℕ). x * den) v.1
      ∙ mul_right_comm w (down e) den
      ∙ ap (λ (x : ℕ). x * down e) (sym h)
      ∙ mul_right_comm num l (down e)),
)

-- with A = q * E and B / D = 1 / U
cross : (A B q E D U : ℕ) → A * 1 ≡ q * E → B * U ≡ 1 * D → A * B * U ≡ q * (E * D)
cross A B q E D U g h = mul_assoc A B U ∙ ap (λ (z : ℕ). A * z) (h ∙ one-mul D) ∙ ap (λ (z : ℕ). z * D) (sym (mul-one A) ∙ g) ∙ mul_assoc q E D

wide : (P J U q G : ℕ) → P * U ≡ q * G → P * (J * U) ≡ q * J * G
wide P J U q G h = mul_left_comm P J U ∙ ap (λ (z : ℕ). J * z) h ∙ sym (mul_assoc J q G) ∙ ap (λ (z : ℕ). z * G) (mul_comm J q)

unlike_false : (t : Bool) → lib.Ieee.unlike t false ≡ t
unlike_false true = refl
unlike_false false = refl

product : (s : Bool) (q unit : ℕ) (x y : Float) → q < 2 ^ 53 → unit ≤ 1074 → HasValue x s q 1 → HasValue y false 1 (2 ^ unit) → HasValue (mul binary64 x y) s q (2 ^ unit)
unfolding mul
product s q unit nan y h u v w = absurd v
product s q unit (inf t) y h u v w = absurd v
product s q unit (fin t m e) nan h u v w = absurd w
product s q unit (fin t m e) (inf o) h u v w = absurd w
product s q unit (fin t m e) (fin true n d) h u v w = absurd (mathlib.Core.Bool.true≢false w.0)
product s q unit (fin t m e) (fin false n d) h u v w =
    let A = m * up e in
    let B = n * up d in
    let j = 1074 - unit in
    let split : 2 ^ 1074 ≡ 2 ^ j * 2 ^ unit = ap (λ (z : ℕ). 2 ^ z) (sym (back unit u)) ∙ pow-add 2 j unit in
    let c : A * B * 2 ^ unit ≡ q * (down e * down d) = cross A B q (down e) (down d) (2 ^ unit) v.1 w.1 in
    let D : 0 < down e * down d = mul-pos (down_pos e) (down_pos d) in
    let full : A * B * 2 ^ 1074 ≡ q * 2 ^ j * (down e * down d) = ap (λ (z : ℕ). A * B * z) split ∙ wide (A * B) (2 ^ j) (2 ^ unit) q (down e * down d) c in
    subst (λ (o : Bool). HasValue (round binary64 o (A * B) (down e * down d)) s q (2 ^ unit)) (sym (unlike_false t ∙ v.0))
    (rescale (round binary64 s (A * B) (down e * down d)) s (A * B) (down e * down d) q (2 ^ unit) D (sym c)
    (round_exact binary64 s (A * B) (down e * down d) q j D h (room q j h (less unit)) full))
  where
    back : (unit : ℕ) → unit ≤ 1074 → 1074 - unit + unit ≡ 1074
    back unit h = omega arith

    less : (unit : ℕ) → 1074 - unit ≤ 1074
    less unit = omega arith

of_int_lem : (raw : ℤ) → nat_abs raw < 2 ^ 53 → HasValue (of_int binary64 raw) (below0 raw) (nat_abs raw) 1
unfolding of_int
of_int_lem (pos n) h = round_whole binary64 false n (le_of_lt h)
of_int_lem (negsuc n) h = round_whole binary64 true (suc n) (le_of_lt h)

-- the product of the two floats is the float of the number
pub product_is : (raw : ℤ) (unit : ℕ) (y : Float) → nat_abs raw < 2 ^ 53 → unit ≤ 1074 → HasValue y false 1 (2 ^ unit) → mul binary64 (of_int binary64 raw) y ≡ float_of raw unit
product_is raw unit y h u v =
    one_float binary64 (mul binary64 (of_int binary64 raw) y) (float_of raw unit) (below0 raw) (nat_abs raw) (2 ^ unit) (pow_pos unit)
    (mul-fits binary64 (of_int binary64 raw) y) (is_float raw unit h u)
    (product (below0 raw) (nat_abs raw) unit (of_int binary64 raw) y h u (of_int_lem raw h) v) (is_number_lem raw unit)
