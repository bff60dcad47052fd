-- The bit pattern of 2 ^ -unit: 1023 - unit in the exponent's field, and zeros. Assumes nothing.
use mathlib.Core.Path.{◌≡◌, sym, ap, ◌∙◌, subst}
use Prim.Native.Nat.{ℕ, suc, ◌+◌, ◌-◌, ◌*◌, ◌/◌, ◌%◌, ◌^◌, ◌≤◌}
use native.Mathlib.Nat.{one-mul}
use native.Mathlib.Omega.{arith}
use mathlib.Core.Bool.{Bool, false, not, cond}
use lib.Dec.{T, leb}
use lib.Arith.{lt→nleb}
use lib.IntN.{pos}
use lib.Pow.{pow-add, pow_pos}
use borrow.Author.Tests.{ne_eqb}
use lib.Ieee.{Float, inf, nan, binary64, odd, of_fields, of_bits, nan_bits, is_nan}
use lib.Ieee.Bits.{is_false, of_bits-fits, nan_bits_is}
use lib.Ieee.Exact.{HasValue, odd_sign}
use Rattle.scaled.proofs.Once.{one_float}
use Rattle.scaled.proofs.Product.{float_of, rescale, is_number_lem, is_float}

abbrev pub pattern : ℕ → ℕ
pattern unit = (1023 - unit) * 4503599627370496 % 18446744073709551616

of_pattern : (unit x : ℕ) → unit + x ≡ 1022 → of_bits binary64 (pattern unit) ≡ odd 53 false 4503599627370496 x 1074
unfolding of_bits of_fields
of_pattern unit x h =
    let b = pattern unit in
    let sign : leb 9223372036854775808 b ≡ false = is_false (leb 9223372036854775808 b) (lt→nleb 9223372036854775808 b (omega arith)) in
    let field : b % 9223372036854775808 / 4503599627370496 ≡ suc x = omega arith in
    let digits : b % 4503599627370496 ≡ 0 = omega arith in
    ap (λ (s : Bool). of_fields binary64 s (b % 9223372036854775808 / 4503599627370496) (b % 4503599627370496)) sign
    ∙ ap (λ (y : ℕ). of_fields binary64 false y (b % 4503599627370496)) field
    ∙ ap (λ (t : ℕ). of_fields binary64 false (suc x) t) digits
    ∙ ap (λ (t : Bool). cond t (inf false) (odd 53 false 4503599627370496 x 1074)) (ne_eqb (suc x) 2047 (λ (e : suc x ≡ 2047). omega arith))

pub pattern_value : (unit : ℕ) → unit ≤ 1022 → HasValue (of_bits binary64 (pattern unit)) false 1 (2 ^ unit)
pattern_value unit h =
    let x = 1022 - unit in
    let sum : unit + x ≡ 1022 = omega arith in
    let all : 1074 ≡ 52 + x + unit = omega arith in
    let whole : 1 * 2 ^ 1074 ≡ 4503599627370496 * 2 ^ x * 2 ^ unit = one-mul (2 ^ 1074) ∙ ap (λ (z : ℕ). 2 ^ z) all ∙ pow-add 2 (52 + x) unit ∙ ap (λ (z : ℕ). z * 2 ^ unit) (pow-add 2 52 x) in
    subst (λ (y : Float). HasValue y false 1 (2 ^ unit)) (sym (of_pattern unit x sum))
    (rescale (odd 53 false 4503599627370496 x 1074) false (4503599627370496 * 2 ^ x) (2 ^ 1074) 1 (2 ^ unit) (pow_pos 1074) whole (odd_sign 53 false 4503599627370496 x 1074))

pub pattern_is : (unit : ℕ) → unit ≤ 1022 → of_bits binary64 (pattern unit) ≡ float_of (pos 1) unit
pattern_is unit h =
    one_float binary64 (of_bits binary64 (pattern unit)) (float_of (pos 1) unit) false 1 (2 ^ unit) (pow_pos unit)
    (of_bits-fits binary64 (pattern unit)) (is_float (pos 1) unit (lib.Dec.lit< tt) (omega arith)) (pattern_value unit h) (is_number_lem (pos 1) unit)

not_nan : (x : Float) (s : Bool) (a c : ℕ) → HasValue x s a c → T (not (is_nan x))
unfolding is_nan
not_nan nan s a c v = absurd v
not_nan (inf t) s a c v = absurd v
not_nan (lib.Ieee.fin t m e) s a c v = tt

pub pattern_number : (unit : ℕ) → unit ≤ 1022 → T (not (nan_bits binary64 (pattern unit)))
pattern_number unit h = subst (λ (b : Bool). T (not b)) (sym (nan_bits_is binary64 (pattern unit))) (not_nan (of_bits binary64 (pattern unit)) false 1 (2 ^ unit) (pattern_value unit h))
