-- Numbers that fit in a byte each are read back from the one number that they are packed in (read-back). Assumes nothing.
use Prim.Native.Nat.{ℕ, zero, suc, ◌+◌, ◌*◌, ◌/◌, ◌%◌, ◌^◌}
use native.Mathlib.Nat.{zero-div}
use native.Mathlib.Omega.{arith}
use mathlib.Core.List.{[], ◌∷◌}
use mathlib.Core.Path.{◌≡◌, sym, ap, ◌∙◌}
use lib.Pow.{shr-shr}
use Rattle.told.specs.Told.{packed, ReadBack}

pub read_back_lem : ReadBack
read_back_lem [] h zero = ap (λ (y : ℕ). y % 256) (zero-div (2 ^ 0))
read_back_lem [] h (suc k) = ap (λ (y : ℕ). y % 256) (zero-div (2 ^ (8 * suc k)))
read_back_lem (x ∷ xs) h zero = omega (arith, h 0)
read_back_lem (x ∷ xs) h (suc k) =
    let n = packed (x ∷ xs) in
    let e : 8 * suc k ≡ 8 + 8 * k = omega arith in
    let q : n / 256 ≡ packed xs = omega (arith, h 0) in
    ap (λ (j : ℕ). n / 2 ^ j % 256) e
    ∙ ap (λ (y : ℕ). y % 256) (sym (shr-shr n 8 (8 * k)))
    ∙ ap (λ (y : ℕ). y / 2 ^ (8 * k) % 256) q
    ∙ read_back_lem xs (λ j. h (suc j)) k
