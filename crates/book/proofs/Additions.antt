-- The string that an entry's half is written to: its number after three additions into zeros.
-- Assumes nothing.
use mathlib.Core.Path.{◌≡◌, sym, ap, ◌∙◌}
use mathlib.Core.List.{List}
use Prim.Native.Nat.{ℕ, ◌+◌, ◌*◌, ◌/◌, ◌%◌, ◌^◌, ◌≤◌, ◌<◌}
use native.Mathlib.Nat.{add-mul, mul_assoc, mul_comm, mul_right_comm, lt_of_lt_of_le}
use native.Mathlib.Omega.{arith}
use lib.Pow.{pow-add, pow_mono, shl_lt}
use Rattle.strings.specs.Number.{value_of, bytes_of, number_of, bytes_of_string}
use Rattle.strings.proofs.Value.{string_number_lem}
use Rattle.words.proofs.Carrying.{bytes_add}

-- x at the weight of place i + j is x times 2 ^ j, at place i
shifted : (x i j : ℕ) → x * 2 ^ (i + j) ≡ x * 2 ^ j * 2 ^ i
shifted x i j =
    ap (λ (y : ℕ). x * y) (pow-add 2 i j ∙ mul_comm (2 ^ i) (2 ^ j)) ∙ sym (mul_assoc x (2 ^ j) (2 ^ i))

-- the three parts of a number, each at its place
three_parts : (at hi lo : ℕ) → 0 + hi * 2 ^ (at + 67) + lo / 2 ^ 32 * 2 ^ (at + 35) + lo % 2 ^ 32 * 2 ^ (at + 3) ≡ (hi * 2 ^ 64 + lo) * 2 ^ at * 8
three_parts at hi lo =
    let q = 2 ^ at in
    let a = hi * 2 ^ 67 in
    let b = lo / 2 ^ 32 * 2 ^ 35 in
    let c = lo % 2 ^ 32 * 2 ^ 3 in
    let e : (a + b + c) * q ≡ a * q + b * q + c * q = add-mul (a + b) c q ∙ ap (λ (x : ℕ). x + c * q) (add-mul a b q) in
    let f : a + b + c ≡ (hi * 2 ^ 64 + lo) * 8 = omega arith in
    let s : 0 + hi * 2 ^ (at + 67) + lo / 2 ^ 32 * 2 ^ (at + 35) + lo % 2 ^ 32 * 2 ^ (at + 3) ≡ a * q + b * q + c * q =
    omega (arith, shifted hi at 67, shifted (lo / 2 ^ 32) at 35, shifted (lo % 2 ^ 32) at 3) in
    s ∙ sym e ∙ ap (λ (x : ℕ). x * q) f ∙ mul_right_comm (hi * 2 ^ 64 + lo) 8 q

-- what three `add_at` leave in eleven zero bytes, the first of them at the place of bit at + 65: the number of the two parts, from bit at + 1 up
pub half_number : (at hi lo : ℕ) (s₁ s₂ s₃ : List ℕ) → at ≤ 13 → hi < 2 ^ 8 → lo < 2 ^ 64
    → s₁ ≡ bytes_of 11 (0 + hi * 2 ^ (at + 67))
    → s₂ ≡ bytes_of 11 (value_of s₁ + lo / 2 ^ 32 * 2 ^ (at + 35))
    → s₃ ≡ bytes_of 11 (value_of s₂ + lo % 2 ^ 32 * 2 ^ (at + 3))
    → number_of s₃ ≡ (hi * 2 ^ 64 + lo) * 2 ^ at
unfolding bytes_of_string
half_number at hi lo s₁ s₂ s₃ h u v e f g =
    let x = 0 + hi * 2 ^ (at + 67) in
    let y = lo / 2 ^ 32 * 2 ^ (at + 35) in
    let z = lo % 2 ^ 32 * 2 ^ (at + 3) in
    let n = (hi * 2 ^ 64 + lo) * 2 ^ at in
    let l : hi * 2 ^ 64 + lo < 2 ^ 72 = omega arith in
    let two : s₂ ≡ bytes_of 11 (x + y) = f ∙ ap (λ (s : List ℕ). bytes_of 11 (value_of s + y)) e ∙ bytes_add 11 x y in
    let three : s₃ ≡ bytes_of_string n =
    g ∙ ap (λ (s : List ℕ). bytes_of 11 (value_of s + z)) two ∙ bytes_add 11 (x + y) z ∙ ap (bytes_of 11) (three_parts at hi lo) in
    ap number_of three ∙ string_number_lem n (lt_of_lt_of_le (shl_lt 72 at l) (pow_mono {i = 72 + at} {j = 85} (omega arith)))
