-- A format holds at most one float of a given number and sign, since the bits of a float are made from its number. Assumes nothing.
use mathlib.Core.Path.{◌≡◌, sym, ap, ◌∙◌}
use Prim.Native.Nat.{ℕ, ◌+◌, ◌-◌, ◌*◌, ◌/◌, ◌^◌, ◌<◌}
use native.Mathlib.Nat.{mul_right_comm}
use mathlib.Core.Bool.{Bool, cond}
use lib.Dec.{T}
use lib.Ieee.{Float, nan, inf, fin, Format, prec, low, up, down, size, hid, top, fits, to_bits, of_bits}
use lib.Ieee.Fits.{down_pos}
use lib.Ieee.Bits.{of_bits-to_bits}
use lib.Ieee.Exact.{HasValue}
use lib.Ieee.Nearest.{div_same}

-- the bits of the number n * the smallest value, with the sign s
abbrev bits_at : Format → Bool → ℕ → ℕ
bits_at f s n = cond s (top f) 0 + (size n - prec f) * hid f + n / 2 ^ (size n - prec f)

bits_of : (f : Format) (x : Float) (s : Bool) (a c : ℕ) → 0 < c → HasValue x s a c → to_bits f x ≡ bits_at f s (a * 2 ^ low f / c)
unfolding to_bits
bits_of f nan s a c p v = absurd v
bits_of f (inf t) s a c p v = absurd v
bits_of f (fin t m e) s a c p v =
    let l = 2 ^ low f in
    let same : m * up e * l * c ≡ a * l * down e = mul_right_comm (m * up e) l c ∙ ap (λ (z : ℕ). z * l) v.1 ∙ mul_right_comm a (down e) l in
    ap (λ (n : ℕ). bits_at f t n) (div_same (m * up e * l) (down e) (a * l) c (down_pos e) p same) ∙ ap (λ (u : Bool). bits_at f u (a * l / c)) v.0

pub one_float : (f : Format) (x y : Float) (s : Bool) (a c : ℕ) → 0 < c → T (fits f x) → T (fits f y) → HasValue x s a c → HasValue y s a c → x ≡ y
one_float f x y s a c p g h v w =
    sym (of_bits-to_bits f x g) ∙ ap (λ (n : ℕ). of_bits f n) (bits_of f x s a c p v ∙ sym (bits_of f y s a c p w)) ∙ of_bits-to_bits f y h
