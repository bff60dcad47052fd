-- A number written as bytes from its lowest to its highest, and read from the first byte to the last.
-- Assumes nothing.
use mathlib.Core.Path.{◌≡◌, refl, sym, ap, ap₂, ◌∙◌}
use mathlib.Core.List.{List, [], ◌∷◌, ◌++◌}
use Prim.Native.Nat.{ℕ, suc, ◌+◌, ◌-◌, ◌*◌, ◌/◌, ◌%◌, ◌^◌, ◌≤◌, ◌<◌}
use native.Mathlib.Nat.{div-one, sub_self, sub-zero, le_refl, mul_assoc}
use native.Mathlib.Numerals.{add-one}
use native.Mathlib.Omega.{arith}
use lib.ListN.{length, get_or, take, drop, set, length-set, length-append}
use lib.Pow.{pow-add, shr-shr}
use lib.Seq.{drop-length, drop-cons, get_or-set_same, drop-set-lt, take-suc}
use Rattle.strings.specs.Number.{value_of, bytes_of}

-- ---- written: the places from i on are, and rest is what is left of x
pub record Put (size x : ℕ) (out : List ℕ) (i rest : ℕ) : Type 0 where
  pub long : length out ≡ size
  pub within : i ≤ size
  pub left : rest ≡ x / 2 ^ (8 * (size - i))
  pub put : drop i out ≡ bytes_of (size - i) x

pub put_none : (x : ℕ) (out : List ℕ) → Put (length out) x out (length out) x
put_none x out = record {
  long = refl;
  within = le_refl (length out);
  left = rw (sub_self (length out)) (sym (div-one x));
  put = rw (sub_self (length out)) (drop-length out);
}

pub put_more : (size x : ℕ) (out : List ℕ) (i rest : ℕ) → 0 < i → Put size x out i rest → Put size x (set out (i - 1) (rest % 256)) (i - 1) (rest / 256)
put_more size x out i rest h p =
    let j = i - 1 in
    let d = size - i in
    let v = rest % 256 in
    let next : suc j ≡ i = omega arith in
    let more : size - j ≡ suc d = omega (arith, p.within) in
    let up : 8 * d + 8 ≡ 8 * (size - j) = omega (arith, p.within) in
    let inside : j < length out = omega (arith, p.within, p.long) in
    record {
      long = length-set out j v ∙ p.long;
      within = omega (arith, p.within);
      left = ap (λ (z : ℕ). z / 256) p.left ∙ shr-shr x (8 * d) 8 ∙ ap (λ (z : ℕ). x / 2 ^ z) up;
      put = drop-cons (set out j v) j 0 (simp length-set inside)
          ∙ ap (λ (z : ℕ). z ∷ drop (suc j) (set out j v)) (get_or-set_same out j v 0 inside)
          ∙ ap (λ (l : List ℕ). v ∷ l) (drop-set-lt (suc j) out j v (le_refl (suc j)) ∙ ap (λ (z : ℕ). drop z out) next ∙ p.put)
          ∙ ap (λ (z : ℕ). z % 256 ∷ bytes_of d x) p.left
          ∙ ap (λ (z : ℕ). bytes_of z x) (sym more);
    }

pub put_all : (size x : ℕ) (out : List ℕ) (i rest : ℕ) → i ≡ 0 → Put size x out i rest → out ≡ bytes_of size x
put_all size x out i rest e p = rw e at p.put ∙ ap (λ (z : ℕ). bytes_of z x) (sub-zero size)

-- ---- read
pub value_append : (s t : List ℕ) → value_of (s ++ t) ≡ value_of s * 2 ^ (8 * length t) + value_of t
value_append [] t = omega arith
value_append (b ∷ s) t =
    let n = 8 * length s in
    let m = 8 * length t in
    let e : 8 * length (s ++ t) ≡ n + m = omega (arith, length-append s t) in
    ap₂ (λ (x y : ℕ). b * 2 ^ x + y) e (value_append s t)
    ∙ ap (λ (x : ℕ). b * x + (value_of s * 2 ^ m + value_of t)) (pow-add 2 n m)
    ∙ ap (λ (x : ℕ). x + (value_of s * 2 ^ m + value_of t)) (sym (mul_assoc b (2 ^ n) (2 ^ m)))
    ∙ omega arith

-- x is the number of the first i bytes
pub record Read (s : List ℕ) (i x : ℕ) : Type 0 where
  pub within : i ≤ length s
  pub is : x ≡ value_of (take i s)
  pub small : x < 2 ^ (8 * i)

pub read_none : (s : List ℕ) → Read s 0 0
read_none s = record { within = omega arith; is = refl; small = omega arith }

pub read_more : (s : List ℕ) (i x : ℕ) → i < length s → get_or s i 0 < 256 → Read s i x → Read s (i + 1) (x * 256 + get_or s i 0)
read_more s i x h b r =
    let e : 8 * (i + 1) ≡ 8 * i + 8 = omega arith in
    record {
      within = omega arith;
      is = ap (λ (y : ℕ). y * 256 + get_or s i 0) r.is
          ∙ sym (ap (λ (k : ℕ). value_of (take k s)) (add-one i) ∙ ap value_of (take-suc s i 0 h) ∙ value_append (take i s) (get_or s i 0 ∷ []) ∙ omega arith);
      small = rw (e, pow-add 2 (8 * i) 8) (omega (arith, r.small));
    }
