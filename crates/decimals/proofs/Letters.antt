-- Digits written from the last to the first. Assumes nothing.
use mathlib.Core.Path.{◌≡◌, refl, sym, ap, ◌∙◌}
use mathlib.Core.List.{List, ◌∷◌}
use Prim.Native.Nat.{ℕ, zero, suc, ◌+◌, ◌-◌, ◌/◌, ◌%◌, ◌^◌, ◌≤◌, ◌<◌}
use native.Mathlib.Nat.{div-div-eq-div-mul, pow-suc, div-one, sub_self, sub-zero, le_refl}
use native.Mathlib.Omega.{arith}
use lib.ListN.{length, drop, set, length-set}
use lib.Seq.{drop-length, drop-cons, get_or-set_same, drop-set-lt}
use Rattle.decimals.specs.Decimal.{digits_of}

pub length_digits : (d n : ℕ) → length (digits_of d n) ≡ d
length_digits zero n = refl
length_digits (suc d) n = ap suc (length_digits d n)

-- the places from i on are written, and m is what is left of n
pub record Put (size n : ℕ) (out : List ℕ) (i m : ℕ) : Type 0 where
  pub long : length out ≡ size
  pub within : i ≤ size
  pub left : m ≡ n / 10 ^ (size - i)
  pub put : drop i out ≡ digits_of (size - i) n

pub put_none : (n : ℕ) (out : List ℕ) → Put (length out) n out (length out) n
put_none n out = record {
  long = refl;
  within = le_refl (length out);
  left = rw (sub_self (length out)) (sym (div-one n));
  put = rw (sub_self (length out)) (drop-length out);
}

pub put_more : (size n : ℕ) (out : List ℕ) (i m : ℕ) → 0 < i → Put size n out i m → Put size n (set out (i - 1) (48 + m % 10)) (i - 1) (m / 10)
put_more size n out i m h p =
    let j = i - 1 in
    let d = size - i in
    let v = 48 + m % 10 in
    let next : suc j ≡ i = omega arith in
    let more : size - j ≡ suc d = omega (arith, p.within) in
    let inside : j < length out = omega (arith, p.within, p.long) in
    record {
      long = length-set out j v ∙ p.long;
      within = omega (arith, p.within);
      left = ap (λ (z : ℕ). z / 10) p.left ∙ div-div-eq-div-mul n (10 ^ d) 10 ∙ ap (λ (z : ℕ). n / z) (sym (pow-suc 10 d) ∙ ap (λ (z : ℕ). 10 ^ z) (sym more));
      put = drop-cons (set out j v) j 0 (simp length-set inside)
          ∙ ap (λ (z : ℕ). z ∷ drop (suc j) (set out j v)) (get_or-set_same out j v 0 inside)
          ∙ ap (λ (l : List ℕ). v ∷ l) (drop-set-lt (suc j) out j v (le_refl (suc j)) ∙ ap (λ (z : ℕ). drop z out) next ∙ p.put)
          ∙ ap (λ (z : ℕ). (48 + z % 10) ∷ digits_of d n) p.left
          ∙ ap (λ (z : ℕ). digits_of z n) (sym more);
    }

pub put_all : (size n : ℕ) (out : List ℕ) (i m : ℕ) → i ≡ 0 → Put size n out i m → out ≡ digits_of size n
put_all size n out i m e p = rw e at p.put ∙ ap (λ (z : ℕ). digits_of z n) (sub-zero size)
