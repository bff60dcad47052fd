-- What is laid into a list at a place: bytes that are copied there (put-law), two numbers that are stored (two-set), and what then stands before it, behind it
-- and in all (take-laid, drop-laid, length-laid).
-- Assumes nothing.
use Prim.Native.Nat.{ℕ, ◌+◌, ◌-◌, ◌≤◌}
use native.Mathlib.Omega.{arith}
use native.Mathlib.Numerals.{add-one}
use mathlib.Core.Path.{◌≡◌, refl, ◌∙◌}
use mathlib.Core.List.{List, [], ◌∷◌, ◌++◌, append_assoc, append-nil}
use lib.ListN.{length, take, drop, set, length-take, length-drop, length-append, drop_of_length-le}
use lib.Seq.{drop-drop, take-length, length-take-le, take_at, drop_at, sets-eq}

-- n bytes of s from at, copied over the n of out from w
pub put_law : (s out ys : List ℕ) (at n w : ℕ) → at + n ≤ length s → w + n ≤ length out
    → ys ≡ take (length (take (at + n - at) (drop at s))) (take (at + n - at) (drop at s)) ++ drop (length (take (at + n - at) (drop at s))) (take (w + n - w) (drop w out))
    → take w out ++ (ys ++ drop (w + n - w) (drop w out)) ≡ take w out ++ (take n (drop at s) ++ drop (w + n) out)
put_law s out ys at n w h k e =
    let a : at + n - at ≡ n = omega arith in
    let b : w + n - w ≡ n = omega arith in
    let l : length (take n (drop at s)) ≡ n = length-take-le n (drop at s) (rw length-drop (omega arith)) in
    let m : length (take n (drop w out)) ≤ n = omega (arith, length-take n (drop w out)) in
    let e' = rw (a, b) at e in
    let y : ys ≡ take n (drop at s) = e' ∙ rw (take-length (take n (drop at s)), l, drop_of_length-le (take n (drop w out)) m) (append-nil (take n (drop at s))) in
    rw (b, y, drop-drop n w out)

-- what was laid in at w
module _ (out x : List ℕ) (w n : ℕ) (h : w ≤ length out) (e : length x ≡ n) where
  pub take_laid : take (w + n) (take w out ++ (x ++ drop (w + n) out)) ≡ take w out ++ x
  take_laid =
      let l : length (take w out ++ x) ≡ w + n = length-append (take w out) x ∙ (rw (length-take-le w out h, e) refl) in
      rw (← append_assoc (take w out) x (drop (w + n) out)) (take_at (take w out ++ x) (drop (w + n) out) (w + n) l)

  pub drop_laid : drop (w + n) (take w out ++ (x ++ drop (w + n) out)) ≡ drop (w + n) out
  drop_laid =
      let l : length (take w out ++ x) ≡ w + n = length-append (take w out) x ∙ (rw (length-take-le w out h, e) refl) in
      rw (← append_assoc (take w out) x (drop (w + n) out)) (drop_at (take w out ++ x) (drop (w + n) out) (w + n) l)

  pub length_laid : w + n ≤ length out → length (take w out ++ (x ++ drop (w + n) out)) ≡ length out
  length_laid k =
      omega (arith, length-append (take w out) (x ++ drop (w + n) out), length-append x (drop (w + n) out), length-take-le w out h, length-drop (w + n) out, e)

-- two numbers stored
pub two_set : (l : List ℕ) (i a b : ℕ) → i + 2 ≤ length l → set (set l i a) (i + 1) b ≡ take i l ++ (a ∷ (b ∷ drop (i + 2) l))
two_set l i a b h = rw (add-one i) (sets-eq (a ∷ b ∷ []) l i h ∙ append_assoc (take i l) (a ∷ b ∷ []) (drop (i + 2) l))
