-- A slice written from left to right: `Upto size i l t` says that l has size elements, of which the first i are t. Assumes nothing.
use mathlib.Core.Path.{◌≡◌, refl, sym, ap, ◌∙◌}
use mathlib.Core.List.{List, [], ◌∷◌, ◌++◌, append_assoc}
use Prim.Native.Nat.{ℕ, suc, ◌+◌, ◌≤◌, ◌<◌}
use native.Mathlib.Omega.{arith}
use lib.ListN.{length, take, drop, set, length-set, length-append, length-drop}
use lib.Seq.{take-suc-set, take-length, take_at, length-take-le}
use borrow.Rule.Slice.PartMut.{put_mid, mid_of, post_of, same_len_mid}
use Rattle.decimals.specs.Decimal.{digits_of}
use Rattle.decimals.proofs.Letters.{length_digits}

pub record Upto (size i : ℕ) (l t : List ℕ) : Type 0 where
  pub long : length l ≡ size
  pub done : take i l ≡ t

pub upto_none : (l : List ℕ) {size : ℕ} → length l ≡ size → Upto size 0 l []
upto_none l h = record { long = h; done = refl }

pub upto_set : {size i : ℕ} {l t : List ℕ} {v w : ℕ} → i < size → v ≡ w → Upto size i l t → Upto size (suc i) (set l i v) (t ++ (w ∷ []))
upto_set {size} {i} {l} {t} {v} {w} h e u = record {
  long = length-set l i v ∙ u.long;
  done = take-suc-set l i v (omega (arith, u.long)) ∙ ap (λ (a : List ℕ). a ++ (v ∷ [])) u.done ∙ ap (λ (z : ℕ). t ++ (z ∷ [])) e;
}

-- the length of the part that is lent
pub part_long : {size i : ℕ} {l t : List ℕ} (n : ℕ) → i + n ≤ size → Upto size i l t → length (mid_of i n l) ≡ n
part_long {size} {i} {l} {t} n h u = length-take-le n (drop i l) (omega (arith, length-drop i l, u.long))

-- a part of n elements from i on, filled by a callee that leaves `last` there
pub upto_part : {size i n : ℕ} {l t last text : List ℕ} → i + n ≤ size → length text ≡ n → last ≡ text → Upto size i l t → Upto size (i + n) (put_mid i n l last) (t ++ text)
upto_part {size} {i} {n} {l} {t} {last} {text} h k e u =
    let head : length (take i l ++ last) ≡ i + n = length-append (take i l) last ∙ omega (arith, length-take-le i l (omega (arith, u.long)), ap length e, k) in
    record {
      long = same_len_mid i n l last (ap length e ∙ k ∙ sym (part_long n h u)) ∙ u.long;
      done = ap (λ (a : List ℕ). take (i + n) a) (sym (append_assoc (take i l) last (post_of i n l)))
          ∙ take_at (take i l ++ last) (post_of i n l) (i + n) head
          ∙ ap (λ (a : List ℕ). a ++ last) u.done
          ∙ ap (λ (a : List ℕ). t ++ a) e;
    }

pub upto_digits : {size i : ℕ} {l t last : List ℕ} (n m : ℕ) → i + n ≤ size → last ≡ digits_of (length (mid_of i n l)) m → Upto size i l t
    → Upto size (i + n) (put_mid i n l last) (t ++ digits_of n m)
upto_digits n m h e u = upto_part h (length_digits n m) (e ∙ ap (λ (z : ℕ). digits_of z m) (part_long n h u)) u

pub upto_all : {size : ℕ} {l t : List ℕ} → Upto size size l t → l ≡ t
upto_all {size} {l} {t} u = sym (take-length l) ∙ ap (λ (z : ℕ). take z l) u.long ∙ u.done
