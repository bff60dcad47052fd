-- A list that is written from left to right: `Begun size i l t` says that l has size elements, of which the first i are t. Assumes nothing.
use mathlib.Core.Path.{◌≡◌, refl, sym, ap, ◌∙◌}
use mathlib.Core.List.{List, [], ◌∷◌, ◌++◌, append_assoc}
use Prim.Native.Nat.{ℕ, suc, ◌+◌, ◌≤◌, ◌<◌}
use native.Mathlib.Omega.{arith}
use lib.ListN.{length, take, drop, set, length-set, length-append, length-drop}
use lib.Seq.{take-suc-set, take-length, take_at, length-take-le}
use borrow.Rule.Slice.PartMut.{put_mid, mid_of, post_of, same_len_mid}
use Rattle.strings.specs.Number.{bytes_of}
use Rattle.strings.proofs.Value.{length_bytes}

module _ {A : Type 0} where
  pub record Begun (size i : ℕ) (l t : List A) : Type 0 where
    pub long : length l ≡ size
    pub done : take i l ≡ t

  pub begun_none : (l : List A) {size : ℕ} → length l ≡ size → Begun size 0 l []
  begun_none l h = record { long = h; done = refl }

  pub begun_set : {size i : ℕ} {l t : List A} (v : A) → i < size → Begun size i l t → Begun size (suc i) (set l i v) (t ++ (v ∷ []))
  begun_set {size} {i} {l} {t} v h b = record {
    long = length-set l i v ∙ b.long;
    done = take-suc-set l i v (omega (arith, b.long)) ∙ ap (λ (a : List A). a ++ (v ∷ [])) b.done;
  }

  -- the length of the part that is lent
  pub part_long : {size i : ℕ} {l t : List A} (n : ℕ) → i + n ≤ size → Begun size i l t → length (mid_of i n l) ≡ n
  part_long {size} {i} {l} {t} n h b = length-take-le n (drop i l) (omega (arith, length-drop i l, b.long))

  -- a part of n elements from i on, filled by a callee that leaves `last` there
  pub begun_part : {size i n : ℕ} {l t last text : List A} → i + n ≤ size → length text ≡ n → last ≡ text → Begun size i l t
      → Begun size (i + n) (put_mid i n l last) (t ++ text)
  begun_part {size} {i} {n} {l} {t} {last} {text} h k e b =
      let head : length (take i l ++ last) ≡ i + n = length-append (take i l) last ∙ omega (arith, length-take-le i l (omega (arith, b.long)), ap length e, k) in
      record {
        long = same_len_mid i n l last (ap length e ∙ k ∙ sym (part_long n h b)) ∙ b.long;
        done = ap (λ (a : List A). take (i + n) a) (sym (append_assoc (take i l) last (post_of i n l)))
            ∙ take_at (take i l ++ last) (post_of i n l) (i + n) head
            ∙ ap (λ (a : List A). a ++ last) b.done
            ∙ ap (λ (a : List A). t ++ a) e;
      }

  pub begun_all : {size : ℕ} {l t : List A} → Begun size size l t → l ≡ t
  begun_all {size} {l} {t} b = sym (take-length l) ∙ ap (λ (z : ℕ). take z l) b.long ∙ b.done

-- a number of n bytes
pub begun_number : {size i : ℕ} {l t last : List ℕ} (n x : ℕ) → i + n ≤ size → last ≡ bytes_of (length (mid_of i n l)) x → Begun size i l t
    → Begun size (i + n) (put_mid i n l last) (t ++ bytes_of n x)
begun_number n x h e b = begun_part h (length_bytes n x) (e ∙ ap (λ (z : ℕ). bytes_of z x) (part_long n h b)) b
