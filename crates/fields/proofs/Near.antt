-- How many bytes a good field has at a place: it lies within the block (size_in), with three bytes at least (size-three) and 65,538 at most (size_small); and it
-- is told by the 65,538 bytes from its tag on, so that the block may be cut behind them (near).
-- Assumes nothing.
use mathlib.Core.Path.{◌≡◌, refl, sym, ap, ◌∙◌}
use mathlib.Core.Bool.{Bool, true, false}
use mathlib.Core.List.{List, [], ◌∷◌, ◌++◌}
use Prim.Native.Nat.{ℕ, zero, suc, ◌+◌, ◌≤◌, ◌<◌}
use native.Mathlib.Nat.{zero-add, suc-add}
use native.Mathlib.Omega.{arith}
use lib.Dec.{leb}
use lib.ListN.{length, take, drop, length-append, length-drop, take-append-drop}
use lib.Seq.{take_all, take-nil, length-take-le}
use borrow.Author.Tests.{leb-true, leb-false, le-ltb}
use Rattle.strings.specs.Number.{Bytes}
use Rattle.fields.specs.Fields.{length_in, is_good, size_in, size_at}
use Rattle.fields.proofs.Answers.{length_is}
use Rattle.fields.proofs.Whole.{good_parts, good_size, size_is, tag_then, length_then}

-- ---- a good field at a place
module _ (block : List ℕ) (at : ℕ) (h : 0 < size_at block at) where
  abbrev rest : List ℕ
  rest = drop at block

  pub size_in_lem : at + size_at block at ≤ length block
  size_in_lem =
      let e = good_size rest h in
      omega (arith, size_is rest e, (good_parts rest e).whole, length-drop at block, h)

  pub size_three : 3 ≤ size_at block at
  size_three = omega (arith, size_is rest (good_size rest h))

-- the length is two bytes
length_small : (block : List ℕ) (at : ℕ) → Bytes block → at + 3 ≤ length block → length_in (drop at block) < 65536
length_small block at b h = omega (arith, length_is block at h, b (at + 1), b (at + 2))

pub size_small : (block : List ℕ) (at : ℕ) → Bytes block → 0 < size_at block at → size_at block at ≤ 65538
size_small block at b h =
    let w = length_small block at b (omega (arith, size_in_lem block at h, size_three block at h)) in
    omega (arith, size_is (drop at block) (good_size (drop at block) h), w)

-- ---- bytes behind the end of a field change nothing, whether it is good or not
size_far : (f q : List ℕ) → 3 + length_in f ≤ length f → size_in (f ++ q) ≡ size_in f
unfolding size_in is_good
size_far f q h =
    let t : 3 ≤ length f = omega (arith, h) in
    rw (tag_then f q t, length_then f q t, le-ltb (length (f ++ q)) (3 + length_in f) (omega (arith, h, length-append f q)), le-ltb (length f) (3 + length_in f) h)
    refl

-- the bytes from a place on, of a block that is cut
pub drop_take : (k n : ℕ) (l : List ℕ) → drop k (take (k + n) l) ≡ take n (drop k l)
drop_take zero n l = ap (λ (m : ℕ). take m l) (zero-add n)
drop_take (suc k) n [] = ap (drop (suc k)) (take-nil (suc k + n)) ∙ sym (take-nil n)
drop_take (suc k) n (x ∷ xs) = ap (λ (m : ℕ). drop (suc k) (take m (x ∷ xs))) (suc-add k n) ∙ drop_take k n xs

pub near : (block : List ℕ) (at n : ℕ) → Bytes block → 65538 ≤ n → size_at (take (at + n) block) at ≡ size_at block at
near block at n b h = ap size_in (drop_take at n block) ∙ by (leb (length (drop at block)) n) refl
  where
    by : (t : Bool) → leb (length (drop at block)) n ≡ t → size_in (take n (drop at block)) ≡ size_in (drop at block)
    by true e = ap size_in (take_all n (drop at block) (leb-true (length (drop at block)) n e))
    by false e =
        let rest = drop at block in
        let f = take n rest in
        let l = leb-false (length rest) n e in
        let m : length f ≡ n = length-take-le n rest (omega (arith, l)) in
        let s : f ++ drop n rest ≡ rest = take-append-drop n rest in
        let v : length_in f ≡ length_in rest = sym (length_then f (drop n rest) (omega (arith, m, h))) ∙ ap length_in s in
        let w = length_small block at b (omega (arith, l, h, length-drop at block)) in
        sym (size_far f (drop n rest) (omega (arith, m, v, w, h))) ∙ ap size_in s
