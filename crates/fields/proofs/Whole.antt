-- A good field by its three tests (good-parts, good-by); its bytes alone (alone), and with any bytes after them (good-then, size-then, calls-then).
-- Assumes nothing.
use mathlib.Core.Path.{◌≡◌, refl, sym, ap, ap₂, ◌∙◌}
use mathlib.Core.Bool.{Bool, true, false, not, ◌||◌, true≢false}
use mathlib.Core.List.{List, ◌++◌}
use Prim.Native.Nat.{ℕ, ◌+◌, ◌≤◌, ◌<◌}
use native.Mathlib.Omega.{arith}
use lib.ListN.{length, take, drop, length-append, length-drop, take-append-drop, get_or-append}
use lib.Seq.{length-take-le, take-append-le, drop-append-le}
use borrow.Author.Tests.{ltb-false, le-ltb}
use Rattle.strings.specs.Number.{value_of}
use Rattle.fields.specs.Fields.{tag_in, length_in, body_in, is_unknown, is_wrong, is_cut, is_good, size_in}
use Rattle.fields.specs.Block.{call_in}

-- ---- the three tests of a good field
pub record Good (rest : List ℕ) : Type 0 where
  pub whole : 3 + length_in rest ≤ length rest
  pub known : is_unknown (tag_in rest) ≡ false
  pub right : is_wrong (tag_in rest) (length_in rest) ≡ false

none_of : (a b c : Bool) → not (a || (b || c)) ≡ true → (a ≡ false) × ((b ≡ false) × (c ≡ false))
none_of true b c e = absurd (true≢false (sym e))
none_of false true c e = absurd (true≢false (sym e))
none_of false false true e = absurd (true≢false (sym e))
none_of false false false e = (refl, (refl, refl))

pub good_parts : (rest : List ℕ) → is_good rest ≡ true → Good rest
unfolding is_good
good_parts rest e =
    let p = none_of (is_cut (length_in rest) (length rest)) (is_unknown (tag_in rest)) (is_wrong (tag_in rest) (length_in rest)) e in
    record { whole = ltb-false (length rest) (3 + length_in rest) p.0; known = p.1.0; right = p.1.1 }

pub good_by : (rest : List ℕ) → Good rest → is_good rest ≡ true
unfolding is_good
good_by rest g = rw (le-ltb (length rest) (3 + length_in rest) g.whole, g.known, g.right)

pub size_is : (rest : List ℕ) → is_good rest ≡ true → size_in rest ≡ 3 + length_in rest
unfolding size_in
size_is rest e = rw e

-- what stands behind it is shorter
pub shorter : (rest : List ℕ) → is_good rest ≡ true → length (drop (size_in rest) rest) < length rest
shorter rest e = omega (arith, size_is rest e, (good_parts rest e).whole, length-drop (size_in rest) rest)

pub size_none : (rest : List ℕ) → is_good rest ≡ false → size_in rest ≡ 0
unfolding size_in
size_none rest e = rw e

-- and where there are some bytes of a field, it is good
pub good_size : (rest : List ℕ) → 0 < size_in rest → is_good rest ≡ true
good_size rest h = by (is_good rest) refl
  where
    by : (b : Bool) → is_good rest ≡ b → is_good rest ≡ true
    by true e = e
    by false e = absurd (omega (arith, h, size_none rest e))

-- ---- a field with any bytes after it
module _ (f q : List ℕ) (h : 3 ≤ length f) where
  pub tag_then : tag_in (f ++ q) ≡ tag_in f
  tag_then = get_or-append f q 0 0 (omega arith)

  pub length_then : length_in (f ++ q) ≡ length_in f
  length_then =
      ap (λ (l : List ℕ). value_of (take 2 l)) (drop-append-le 1 f q (omega arith))
      ∙ ap value_of (take-append-le 2 (drop 1 f) q (omega (arith, length-drop 1 f)))

module _ (f q : List ℕ) (g : Good f) where
  three : 3 ≤ length f
  three = omega (arith, g.whole)

  pub good_then : Good (f ++ q)
  good_then =
      record {
        whole = omega (arith, g.whole, length_then f q three, length-append f q);
        known = rw (tag_then f q three) g.known;
        right = rw (tag_then f q three, length_then f q three) g.right;
      }

  pub size_then : size_in (f ++ q) ≡ size_in f
  size_then = size_is (f ++ q) (good_by (f ++ q) good_then) ∙ ap (λ (n : ℕ). 3 + n) (length_then f q three) ∙ sym (size_is f (good_by f g))

  body_then : body_in (f ++ q) ≡ body_in f
  body_then =
      ap₂ take (length_then f q three) (drop-append-le 3 f q three)
      ∙ take-append-le (length_in f) (drop 3 f) q (omega (arith, g.whole, length-drop 3 f))

  pub calls_then : call_in (f ++ q) ≡ call_in f
  unfolding call_in
  calls_then = rw (tag_then f q three, body_then)

-- ---- the bytes of a good field alone: a good field, and no byte more
pub record Whole (f : List ℕ) : Type 0 where
  pub good : Good f
  pub size : size_in f ≡ length f

module _ (rest : List ℕ) (e : is_good rest ≡ true) where
  abbrev front : List ℕ
  front = take (size_in rest) rest

  pub front_length : length front ≡ size_in rest
  front_length = length-take-le (size_in rest) rest (omega (arith, size_is rest e, (good_parts rest e).whole))

  three_front : 3 ≤ length front
  three_front = omega (arith, front_length, size_is rest e)

  tag_front : tag_in front ≡ tag_in rest
  tag_front = sym (tag_then front (drop (size_in rest) rest) three_front) ∙ ap tag_in (take-append-drop (size_in rest) rest)

  length_front : length_in front ≡ length_in rest
  length_front = sym (length_then front (drop (size_in rest) rest) three_front) ∙ ap length_in (take-append-drop (size_in rest) rest)

  pub good_front : Good front
  good_front =
      record {
        whole = omega (arith, length_front, front_length, size_is rest e);
        known = rw tag_front (good_parts rest e).known;
        right = rw (tag_front, length_front) (good_parts rest e).right;
      }

  pub alone : Whole front
  alone =
      record {
        good = good_front;
        size = size_is front (good_by front good_front) ∙ ap (λ (n : ℕ). 3 + n) length_front ∙ sym (size_is rest e) ∙ sym front_length;
      }

  pub calls_front : call_in front ≡ call_in rest
  calls_front = sym (calls_then front (drop (size_in rest) rest) good_front) ∙ ap call_in (take-append-drop (size_in rest) rest)
