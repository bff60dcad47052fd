-- Kept and skipped bytes together are the file up to where the call came, in order (items-together) and each byte once (items-once): parts, all-parts. They
-- lie within the output and the list (within).
-- Assumes nothing.
use Prim.Native.Nat.{ℕ, ◌+◌, ◌-◌, ◌*◌, ◌≤◌}
use native.Mathlib.Omega.{arith}
use mathlib.Core.Path.{◌≡◌, refl, sym, ap, ap₂, ◌∙◌}
use mathlib.Core.List.{List, [], ◌∷◌, ◌++◌, append_assoc}
use lib.ListN.{length, take, drop, length-append, length-drop}
use lib.Seq.{take-add, drop-drop, take-length, length-take-le, take-append-add, drop-append-add}
use Rattle.salvage.specs.declared.Salvaged.{Salvaged}
use Rattle.salvage.specs.declared.Full.{Full}
use Rattle.std.specs.Prelude.{Result, Ok, ⊤}
use Rattle.salvage.specs.Items.{Item, Kept, Skipped, items_of}
use Rattle.salvage.specs.Rules.{Follow}
use Rattle.salvage.specs.Writing.{kept_bytes, stretches, slots_of, Salvages}
use Rattle.salvage.specs.Laws.{bytes_in, list_in, stop_of, together, skipped_count, kept_count, Parts}
use Rattle.salvage.proofs.Rules.{follow_le}
use Rattle.salvage.proofs.Ends.{ending, items, written_is, stretches_are, written_bytes, written_list, follow_written, stop_in_lem}

-- ---- a list whose first stretch starts no earlier than this place
abbrev pub From : ℕ → List ℕ → Type 0
From p [] = Unit
From p (first ∷ more) = p ≤ first

pub from_less : (p q : ℕ) (list : List ℕ) → p ≤ q → From q list → From p list
from_less p q [] h f = tt
from_less p q (first ∷ more) h f = omega (arith, h, f)

pub from_follow : (p e : ℕ) (is : List Item) → Follow p is e → From p (stretches is)
from_follow p e [] f = tt
from_follow p e (Kept at n ∷ is) f = from_less p (p + n) (stretches is) (omega arith) (from_follow (p + n) e is f.1.1)
from_follow p e (Skipped at n ∷ is) f = omega (arith, f.0)

-- ---- one field more in front
together_more : (file : List ℕ) (p n : ℕ) (x kept list : List ℕ) → length x ≡ n → From (p + n) list
    → together file p (x ++ kept) list ≡ x ++ together file (p + n) kept list
together_more file p n x kept [] l f = refl
together_more file p n x kept (first ∷ []) l f = refl
together_more file p n x kept (first ∷ count ∷ more) l f =
    let m = first - (p + n) in
    let d : first - p ≡ length x + m = omega (arith, l, f) in
    let s = take count (drop first file) in
    rw (d, take-append-add x kept m, drop-append-add x kept m)
    (append_assoc x (take m kept) (s ++ together file (first + count) (drop m kept) more))

-- the bytes of one item and of those behind it
next_bytes : (s : List ℕ) (p n e : ℕ) → p + n ≤ e → take (e - p) (drop p s) ≡ take n (drop p s) ++ take (e - (p + n)) (drop (p + n) s)
next_bytes s p n e h =
    let l : e - p ≡ n + (e - (p + n)) = omega (arith, h) in
    rw (l, take-add n (e - (p + n)) (drop p s), drop-drop n p s) refl

item_long : (s : List ℕ) (p n e : ℕ) → p + n ≤ e → e ≤ length s → length (take n (drop p s)) ≡ n
item_long s p n e h k = length-take-le n (drop p s) (omega (arith, h, k, length-drop p s))

pub items_together : (s : List ℕ) (p e : ℕ) (is : List Item) → Follow p is e → e ≤ length s
    → together s p (kept_bytes s is) (stretches is) ≡ take (e - p) (drop p s)
items_together s p e [] f k = let z : e - p ≡ 0 = omega (arith, f) in rw z refl
items_together s p e (Kept at n ∷ is) f k =
    let g = f.1.1 in
    let h = follow_le (p + n) e is g in
    rw f.0
    (together_more s p n (take n (drop p s)) (kept_bytes s is) (stretches is) (item_long s p n e h k) (from_follow (p + n) e is g)
    ∙ ap (λ (x : List ℕ). take n (drop p s) ++ x) (items_together s (p + n) e is g k) ∙ sym (next_bytes s p n e h))
items_together s p e (Skipped at n ∷ is) f k =
    let g = f.1.1 in
    let h = follow_le (p + n) e is g in
    let z : p - p ≡ 0 = omega arith in
    rw (f.0, z) (ap (λ (x : List ℕ). take n (drop p s) ++ x) (items_together s (p + n) e is g k) ∙ sym (next_bytes s p n e h))

-- ---- and they are as many
pub kept_long : (s : List ℕ) (p e : ℕ) (is : List Item) → Follow p is e → e ≤ length s → length (kept_bytes s is) ≡ kept_count is
kept_long s p e [] f k = refl
kept_long s p e (Kept at n ∷ is) f k =
    let g = f.1.1 in
    let l : length (take n (drop at s)) ≡ n = rw f.0 (item_long s p n e (follow_le (p + n) e is g) k) in
    omega (arith, length-append (take n (drop at s)) (kept_bytes s is), l, kept_long s (p + n) e is g k)
kept_long s p e (Skipped at n ∷ is) f k = kept_long s (p + n) e is f.1.1 k

pub items_once : (p e : ℕ) (is : List Item) → Follow p is e → p + (kept_count is + skipped_count (stretches is)) ≡ e
items_once p e [] f = omega (arith, f)
items_once p e (Kept at n ∷ is) f = omega (arith, items_once (p + n) e is f.1.1)
items_once p e (Skipped at n ∷ is) f = omega (arith, items_once (p + n) e is f.1.1)

module _ (file out list : List ℕ) (r : Salvaged) (out' list' : List ℕ) (h : Salvages file out list r out' list') where
  abbrev stop : ℕ
  stop = stop_of r.ended (length file)

  abbrev written : List Item
  written = items file out list r out' list' h

  follows : Follow 0 written stop
  follows = follow_written file out list r out' list' h

  pub parts : Parts file r out' list'
  parts =
      let z : stop - 0 ≡ stop = omega arith in
      let k = stop_in_lem file out list r out' list' h in
      let b = written_bytes file out list r out' list' h in
      let l = written_list file out list r out' list' h in
      record {
        in_order_lem = ap₂ (together file 0) b l ∙ items_together file 0 stop written follows k ∙ ap (λ (n : ℕ). take n file) z;
        each_once =
            omega (arith, written_is file out list r out' list' h, kept_long file 0 stop written follows k, ap skipped_count l, items_once 0 stop written follows);
      }

  pub within : (r.written ≤ length out) × (2 * r.stretches ≤ length list)
  within =
      let f = (ending (length out) (slots_of list) (items_of file)).fit in (
        omega (arith, written_is file out list r out' list' h, kept_long file 0 stop written follows (stop_in_lem file out list r out' list' h), f.0),
        omega (arith, stretches_are file out list r out' list' h, f.1),
      )

  pub all_parts : r.ended ≡ Ok tt → together file 0 (bytes_in r out') (list_in r list') ≡ file
  all_parts e = parts.in_order_lem ∙ ap (λ (x : Result ⊤ Full). take (stop_of x (length file)) file) e ∙ take-length file
