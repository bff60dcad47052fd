-- The items of a file from a place on are those of the file that starts there, moved by the place (rest-moved). So the rest of a file, from the byte told, gives
-- the rest of the items (rest-told); a caller that goes on from there gets all (goes_on), and gets on (gets-on).
-- Assumes nothing.
use Prim.Native.Nat.{ℕ, zero, suc, ◌+◌, ◌-◌, ◌≤◌, ◌<◌}
use native.Mathlib.Nat.{add-zero}
use native.Mathlib.Omega.{arith}
use mathlib.Core.Path.{◌≡◌, refl, sym, ap, ap₂, ◌∙◌}
use mathlib.Core.Bool.{Bool, true, false, ◌||◌}
use mathlib.Core.List.{List, [], ◌∷◌, ◌++◌, append_assoc}
use lib.Dec.{leb, eqb}
use lib.ListN.{length, take, drop, length-drop}
use lib.Seq.{drop-drop}
use borrow.Author.Tests.{leb-true, leb-false, le-leb, lt-leb}
use Rattle.strings.specs.Number.{Bytes}
use Rattle.salvage.specs.declared.Full.{Full}
use Rattle.std.specs.Prelude.{Result, Ok, Err, ⊤}
use Rattle.strings.specs.Pick.{pick}
use Rattle.fields.specs.Fields.{size_in, size_at}
use Rattle.fields.proofs.Near.{size_small}
use Rattle.salvage.specs.declared.Full.TheVariants.{Output as OutputFull, List as ListFull}
use Rattle.salvage.specs.declared.Salvaged.{Salvaged}
use Rattle.salvage.specs.Items.{Item, Kept, Skipped, count_of, two_follow, one_ends, resumes, search_from, next_place, items_from, items_of}
use Rattle.salvage.specs.Rules.{Follow}
use Rattle.salvage.specs.Writing.{fitting, end_of, kept_bytes, stretches, slots_of, Salvages}
use Rattle.salvage.specs.Laws.{bytes_in, list_in, stop_of, moved_items, onward, GoesOn, ends, goes}
use Rattle.salvage.proofs.Items.{rest, rest_all, rest_end, rest_bad, rest_good, rest_ind}
use Rattle.salvage.proofs.Rules.{follow_le}
use Rattle.salvage.proofs.Ends.{ended_is, written_bytes, written_list, follow_written, unrefused}
use Rattle.salvage.proofs.Apart.{stretches_append}

-- ---- a place of a file is a place of what is left of it
module _ (s : List ℕ) (p : ℕ) where
  abbrev left : List ℕ
  left = drop p s

  pub size_moved : (k : ℕ) → size_at s (p + k) ≡ size_at left k
  size_moved k = ap size_in (sym (drop-drop k p s))

  pub resumes_moved : (k : ℕ) → resumes s (p + k) ≡ resumes left k
  unfolding resumes
  resumes_moved k = ap (λ (l : List ℕ). two_follow l || one_ends l) (sym (drop-drop k p s))

  pick_add : (t : Bool) (a b : ℕ) → pick t (p + a) (p + b) ≡ p + pick t a b
  pick_add true a b = refl
  pick_add false a b = refl

  search_moved : (n k : ℕ) → search_from s n (p + k) ≡ p + search_from left n k
  search_moved zero k = refl
  search_moved (suc n) k =
      let e : suc (p + k) ≡ p + suc k = omega arith in
      rw (resumes_moved k, e, search_moved n (suc k)) (pick_add (resumes left k) k (search_from left n (suc k)))

  pub next_moved : (k : ℕ) → next_place s (p + k) ≡ p + next_place left k
  unfolding next_place
  next_moved k =
      let l : length s - suc (p + k) ≡ length left - suc k = omega (arith, length-drop p s) in
      let e : suc (p + k) ≡ p + suc k = omega arith in
      rw (l, e) (search_moved (length left - suc k) (suc k))

  leb_moved : (k : ℕ) → leb (length s) (p + k) ≡ leb (length left) k
  leb_moved k = by (leb (length left) k) refl
    where
      by : (t : Bool) → leb (length left) k ≡ t → leb (length s) (p + k) ≡ t
      by true e = le-leb (length s) (p + k) (omega (arith, leb-true (length left) k e, length-drop p s))
      by false e = lt-leb (length s) (p + k) (omega (arith, leb-false (length left) k e, length-drop p s))

  moved_pick : (t u : Bool) (b c : List Item) → pick t [] (pick u (moved_items p b) (moved_items p c)) ≡ moved_items p (pick t [] (pick u b c))
  moved_pick true u b c = refl
  moved_pick false true b c = refl
  moved_pick false false b c = refl

  pub items_moved : (n k : ℕ) → items_from s n (p + k) ≡ moved_items p (items_from left n k)
  items_moved zero k = refl
  items_moved (suc n) k =
      let q = next_place left k in
      let m = size_at left k in
      let d : p + q - (p + k) ≡ q - k = omega arith in
      let a : p + k + m ≡ p + (k + m) = omega arith in
      rw (leb_moved k, next_moved k, size_moved k, d, a, items_moved n q, items_moved n (k + m))
      (moved_pick (leb (length left) k) (eqb m 0) (Skipped k (q - k) ∷ items_from left n q) (Kept k m ∷ items_from left n (k + m)))

  pub rest_moved : (k : ℕ) → rest s (p + k) ≡ moved_items p (rest left k)
  rest_moved k =
      let l : length s - (p + k) ≡ length left - k = omega (arith, length-drop p s) in
      rw l (items_moved (length left - k) k)

  pub rest_left : rest s p ≡ moved_items p (items_of left)
  rest_left = ap (rest s) (sym (add-zero p)) ∙ rest_moved 0 ∙ ap (moved_items p) (rest_all left)

-- ---- what is not written is the rest from the byte told
record Splits (s : List ℕ) (p : ℕ) (is : List Item) : Type 0 where
  pub is_rest : is ≡ rest s p
  pub split : (room slots : ℕ) → is ≡ fitting room slots is ++ rest s (stop_of (end_of room slots is) (length s))

split_pick : (s : List ℕ) (p : ℕ) (t : Bool) (i : Item) (is w : List Item) (e e' : Result ⊤ Full) → i ∷ is ≡ rest s p → stop_of e' (length s) ≡ p
    → is ≡ w ++ rest s (stop_of e (length s)) → i ∷ is ≡ pick t (i ∷ w) [] ++ rest s (stop_of (pick t e e') (length s))
split_pick s p true i is w e e' r h f = ap (λ (l : List Item). i ∷ l) f
split_pick s p false i is w e e' r h f = r ∙ ap (rest s) (sym h)

splits : (s : List ℕ) (p : ℕ) → Splits s p (rest s p)
splits s =
    rest_ind s (Splits s)
    (λ p l. record { is_rest = sym (rest_end s p l); split = λ room slots. sym (rest_end s (length s) (omega arith)) })
    (λ p is l z f.
    let c = next_place s p - p in
    let r : Skipped p c ∷ is ≡ rest s p = ap (λ (x : List Item). Skipped p c ∷ x) f.is_rest ∙ sym (rest_bad s p l z) in
    record {
      is_rest = r;
      split = λ room slots.
          split_pick s p (leb 1 slots) (Skipped p c) is (fitting room (slots - 1) is) (end_of room (slots - 1) is) (Err (ListFull p)) r refl (f.split room (slots - 1));
    })
    (λ p is l z f.
    let n = size_at s p in
    let r : Kept p n ∷ is ≡ rest s p = ap (λ (x : List Item). Kept p n ∷ x) f.is_rest ∙ sym (rest_good s p n l refl (λ e. omega (arith, e, z))) in
    record {
      is_rest = r;
      split = λ room slots.
          split_pick s p (leb n room) (Kept p n) is (fitting (room - n) slots is) (end_of (room - n) slots is) (Err (OutputFull p)) r refl (f.split (room - n) slots);
    })

-- ---- bytes and stretches of items that are moved, and of items one after the other
moved_bytes : (s : List ℕ) (p : ℕ) (is : List Item) → kept_bytes (drop p s) is ≡ kept_bytes s (moved_items p is)
moved_bytes s p [] = refl
moved_bytes s p (Kept at n ∷ is) = ap₂ (λ (x y : List ℕ). take n x ++ y) (drop-drop at p s) (moved_bytes s p is)
moved_bytes s p (Skipped at n ∷ is) = moved_bytes s p is

moved_list : (p : ℕ) (is : List Item) → onward p (stretches is) ≡ stretches (moved_items p is)
moved_list p [] = refl
moved_list p (Kept at n ∷ is) = moved_list p is
moved_list p (Skipped at n ∷ is) = ap (λ (l : List ℕ). (p + at) ∷ n ∷ l) (moved_list p is)

moved_append : (p : ℕ) (a b : List Item) → moved_items p (a ++ b) ≡ moved_items p a ++ moved_items p b
moved_append p [] b = refl
moved_append p (Kept at n ∷ a) b = ap (λ (l : List Item). Kept (p + at) n ∷ l) (moved_append p a b)
moved_append p (Skipped at n ∷ a) b = ap (λ (l : List Item). Skipped (p + at) n ∷ l) (moved_append p a b)

bytes_append : (s : List ℕ) (a b : List Item) → kept_bytes s (a ++ b) ≡ kept_bytes s a ++ kept_bytes s b
bytes_append s [] b = refl
bytes_append s (Kept at n ∷ a) b =
    ap (λ (l : List ℕ). take n (drop at s) ++ l) (bytes_append s a b) ∙ sym (append_assoc (take n (drop at s)) (kept_bytes s a) (kept_bytes s b))
bytes_append s (Skipped at n ∷ a) b = bytes_append s a b

module _ (file out list : List ℕ) (r : Salvaged) (out' list' : List ℕ) (h : Salvages file out list r out' list') where
  abbrev stop : ℕ
  stop = stop_of r.ended (length file)

  abbrev written : List Item
  written = fitting (length out) (slots_of list) (items_of file)

  pub split_told : items_of file ≡ written ++ rest file stop
  split_told =
      rw (ended_is file out list r out' list' h, ← rest_all file) ((splits file 0).split (length out) (slots_of list))

  pub rest_told : items_of file ≡ written ++ moved_items stop (items_of (drop stop file))
  rest_told = split_told ∙ ap (λ (x : List Item). written ++ x) (rest_left file stop)

  -- something is written where there is room for any field and for one stretch
  first_in : (i : Item) (is : List Item) → written ≡ i ∷ is → 0 < stop
  first_in i is e =
      let f : Follow 0 (i ∷ is) stop = rw e at (follow_written file out list r out' list' h) in
      omega (arith, f.1.0, follow_le (0 + count_of i) stop is f.1.1)

  pub gets_on : Bytes file → 0 < length file → 65538 ≤ length out → 2 ≤ length list → 0 < stop
  gets_on b l o k = by (size_at file 0) refl
    where
      by : (n : ℕ) → size_at file 0 ≡ n → 0 < stop
      by zero e =
          first_in (Skipped 0 (next_place file 0 - 0)) (fitting (length out) (slots_of list - 1) (rest file (next_place file 0)))
          (rw (← rest_all file, rest_bad file 0 l e) (rw (le-leb 1 (slots_of list) (omega (arith, k))) refl))
      by (suc n) e =
          let m : suc n ≤ length out = omega (arith, e, o, size_small file 0 b (omega (arith, e))) in
          first_in (Kept 0 (suc n)) (fitting (length out - suc n) (slots_of list) (rest file (0 + suc n)))
          (rw (← rest_all file, rest_good file 0 (suc n) l (sym e) (λ z. omega (arith, z))) (rw (le-leb (suc n) (length out) m) refl))

-- ---- a caller that goes on gets all that is kept and all that is skipped from its place on
abbrev Gets : List ℕ → ℕ → List ℕ → List ℕ → Type 0
Gets file at bytes told = (bytes ≡ kept_bytes file (rest file at)) × (told ≡ stretches (rest file at))

module _ (file : List ℕ) (at : ℕ) (out list : List ℕ) (r : Salvaged) (out' list' : List ℕ) (h : Salvages (drop at file) out list r out' list') where
  abbrev here : List Item
  here = moved_items at (fitting (length out) (slots_of list) (items_of (drop at file)))

  here_bytes : bytes_in r out' ≡ kept_bytes file here
  here_bytes = written_bytes (drop at file) out list r out' list' h ∙ moved_bytes file at (fitting (length out) (slots_of list) (items_of (drop at file)))

  here_list : onward at (list_in r list') ≡ stretches here
  here_list =
      ap (onward at) (written_list (drop at file) out list r out' list' h) ∙ moved_list at (fitting (length out) (slots_of list) (items_of (drop at file)))

  here_then : rest file at ≡ here ++ rest file (at + stop_of r.ended (length (drop at file)))
  here_then =
      let stop = stop_of r.ended (length (drop at file)) in
      rest_left file at ∙ ap (moved_items at) (split_told (drop at file) out list r out' list' h)
      ∙ moved_append at (fitting (length out) (slots_of list) (items_of (drop at file))) (rest (drop at file) stop)
      ∙ ap (λ (x : List Item). here ++ x) (sym (rest_moved file at stop))

  gets_more : (bytes told : List ℕ) → Gets file (at + stop_of r.ended (length (drop at file))) bytes told
      → Gets file at (bytes_in r out' ++ bytes) (onward at (list_in r list') ++ told)
  gets_more bytes told g =
      let more = rest file (at + stop_of r.ended (length (drop at file))) in (
        ap₂ (λ (x y : List ℕ). x ++ y) here_bytes g.0 ∙ sym (bytes_append file here more) ∙ ap (kept_bytes file) (sym here_then),
        ap₂ (λ (x y : List ℕ). x ++ y) here_list g.1 ∙ sym (stretches_append here more) ∙ ap stretches (sym here_then),
      )

  gets_all : r.ended ≡ Ok tt → Gets file at (bytes_in r out') (onward at (list_in r list'))
  gets_all e =
      let w = unrefused (length out) (slots_of list) (items_of (drop at file)) (sym (ended_is (drop at file) out list r out' list' h) ∙ e) in
      let i : here ≡ rest file at = ap (moved_items at) w ∙ sym (rest_left file at) in
      (here_bytes ∙ ap (kept_bytes file) i, here_list ∙ ap stretches i)

gets : {file : List ℕ} {at : ℕ} {bytes told : List ℕ} → GoesOn file at bytes told → Gets file at bytes told
gets {file} (ends at out list r out' list' h e) = gets_all file at out list r out' list' h e
gets {file} (goes at out list r out' list' bytes told h g) = gets_more file at out list r out' list' h bytes told (gets g)

pub goes_on : (file bytes told : List ℕ) → GoesOn file 0 bytes told → (bytes ≡ kept_bytes file (items_of file)) × (told ≡ stretches (items_of file))
goes_on file bytes told g = rw (rest_all file) at (gets g)
