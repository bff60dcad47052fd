-- The records of a file are whole, and hold the offers of the fields that are kept (records).
-- Assumes nothing.
use Prim.Native.Nat.{ℕ, suc, ◌+◌, ◌-◌, ◌<◌}
use native.Mathlib.Nat.{add-zero}
use native.Mathlib.Omega.{arith}
use mathlib.Core.Path.{◌≡◌, refl, sym, ap, ap₂, ◌∙◌}
use mathlib.Core.Bool.{Bool, true, false, not}
use mathlib.Core.List.{List, [], ◌∷◌, ◌++◌}
use lib.Dec.{eqb}
use lib.ListN.{length, take, drop, get_or, length-append, length-drop}
use lib.Seq.{take_at, drop_at, drop-drop, get_or-drop, length-take-le}
use borrow.Author.Tests.{eqb-true, not-false}
use Rattle.strings.specs.Pick.{pick}
use Rattle.fields.specs.Fields.{tag_in, length_in, body_in, size_in, size_at}
use Rattle.fields.specs.Block.{Call, offer_of, reset_of, call_in}
use Rattle.fields.proofs.Whole.{Good, good_parts, good_size, size_is}
use Rattle.salvage.specs.Items.{Item, Kept, items_of}
use Rattle.salvage.specs.Laws.{calls_kept}
use Rattle.salvage.proofs.Items.{all_ind}
use Rattle.windows.specs.declared.Wanted.TheVariants.{Records}
use Rattle.windows.specs.Shown.{record_of, shown}
use Rattle.windows.specs.Laws.{offers_in, Read}

-- a field of sixteen bytes more
offer_read : (rec text : List ℕ) (calls : List Call) → length rec ≡ 16 → Read text calls → Read (rec ++ text) (offer_of rec ∷ calls)
offer_read rec text calls e r =
    record {
      count = suc r.count;
      whole = omega (arith, length-append rec text, e, r.whole);
      offers = ap₂ (λ (a b : List ℕ). offer_of a ∷ offers_in r.count b) (take_at rec text 16 e) (drop_at rec text 16 e) ∙ ap (λ (l : List Call). offer_of rec ∷ l) r.offers;
    }

-- the good field at a place, and what is read behind it
module _ (file : List ℕ) (at : ℕ) (h : 0 < size_at file at) (text : List ℕ) (calls : List Call) (r : Read text calls) where
  abbrev rest : List ℕ
  rest = drop at file

  good : Good rest
  good = good_parts rest (good_size rest h)

  size : size_in rest ≡ 3 + length_in rest
  size = size_is rest (good_size rest h)

  tag_is : get_or file at 0 ≡ tag_in rest
  tag_is = sym (get_or-drop at file 0 0 ∙ ap (λ (k : ℕ). get_or file k 0) (add-zero at))

  body_is : take (size_at file at - 3) (drop (at + 3) file) ≡ body_in rest
  body_is = let e : size_at file at - 3 ≡ length_in rest = omega (arith, size) in ap₂ take e (sym (drop-drop 3 at file))

  -- an offer has sixteen bytes
  sixteen : eqb (tag_in rest) 1 ≡ true → length (body_in rest) ≡ 16
  sixteen e =
      let w : not (eqb (length_in rest) 16) ≡ false = rw e at good.right in
      let n : length_in rest ≡ 16 = eqb-true (length_in rest) 16 (not-false (eqb (length_in rest) 16) w) in
      length-take-le (length_in rest) (drop 3 rest) (omega (arith, length-drop 3 rest, good.whole)) ∙ n

  by_tag : (t u : Bool) → eqb (tag_in rest) 1 ≡ t
      → Read (pick t (body_in rest) [] ++ text) (pick t (offer_of (body_in rest) ∷ []) (pick u (reset_of (body_in rest) ∷ []) []) ++ calls)
  by_tag true u e = offer_read (body_in rest) text calls (sixteen e) r
  by_tag false true e = record { count = r.count; whole = r.whole; offers = r.offers }
  by_tag false false e = r

  field_read : Read (record_of file (Kept at (size_at file at)) ++ text) (call_in rest ++ calls)
  unfolding call_in
  field_read = rw (tag_is, body_is) (by_tag (eqb (tag_in rest) 1) (eqb (tag_in rest) 2) refl)

pub records : (file : List ℕ) → Read (shown Records file (items_of file)) (calls_kept file (items_of file))
unfolding shown
records file =
    all_ind file (λ (at : ℕ) (is : List Item). Read (shown Records file is) (calls_kept file is))
    (λ at l. record { count = 0; whole = refl; offers = refl })
    (λ at is l z r. r)
    (λ at is l z r. field_read file at z (shown Records file is) (calls_kept file is) r)
