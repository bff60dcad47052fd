-- A block that is written from calls and remarks has exactly these calls and ends whole (reads).
-- Assumes nothing.
use mathlib.Core.Path.{◌≡◌, refl, sym, ap, ap₂, ◌∙◌}
use mathlib.Core.Bool.{false}
use mathlib.Core.List.{List, [], ◌∷◌, ◌++◌, append-nil}
use Prim.Native.Nat.{ℕ, ◌+◌, ◌^◌, ◌<◌}
use native.Mathlib.Nat.{mod-eq_of_lt}
use native.Mathlib.Omega.{arith}
use lib.ListN.{length, take}
use lib.Seq.{take-length, take_all}
use Rattle.strings.specs.Number.{bytes_of}
use Rattle.strings.proofs.Value.{value_bytes}
use Rattle.fields.specs.Fields.{length_in, body_in, is_unknown, is_wrong}
use Rattle.fields.specs.Block.{Call, Offer, Reset, offer_of, reset_of, call_in, fields_in, calls_of, joined}
use Rattle.fields.specs.Written.{Item, Asks, Remarks, field_of, written, block_of, calls_among, Fits, AllFit}
use Rattle.fields.specs.Laws.{Reads}
use Rattle.fields.proofs.Whole.{Good, Whole, size_is, good_by}
use Rattle.fields.proofs.Steps.{AllWhole, fields_joined, fields_none, none_there, ends_whole}

-- ---- a field as it is written
module _ (tag : ℕ) (body : List ℕ) (h : length body < 2 ^ 16) where
  length_written : length_in (field_of tag body) ≡ length body
  length_written = value_bytes 2 (length body) ∙ mod-eq_of_lt h

  pub body_written : body_in (field_of tag body) ≡ body
  body_written = ap (λ (n : ℕ). take n body) length_written ∙ take-length body

  pub whole_written : is_unknown tag ≡ false → is_wrong tag (length body) ≡ false → Whole (field_of tag body)
  whole_written u w =
      let g : Good (field_of tag body) = record { whole = omega (arith, length_written); known = u; right = rw length_written w } in
      record { good = g; size = size_is (field_of tag body) (good_by (field_of tag body) g) ∙ ap (λ (n : ℕ). 3 + n) length_written ∙ omega arith }

-- ---- an item is a whole field, and its calls are its own
abbrev body_of : ℕ → ℕ → List ℕ → List ℕ
body_of c epoch s = c ∷ (bytes_of 4 epoch ++ s)

sixteen : (c epoch : ℕ) (s : List ℕ) → length s ≡ 11 → length (body_of c epoch s) ≡ 16
sixteen c epoch s e = omega (arith, e)

pub item_whole : (i : Item) → Fits i → Whole (written i)
unfolding written
item_whole (Asks (Offer c epoch s)) f =
    whole_written 1 (body_of c epoch s) (omega (arith, sixteen c epoch s f.1)) refl (ap (is_wrong 1) (sixteen c epoch s f.1))
item_whole (Asks (Reset c)) f = whole_written 2 (c ∷ []) (omega arith) refl refl
item_whole (Remarks bytes) f = whole_written 3 bytes f refl refl

abbrev called_by : Item → List Call
called_by (Asks call) = call ∷ []
called_by (Remarks bytes) = []

offer_read : (c epoch : ℕ) (s : List ℕ) → epoch < 2 ^ 32 → length s ≡ 11 → offer_of (body_of c epoch s) ≡ Offer c epoch s
offer_read c epoch s h e = ap₂ (Offer c) (value_bytes 4 epoch ∙ mod-eq_of_lt h) (take_all 11 s (omega arith))

pub item_calls : (i : Item) → Fits i → call_in (written i) ≡ called_by i
unfolding written call_in
item_calls (Asks (Offer c epoch s)) f =
    ap (λ (b : List ℕ). offer_of b ∷ []) (body_written 1 (body_of c epoch s) (omega (arith, sixteen c epoch s f.1)))
    ∙ ap (λ (x : Call). x ∷ []) (offer_read c epoch s f.0 f.1)
item_calls (Asks (Reset c)) f = ap (λ (b : List ℕ). reset_of b ∷ []) (body_written 2 (c ∷ []) (omega arith))
item_calls (Remarks bytes) f = refl

-- ---- and so are all of them
all_written : List Item → List (List ℕ)
all_written [] = []
all_written (i ∷ is) = written i ∷ all_written is

all_whole : (is : List Item) → AllFit is → AllWhole (all_written is)
unfolding all_written
all_whole [] f = tt
all_whole (i ∷ is) f = (item_whole i f.0, all_whole is f.1)

one_call : (i : Item) (is : List Item) → called_by i ++ calls_among is ≡ calls_among (i ∷ is)
unfolding calls_among
one_call (Asks call) is = refl
one_call (Remarks bytes) is = refl

all_calls : (is : List Item) → AllFit is → calls_of (all_written is) ≡ calls_among is
unfolding all_written calls_of calls_among
all_calls [] f = refl
all_calls (i ∷ is) f = ap₂ (λ (x y : List Call). x ++ y) (item_calls i f.0) (all_calls is f.1) ∙ one_call i is

block_is : (is : List Item) → block_of is ≡ joined (all_written is)
unfolding all_written block_of joined
block_is [] = refl
block_is (i ∷ is) = ap (λ (l : List ℕ). written i ++ l) (block_is is)

fields_are : (is : List Item) → AllFit is → fields_in (block_of is) ≡ all_written is
fields_are is f =
    ap fields_in (block_is is ∙ sym (append-nil (joined (all_written is)))) ∙ fields_joined (all_written is) [] (all_whole is f)
    ∙ ap (λ (fs : List (List ℕ)). all_written is ++ fs) (fields_none [] none_there) ∙ append-nil (all_written is)

-- ---- A BLOCK THAT IS WRITTEN from any offers of eleven bytes, resets and remarks has exactly these calls, and ends whole
pub reads : (items : List Item) → AllFit items → Reads items
reads is f =
    record {
      calls = ap calls_of (fields_are is f) ∙ all_calls is f;
      whole = ends_whole (block_of is) (ap joined (fields_are is f) ∙ sym (block_is is));
    }
