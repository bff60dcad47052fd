-- The shape of a string and the room for it: what the tests say, and which bytes pass them.
-- Assumes nothing.
use mathlib.Core.Path.{◌≡◌, refl, ◌∙◌, sym, ap}
use mathlib.Core.Bool.{Bool, true, false, not, ◌||◌, true≢false, not-not}
use mathlib.Core.List.{List}
use mathlib.Core.Logic.{◌↔◌}
use Prim.Native.Nat.{ℕ, ◌%◌, ◌^◌, ◌<◌}
use lib.Dec.{eqb}
use lib.ListN.{length, get_or}
use borrow.Author.Tests.{eqb-true, eq-eqb, ne_eqb}
use Rattle.strings.specs.Number.{Bytes, padding_of, misshapen, bytes_of_string}
use Rattle.strings.specs.Calls.{no_room}
use Rattle.strings.proofs.Value.{string_length, string_padding, padding_at}

neither : (a b : Bool) → (not a || not b) ≡ false → (a ≡ true) × (b ≡ true)
neither true true e = (refl, refl)
neither true false e = absurd (true≢false e)
neither false b e = absurd (true≢false e)

-- a string that is not misshapen has eleven bytes, and no padding but 0
pub shaped : (s : List ℕ) → misshapen s ≡ false → (length s ≡ 11) × (padding_of s ≡ 0)
unfolding misshapen
shaped s e =
    let b = neither (eqb (length s) 11) (eqb (padding_of s) 0) e in
    (eqb-true (length s) 11 b.0, eqb-true (padding_of s) 0 b.1)

pub well_made : (s : List ℕ) → length s ≡ 11 → padding_of s ≡ 0 → misshapen s ≡ false
unfolding misshapen
well_made s n p = rw (eq-eqb (length s) 11 n, eq-eqb (padding_of s) 0 p)

-- SHAPE in the bytes: "not 11 bytes, or padding not 0", where "the last three bits of the eleventh byte are padding"
pub shape_is : (s : List ℕ) → Bytes s → (misshapen s ≡ false) ↔ ((length s ≡ 11) × (get_or s 10 0 % 8 ≡ 0))
shape_is s b = (
  (λ e. let h = shaped s e in (h.0, sym (padding_at s b h.0) ∙ h.1)),
  (λ h. well_made s h.0 (padding_at s b h.0 ∙ h.1)),
)

-- the bytes of a number of 85 bits are such a string
pub string_shaped : (n : ℕ) → n < 2 ^ 85 → misshapen (bytes_of_string n) ≡ false
string_shaped n h = well_made (bytes_of_string n) (string_length n) (string_padding n h)

-- the answer r is `not` of the test m
pub shape_told : {m r t : Bool} → r ≡ not m → r ≡ not t → m ≡ t
shape_told {m} {t = t} e f = sym (not-not m) ∙ ap not (sym e ∙ f) ∙ not-not t

-- ---- the room
pub has_room_lem : (out : List ℕ) → length out ≡ 11 → no_room out ≡ false
has_room_lem out e = ap not (eq-eqb (length out) 11 e)

pub no_room_lem : (out : List ℕ) → (length out ≡ 11 → ⊥) → no_room out ≡ true
no_room_lem out h = ap not (ne_eqb (length out) 11 h)
