-- The value that the reader gives for a signed word is its sign and magnitude in the bits of the string (raw-is), and its width holds it (raw-held).
-- Assumes nothing.
use mathlib.Core.Path.{◌≡◌, refl, ap, subst, ◌∙◌}
use mathlib.Core.Bool.{Bool, true, false}
use Prim.Native.Nat.{ℕ, zero, suc, ◌+◌, ◌-◌, ◌^◌, ◌≤◌, ◌<◌}
use native.Mathlib.Omega.{arith}
use lib.Dec.{T, eqb}
use lib.IntN.{pos, neg_ℤ, nat_abs}
use lib.ListN.{get_or}
use Rattle.strings.specs.Pick.{pick}
use Rattle.strings.specs.Number.{word_of, bit_of}
use Rattle.strings.proofs.Below.{below, below_at}
use Rattle.strings.proofs.WordOf.{word_lt}
use Rattle.records.specs.declared.kinds.Kind.TheVariants.{One}
use Rattle.records.specs.Records.{at}
use Rattle.layout.specs.declared.table.Form.{Form}
use Rattle.layout.specs.declared.table.Form.TheVariants.{Plain, Signed, Time, Interval, Day, Slot, Carrier}
use Rattle.layout.specs.Layout.{layout, width}
use Rattle.layout.proofs.Rows.{layout_long, placed_at}
use Rattle.words.specs.Values.{value_as, values_of}
use Rattle.words.specs.Tidied.{is_signed, word_at}
use Rattle.words.proofs.Loops.{values_at}
use Rattle.words.proofs.Names.{signed_in_lem}
use Rattle.scaled.specs.declared.table.SignedWord.{SignedWord}
use Rattle.scaled.specs.Scaled.{Holds}
use Rattle.scaled.specs.Units.{units, kind_at, place_at}
use Rattle.scaled.proofs.Listed.{listed_at}
use Rattle.host.specs.Host.{signed_word, raw_in}

is_signed_lem : (f : Form) → T (is_signed f) → f ≡ Signed
is_signed_lem Plain t = absurd t
is_signed_lem Signed t = refl
is_signed_lem Time t = absurd t
is_signed_lem Interval t = absurd t
is_signed_lem Day t = absurd t
is_signed_lem Slot t = absurd t
is_signed_lem Carrier t = absurd t

-- one computed test over the table: each of its words is sign and magnitude
abbrev sign_test : ℕ → Bool
sign_test j = let w : SignedWord = get_or units j (One, 0, 0) in is_signed (word_at w.0 w.1).form

all_signs : T (below 22 sign_test)
unfolding units layout
all_signs = tt

size_of : (b : Bool) (m : ℕ) → nat_abs (pick b (neg_ℤ (pos m)) (pos m)) ≡ m
size_of true zero = refl
size_of true (suc m) = refl
size_of false m = refl

module _ (n number : ℕ) (h : 1 ≤ number) (u : number ≤ 22) where
  pub word_signed : (signed_word number).form ≡ Signed
  word_signed = is_signed_lem (signed_word number).form (below_at 22 sign_test all_signs (number - 1) (omega arith))

  pub raw_is : at (values_of n (layout (kind_at number))) (place_at number) ≡ raw_in n number
  raw_is =
      let k = kind_at number in
      let w = signed_word number in
      let l = listed_at number h u in
      let p = placed_at k (place_at number) l.place in
      values_at n (layout k) (place_at number) (rw (layout_long k) l.place)
      ∙ ap (λ (f : Form). value_as f (2 ^ (w.top - w.low)) (word_of n w.top w.low)) word_signed
      ∙ signed_in_lem n w.top w.low p.first (p.sign word_signed)

  pub raw_held : Holds (width (signed_word number)) (raw_in n number)
  raw_held =
      let w = signed_word number in
      let l = listed_at number h u in
      let p = placed_at (kind_at number) (place_at number) l.place in
      let g : w.low ≤ w.top = p.sign word_signed in
      let f : 1 ≤ w.low = p.first in
      let e : w.top - 1 + 1 - w.low ≡ w.top + 1 - w.low - 1 = omega arith in
      rw (size_of (eqb (bit_of n w.top) 1) (word_of n (w.top - 1) w.low))
      (subst (λ (i : ℕ). word_of n (w.top - 1) w.low < 2 ^ i) e (word_lt n (w.top - 1) w.low))
