-- Columns: how wide each field is, and a line written from left to right, field by field. Assumes nothing.
use mathlib.Core.Path.{◌≡◌, refl, ap, ◌∙◌}
use mathlib.Core.Bool.{Bool, true, false, cond}
use mathlib.Core.List.{List, [], ◌∷◌, ◌++◌, append_assoc}
use Prim.Native.Nat.{ℕ, suc, ◌+◌, ◌≤◌, ◌<◌}
use native.Mathlib.Omega.{arith}
use lib.Dec.{lit<, ltb}
use lib.IntN.{ℤ, neg_ℤ}
use lib.ListN.{length, set, length-append}
use mir.Syntax.{w32}
use mir.Val.{SFits, to_z, of_z}
use mir.ValLaws.{to_z-of_z}
use borrow.Author.Tests.{lt-ltb, le-ltb}
use borrow.Rule.Slice.PartMut.{put_mid}
use Rattle.decimals.specs.Codes.{codes}
use Rattle.decimals.specs.Decimal.{digits_of, decimal_of}
use Rattle.decimals.proofs.Exactly.{nineteen}
use Rattle.decimals.proofs.Upto.{Upto, upto_none, upto_set, upto_part, upto_all}
use Rattle.rinex.specs.declared.epoch.Epoch.{Epoch}
use Rattle.records.specs.declared.named.ImmediateWords.{ImmediateWords}
use Rattle.rinex.specs.Lines.{two_of, field_of, epoch_text, first_line, other_line}
use Rattle.rinex.specs.Record.{head_of, x_line, y_line, z_line}

-- ---- I2
pub two_small : (n : ℕ) (out : List ℕ) → length out ≡ 2 → n < 10 → set (set out 0 32) 1 (48 + n) ≡ two_of n
two_small n out h l = rw (lt-ltb n 10 l) (upto_all (upto_set (lit< tt) refl (upto_set (lit< tt) refl (upto_none out h))))

pub two_large : (n d : ℕ) (out : List ℕ) → d ≡ 2 → 10 ≤ n → out ≡ digits_of d n → out ≡ two_of n
two_large n d out h l e = rw (le-ltb n 10 l) (e ∙ ap (λ (k : ℕ). digits_of k n) h)

pub two_long : (n : ℕ) → length (two_of n) ≡ 2
two_long n = go (ltb n 10)
  where
    go : (b : Bool) → length (cond b (32 ∷ (48 + n) ∷ []) (digits_of 2 n)) ≡ 2
    go true = refl
    go false = refl

pub field_long : (n : ℕ) → length (field_of n) ≡ 3
field_long n = ap suc (two_long n)

-- the fields before the seconds
pub joined : (a b c d e f : List ℕ)
    → ((((((((((a ++ b) ++ c) ++ d) ++ e) ++ f) ++ (32 ∷ [])) ++ (32 ∷ [])) ++ (48 ∷ [])) ++ (46 ∷ [])) ++ (48 ∷ [])) ≡ a ++ (b ++ (c ++ (d ++ (e ++ (f ++ codes "  0.0")))))
joined a b c d e f = simp append_assoc

-- ---- a number more, as a call leaves it
pub number : {size i : ℕ} {l t last : List ℕ} (z : ℤ) (p : ℕ) → SFits w32 z → i + 19 ≤ size → last ≡ decimal_of (to_z w32 (of_z w32 z)) p → Upto size i l t
    → Upto size (i + 19) (put_mid i 19 l last) (t ++ decimal_of z p)
number z p s h e u = upto_part h (nineteen z p) (e ∙ ap (λ (y : ℤ). decimal_of y p) (to_z-of_z w32 z s)) u

pub negated : {size i : ℕ} {l t last : List ℕ} (z : ℤ) (p : ℕ) → SFits w32 z → i + 19 ≤ size → last ≡ decimal_of (neg_ℤ (to_z w32 (of_z w32 z))) p → Upto size i l t
    → Upto size (i + 19) (put_mid i 19 l last) (t ++ decimal_of (neg_ℤ z) p)
negated z p s h e u = upto_part h (nineteen (neg_ℤ z) p) (e ∙ ap (λ (y : ℤ). decimal_of (neg_ℤ y) p) (to_z-of_z w32 z s)) u

-- ---- the lines
pub epoch_long : (n : ℕ) (e : Epoch) → length (epoch_text n e) ≡ 22
unfolding epoch_text
epoch_long n e = simp length-append (omega (arith, two_long n, field_long e.month, field_long e.day, field_long e.hour, field_long e.minute))

first_long : (n : ℕ) (e : Epoch) (tau gamma time : ℤ) → length (first_line n e tau gamma time) ≡ 80
unfolding first_line
first_long n e tau gamma time = simp length-append (omega (arith, epoch_long n e, nineteen (neg_ℤ tau) 30, nineteen gamma 40, nineteen time 0))

other_long : (x v a last : ℤ) → length (other_line x v a last) ≡ 80
unfolding other_line
other_long x v a last = simp length-append (omega (arith, nineteen x 11, nineteen v 20, nineteen a 30, nineteen last 0))

pub head_long : (w : ImmediateWords) (n4 : ℤ) → length (head_of w n4) ≡ 80
unfolding head_of
head_long w n4 = first_long _ _ w.four.tau w.three.gamma _

pub x_long : (w : ImmediateWords) → length (x_line w) ≡ 80
x_long w = other_long _ _ _ _

pub y_long : (w : ImmediateWords) (carrier : ℤ) → length (y_line w carrier) ≡ 80
y_long w carrier = other_long _ _ _ _

pub z_long : (w : ImmediateWords) → length (z_line w) ≡ 80
z_long w = other_long _ _ _ _
