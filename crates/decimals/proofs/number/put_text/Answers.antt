-- `number::put_text` meets its contract: the text grows from left to right (`Upto`). Assumes nothing.
use mathlib.Core.Path.{refl, ◌∙◌, ap}
use mathlib.Core.Bool.{Bool, cond}
use mathlib.Core.List.{List, [], ◌∷◌, ◌++◌}
use Prim.Native.Nat.{ℕ, ◌+◌, ◌-◌, ◌/◌}
use lib.Dec.{leb, lit<, lit≤}
use lib.ListN.{length, set}
use borrow.Rule.Slice.PartMut.{put_mid, mid_of}
use Rattle.decimals.specs.Decimal.{digits_of, text_of}
use Rattle.decimals.proofs.Upto.{Upto, upto_none, upto_set, upto_digits, upto_all}
use Rattle.decimals.proofs.number.put_text.Goals as goal

-- the digit before the point
abbrev head : ℕ → ℕ
head n = n / 1000000000000

-- the text after the sign, after the point, and before the exponent's digits
abbrev t1 : Bool → List ℕ
t1 neg = cond neg 45 32 ∷ []

abbrev t3 : Bool → ℕ → List ℕ
t3 neg n = (t1 neg ++ digits_of 1 (head n)) ++ (46 ∷ [])

abbrev t5 : Bool → ℕ → List ℕ
t5 neg n = (t3 neg n ++ digits_of 12 n) ++ (68 ∷ [])

abbrev t6 : Bool → ℕ → ℕ → List ℕ
t6 neg n k = t5 neg n ++ (cond (leb k 12) 43 45 ∷ [])

-- the slice at those places, and where a part has just come back
abbrev L1 : (c : goal.After-slice_known-4-1) → List ℕ
L1 c = set c.args.out.now 0 c.sign.result

u1 : (c : goal.After-slice_known-4-1) → Upto 19 1 (L1 c) (t1 c.args.neg)
u1 c = upto_set (lit< tt) c.sign.ensures (upto_none c.args.out.now c.requires)

abbrev L2 : (c : goal.After-slice_known-4-1) → List ℕ
L2 c = put_mid 1 1 (L1 c) c.put_digits.new.out

u2 : (c : goal.After-slice_known-4-1) → Upto 19 2 (L2 c) (t1 c.args.neg ++ digits_of 1 (head c.args.n))
u2 c = upto_digits 1 (head c.args.n) (lit≤ tt) c.put_digits.ensures (u1 c)

u3 : (c : goal.After-slice_known-4-1) → Upto 19 3 (set (L2 c) 2 46) (t3 c.args.neg c.args.n)
u3 c = upto_set (lit< tt) refl (u2 c)

abbrev L4 : (c : goal.After-slice_known-4-1) → List ℕ
L4 c = put_mid 3 12 (set (L2 c) 2 46) c.put_digits-2.new.out

u4 : (c : goal.After-slice_known-4-1) → Upto 19 15 (L4 c) (t3 c.args.neg c.args.n ++ digits_of 12 c.args.n)
u4 c = upto_digits 12 c.args.n (lit≤ tt) c.put_digits-2.ensures (u3 c)

u5 : (c : goal.After-slice_known-4-1) → Upto 19 16 (set (L4 c) 15 68) (t5 c.args.neg c.args.n)
u5 c = upto_set (lit< tt) refl (u4 c)

abbrev L6 : (c : goal.After-slice_known-4-1) → List ℕ
L6 c = set (set (L4 c) 15 68) 16 c.exponent_sign.result

u6 : (c : goal.After-slice_known-4-1) → Upto 19 17 (L6 c) (t6 c.args.neg c.args.n c.args.k)
u6 c = upto_set (lit< tt) c.exponent_sign.ensures (u5 c)

u7 : (c : goal.After-slice_known-4-1) → Upto 19 19 (put_mid 17 2 (L6 c) c.put_digits-3.new.out) (t6 c.args.neg c.args.n c.args.k ++ digits_of 2 (12 - c.args.k + (c.args.k - 12)))
u7 c =
    let k = c.args.k in
    let size = ap (λ (z : ℕ). digits_of (length (mid_of 17 2 (L6 c))) z) c.exponent_size.ensures in
    upto_digits 2 (12 - k + (k - 12)) (lit≤ tt) (c.put_digits-3.ensures ∙ size) (u6 c)

pub returns : goal.returns
unfolding text_of
returns c = upto_all (u7 c)
