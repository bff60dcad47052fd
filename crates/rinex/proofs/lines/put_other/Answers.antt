-- `lines::put_other` meets its contract: three blanks, then four numbers (`Upto`). Assumes nothing.
use mathlib.Core.Path.{refl, ◌∙◌}
use mathlib.Core.List.{List, [], ◌∷◌, ◌++◌, append_assoc}
use Prim.Native.Nat.{ℕ}
use lib.Dec.{lit<, lit≤}
use lib.ListN.{set}
use borrow.Rule.Slice.PartMut.{put_mid}
use Rattle.decimals.specs.Decimal.{decimal_of}
use Rattle.decimals.proofs.Upto.{Upto, upto_none, upto_set, upto_all}
use Rattle.rinex.specs.Lines.{other_line}
use Rattle.rinex.proofs.Columns.{number}
use Rattle.rinex.proofs.lines.put_other.Goals as goal

abbrev L1 : (c : goal.After-slice_known-5-1) → List ℕ
L1 c = set c.args.out.now 0 32

abbrev t1 : (c : goal.After-slice_known-5-1) → List ℕ
t1 c = 32 ∷ []

u1 : (c : goal.After-slice_known-5-1) → Upto 80 1 (L1 c) (t1 c)
u1 c = upto_set (lit< tt) refl (upto_none c.args.out.now c.requires)

abbrev L2 : (c : goal.After-slice_known-5-1) → List ℕ
L2 c = set (L1 c) 1 32

abbrev t2 : (c : goal.After-slice_known-5-1) → List ℕ
t2 c = t1 c ++ (32 ∷ [])

u2 : (c : goal.After-slice_known-5-1) → Upto 80 2 (L2 c) (t2 c)
u2 c = upto_set (lit< tt) refl (u1 c)

abbrev L3 : (c : goal.After-slice_known-5-1) → List ℕ
L3 c = set (L2 c) 2 32

abbrev t3 : (c : goal.After-slice_known-5-1) → List ℕ
t3 c = t2 c ++ (32 ∷ [])

u3 : (c : goal.After-slice_known-5-1) → Upto 80 3 (L3 c) (t3 c)
u3 c = upto_set (lit< tt) refl (u2 c)

abbrev L4 : (c : goal.After-slice_known-5-1) → List ℕ
L4 c = put_mid 3 19 (L3 c) c.put_decimal.new.out

abbrev t4 : (c : goal.After-slice_known-5-1) → List ℕ
t4 c = t3 c ++ decimal_of c.args.place 11

u4 : (c : goal.After-slice_known-5-1) → Upto 80 22 (L4 c) (t4 c)
u4 c = number c.args.place 11 c.ranges.place (lit≤ tt) c.put_decimal.ensures (u3 c)

abbrev L5 : (c : goal.After-slice_known-5-1) → List ℕ
L5 c = put_mid 22 19 (L4 c) c.put_decimal-2.new.out

abbrev t5 : (c : goal.After-slice_known-5-1) → List ℕ
t5 c = t4 c ++ decimal_of c.args.velocity 20

u5 : (c : goal.After-slice_known-5-1) → Upto 80 41 (L5 c) (t5 c)
u5 c = number c.args.velocity 20 c.ranges.velocity (lit≤ tt) c.put_decimal-2.ensures (u4 c)

abbrev L6 : (c : goal.After-slice_known-5-1) → List ℕ
L6 c = put_mid 41 19 (L5 c) c.put_decimal-3.new.out

abbrev t6 : (c : goal.After-slice_known-5-1) → List ℕ
t6 c = t5 c ++ decimal_of c.args.acceleration 30

u6 : (c : goal.After-slice_known-5-1) → Upto 80 60 (L6 c) (t6 c)
u6 c = number c.args.acceleration 30 c.ranges.acceleration (lit≤ tt) c.put_decimal-3.ensures (u5 c)

abbrev L7 : (c : goal.After-slice_known-5-1) → List ℕ
L7 c = put_mid 60 19 (L6 c) c.put_decimal-4.new.out

abbrev t7 : (c : goal.After-slice_known-5-1) → List ℕ
t7 c = t6 c ++ decimal_of c.args.last 0

u7 : (c : goal.After-slice_known-5-1) → Upto 80 79 (L7 c) (t7 c)
u7 c = number c.args.last 0 c.ranges.last (lit≤ tt) c.put_decimal-4.ensures (u6 c)

abbrev L8 : (c : goal.After-slice_known-5-1) → List ℕ
L8 c = set (L7 c) 79 10

abbrev t8 : (c : goal.After-slice_known-5-1) → List ℕ
t8 c = t7 c ++ (10 ∷ [])

u8 : (c : goal.After-slice_known-5-1) → Upto 80 80 (L8 c) (t8 c)
u8 c = upto_set (lit< tt) refl (u7 c)

pub returns : goal.returns
unfolding other_line
returns c = upto_all (u8 c) ∙ simp append_assoc
