-- `lines::put_epoch` meets its contract: it grows from left to right, field by field (`Upto`). Assumes nothing.
use mathlib.Core.Path.{refl, ◌∙◌}
use mathlib.Core.List.{List, [], ◌∷◌, ◌++◌}
use Prim.Native.Nat.{ℕ}
use lib.Dec.{lit<, lit≤}
use lib.ListN.{set}
use borrow.Rule.Slice.PartMut.{put_mid}
use Rattle.decimals.proofs.Upto.{Upto, upto_none, upto_set, upto_part, upto_all}
use Rattle.rinex.specs.Lines.{two_of, year_of, field_of, epoch_text}
use Rattle.rinex.proofs.Columns.{two_long, field_long, joined}
use Rattle.rinex.proofs.lines.put_epoch.Goals as goal

abbrev L1 : (c : goal.After-slice_known-7-1) → List ℕ
L1 c = put_mid 0 2 c.args.out.now c.put_two.new.out

abbrev t1 : (c : goal.After-slice_known-7-1) → List ℕ
t1 c = two_of c.args.n

u1 : (c : goal.After-slice_known-7-1) → Upto 22 2 (L1 c) (t1 c)
u1 c = upto_part (lit≤ tt) (two_long c.args.n) c.put_two.ensures (upto_none c.args.out.now c.requires)

abbrev L2 : (c : goal.After-slice_known-7-1) → List ℕ
L2 c = put_mid 2 3 (L1 c) c.put_year.new.out

abbrev t2 : (c : goal.After-slice_known-7-1) → List ℕ
t2 c = t1 c ++ year_of c.args.e.year

u2 : (c : goal.After-slice_known-7-1) → Upto 22 5 (L2 c) (t2 c)
u2 c = upto_part (lit≤ tt) refl c.put_year.ensures (u1 c)

abbrev L3 : (c : goal.After-slice_known-7-1) → List ℕ
L3 c = put_mid 5 3 (L2 c) c.put_field.new.out

abbrev t3 : (c : goal.After-slice_known-7-1) → List ℕ
t3 c = t2 c ++ field_of c.args.e.month

u3 : (c : goal.After-slice_known-7-1) → Upto 22 8 (L3 c) (t3 c)
u3 c = upto_part (lit≤ tt) (field_long c.args.e.month) c.put_field.ensures (u2 c)

abbrev L4 : (c : goal.After-slice_known-7-1) → List ℕ
L4 c = put_mid 8 3 (L3 c) c.put_field-2.new.out

abbrev t4 : (c : goal.After-slice_known-7-1) → List ℕ
t4 c = t3 c ++ field_of c.args.e.day

u4 : (c : goal.After-slice_known-7-1) → Upto 22 11 (L4 c) (t4 c)
u4 c = upto_part (lit≤ tt) (field_long c.args.e.day) c.put_field-2.ensures (u3 c)

abbrev L5 : (c : goal.After-slice_known-7-1) → List ℕ
L5 c = put_mid 11 3 (L4 c) c.put_field-3.new.out

abbrev t5 : (c : goal.After-slice_known-7-1) → List ℕ
t5 c = t4 c ++ field_of c.args.e.hour

u5 : (c : goal.After-slice_known-7-1) → Upto 22 14 (L5 c) (t5 c)
u5 c = upto_part (lit≤ tt) (field_long c.args.e.hour) c.put_field-3.ensures (u4 c)

abbrev L6 : (c : goal.After-slice_known-7-1) → List ℕ
L6 c = put_mid 14 3 (L5 c) c.put_field-4.new.out

abbrev t6 : (c : goal.After-slice_known-7-1) → List ℕ
t6 c = t5 c ++ field_of c.args.e.minute

u6 : (c : goal.After-slice_known-7-1) → Upto 22 17 (L6 c) (t6 c)
u6 c = upto_part (lit≤ tt) (field_long c.args.e.minute) c.put_field-4.ensures (u5 c)

abbrev L7 : (c : goal.After-slice_known-7-1) → List ℕ
L7 c = set (L6 c) 17 32

abbrev t7 : (c : goal.After-slice_known-7-1) → List ℕ
t7 c = t6 c ++ (32 ∷ [])

u7 : (c : goal.After-slice_known-7-1) → Upto 22 18 (L7 c) (t7 c)
u7 c = upto_set (lit< tt) refl (u6 c)

abbrev L8 : (c : goal.After-slice_known-7-1) → List ℕ
L8 c = set (L7 c) 18 32

abbrev t8 : (c : goal.After-slice_known-7-1) → List ℕ
t8 c = t7 c ++ (32 ∷ [])

u8 : (c : goal.After-slice_known-7-1) → Upto 22 19 (L8 c) (t8 c)
u8 c = upto_set (lit< tt) refl (u7 c)

abbrev L9 : (c : goal.After-slice_known-7-1) → List ℕ
L9 c = set (L8 c) 19 48

abbrev t9 : (c : goal.After-slice_known-7-1) → List ℕ
t9 c = t8 c ++ (48 ∷ [])

u9 : (c : goal.After-slice_known-7-1) → Upto 22 20 (L9 c) (t9 c)
u9 c = upto_set (lit< tt) refl (u8 c)

abbrev L10 : (c : goal.After-slice_known-7-1) → List ℕ
L10 c = set (L9 c) 20 46

abbrev t10 : (c : goal.After-slice_known-7-1) → List ℕ
t10 c = t9 c ++ (46 ∷ [])

u10 : (c : goal.After-slice_known-7-1) → Upto 22 21 (L10 c) (t10 c)
u10 c = upto_set (lit< tt) refl (u9 c)

abbrev L11 : (c : goal.After-slice_known-7-1) → List ℕ
L11 c = set (L10 c) 21 48

abbrev t11 : (c : goal.After-slice_known-7-1) → List ℕ
t11 c = t10 c ++ (48 ∷ [])

u11 : (c : goal.After-slice_known-7-1) → Upto 22 22 (L11 c) (t11 c)
u11 c = upto_set (lit< tt) refl (u10 c)

pub returns : goal.returns
unfolding epoch_text
returns c = upto_all (u11 c) ∙ joined (two_of c.args.n) (year_of c.args.e.year) (field_of c.args.e.month) (field_of c.args.e.day) (field_of c.args.e.hour) (field_of c.args.e.minute)
