-- `lines::put_first` meets its contract: the epoch, then three numbers (`Upto`). Assumes nothing.
use mathlib.Core.Path.{refl, ◌∙◌}
use mathlib.Core.List.{List, [], ◌∷◌, ◌++◌, append_assoc}
use Prim.Native.Nat.{ℕ}
use lib.Dec.{lit<, lit≤}
use lib.IntN.{neg_ℤ}
use lib.ListN.{set}
use borrow.Rule.Slice.PartMut.{put_mid}
use Rattle.decimals.specs.Decimal.{decimal_of}
use Rattle.decimals.proofs.Upto.{Upto, upto_none, upto_set, upto_part, upto_all}
use Rattle.rinex.specs.Lines.{epoch_text, first_line}
use Rattle.rinex.proofs.Columns.{epoch_long, number, negated}
use Rattle.rinex.proofs.lines.put_first.Goals as goal

abbrev L1 : (c : goal.After-slice_known-5-1) → List ℕ
L1 c = put_mid 0 22 c.args.out.now c.put_epoch.new.out

abbrev t1 : (c : goal.After-slice_known-5-1) → List ℕ
t1 c = epoch_text c.args.n c.args.e

u1 : (c : goal.After-slice_known-5-1) → Upto 80 22 (L1 c) (t1 c)
u1 c = upto_part (lit≤ tt) (epoch_long c.args.n c.args.e) c.put_epoch.ensures (upto_none c.args.out.now c.requires)

abbrev L2 : (c : goal.After-slice_known-5-1) → List ℕ
L2 c = put_mid 22 19 (L1 c) c.put_negated.new.out

abbrev t2 : (c : goal.After-slice_known-5-1) → List ℕ
t2 c = t1 c ++ decimal_of (neg_ℤ c.args.tau) 30

u2 : (c : goal.After-slice_known-5-1) → Upto 80 41 (L2 c) (t2 c)
u2 c = negated c.args.tau 30 c.ranges.tau (lit≤ tt) c.put_negated.ensures (u1 c)

abbrev L3 : (c : goal.After-slice_known-5-1) → List ℕ
L3 c = put_mid 41 19 (L2 c) c.put_decimal.new.out

abbrev t3 : (c : goal.After-slice_known-5-1) → List ℕ
t3 c = t2 c ++ decimal_of c.args.gamma 40

u3 : (c : goal.After-slice_known-5-1) → Upto 80 60 (L3 c) (t3 c)
u3 c = number c.args.gamma 40 c.ranges.gamma (lit≤ tt) c.put_decimal.ensures (u2 c)

abbrev L4 : (c : goal.After-slice_known-5-1) → List ℕ
L4 c = put_mid 60 19 (L3 c) c.put_decimal-2.new.out

abbrev t4 : (c : goal.After-slice_known-5-1) → List ℕ
t4 c = t3 c ++ decimal_of c.args.time 0

u4 : (c : goal.After-slice_known-5-1) → Upto 80 79 (L4 c) (t4 c)
u4 c = number c.args.time 0 c.ranges.time (lit≤ tt) c.put_decimal-2.ensures (u3 c)

abbrev L5 : (c : goal.After-slice_known-5-1) → List ℕ
L5 c = set (L4 c) 79 10

abbrev t5 : (c : goal.After-slice_known-5-1) → List ℕ
t5 c = t4 c ++ (10 ∷ [])

u5 : (c : goal.After-slice_known-5-1) → Upto 80 80 (L5 c) (t5 c)
u5 c = upto_set (lit< tt) refl (u4 c)

pub returns : goal.returns
unfolding first_line
returns c = upto_all (u5 c) ∙ simp append_assoc
