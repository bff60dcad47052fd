-- `record::record_text` meets its contract: the four lines, one after the other (`Upto`). Assumes nothing.
use mathlib.Core.Path.{ap, ◌∙◌}
use mathlib.Core.List.{List, ◌++◌, append_assoc}
use Prim.Native.Nat.{ℕ}
use lib.Dec.{lit≤}
use lib.IntN.{ℤ}
use mir.Syntax.{w32}
use mir.ValLaws.{to_z-of_z}
use borrow.Rule.Slice.PartMut.{put_mid}
use Rattle.decimals.proofs.Upto.{Upto, upto_none, upto_part, upto_all}
use Rattle.rinex.specs.Record.{head_of, x_line, y_line, z_line, record_text}
use Rattle.rinex.proofs.Columns.{head_long, x_long, y_long, z_long}
use Rattle.rinex.proofs.record.record_text.Goals as goal

abbrev L1 : (c : goal.After-slice_known-5-1) → List ℕ
L1 c = put_mid 0 80 c.args.out.now c.put_head.new.out

abbrev t1 : (c : goal.After-slice_known-5-1) → List ℕ
t1 c = head_of c.args.words c.args.n4

u1 : (c : goal.After-slice_known-5-1) → Upto 320 80 (L1 c) (t1 c)
u1 c = upto_part (lit≤ tt) (head_long c.args.words c.args.n4) (c.put_head.ensures ∙ ap (λ (z : ℤ). head_of c.args.words z) (to_z-of_z w32 c.args.n4 c.ranges.n4)) (upto_none c.args.out.now c.requires.out_len)

abbrev L2 : (c : goal.After-slice_known-5-1) → List ℕ
L2 c = put_mid 80 80 (L1 c) c.put_x.new.out

abbrev t2 : (c : goal.After-slice_known-5-1) → List ℕ
t2 c = t1 c ++ x_line c.args.words

u2 : (c : goal.After-slice_known-5-1) → Upto 320 160 (L2 c) (t2 c)
u2 c = upto_part (lit≤ tt) (x_long c.args.words) c.put_x.ensures (u1 c)

abbrev L3 : (c : goal.After-slice_known-5-1) → List ℕ
L3 c = put_mid 160 80 (L2 c) c.put_y.new.out

abbrev t3 : (c : goal.After-slice_known-5-1) → List ℕ
t3 c = t2 c ++ y_line c.args.words c.args.carrier

u3 : (c : goal.After-slice_known-5-1) → Upto 320 240 (L3 c) (t3 c)
u3 c = upto_part (lit≤ tt) (y_long c.args.words c.args.carrier) (c.put_y.ensures ∙ ap (λ (z : ℤ). y_line c.args.words z) (to_z-of_z w32 c.args.carrier c.ranges.carrier)) (u2 c)

abbrev L4 : (c : goal.After-slice_known-5-1) → List ℕ
L4 c = put_mid 240 80 (L3 c) c.put_z.new.out

abbrev t4 : (c : goal.After-slice_known-5-1) → List ℕ
t4 c = t3 c ++ z_line c.args.words

u4 : (c : goal.After-slice_known-5-1) → Upto 320 320 (L4 c) (t4 c)
u4 c = upto_part (lit≤ tt) (z_long c.args.words) c.put_z.ensures (u3 c)

pub returns : goal.returns
unfolding record_text
returns c = upto_all (u4 c) ∙ simp append_assoc
