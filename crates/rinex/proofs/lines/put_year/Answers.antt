-- `lines::put_year` meets its contract: a blank, then the two digits. Assumes nothing.
use mathlib.Core.Path.{refl}
use mathlib.Core.List.{List, [], ◌∷◌, ◌++◌}
use Prim.Native.Nat.{ℕ}
use lib.Dec.{lit<, lit≤}
use lib.ListN.{set}
use borrow.Rule.Slice.PartMut.{put_mid}
use Rattle.decimals.specs.Decimal.{digits_of}
use Rattle.decimals.proofs.Upto.{Upto, upto_none, upto_set, upto_digits, upto_all}
use Rattle.rinex.proofs.lines.put_year.Goals as goal

abbrev L1 : (c : goal.After-slice_known-2-1) → List ℕ
L1 c = set c.args.out.now 0 32

abbrev t1 : (c : goal.After-slice_known-2-1) → List ℕ
t1 c = 32 ∷ []

u1 : (c : goal.After-slice_known-2-1) → Upto 3 1 (L1 c) (t1 c)
u1 c = upto_set (lit< tt) refl (upto_none c.args.out.now c.requires)

abbrev L2 : (c : goal.After-slice_known-2-1) → List ℕ
L2 c = put_mid 1 2 (L1 c) c.put_digits.new.out

abbrev t2 : (c : goal.After-slice_known-2-1) → List ℕ
t2 c = t1 c ++ digits_of 2 c.args.year

u2 : (c : goal.After-slice_known-2-1) → Upto 3 3 (L2 c) (t2 c)
u2 c = upto_digits 2 c.args.year (lit≤ tt) c.put_digits.ensures (u1 c)

pub returns : goal.returns
returns c = upto_all (u2 c)
