-- `writing::put_nine` meets its contract: the bytes grow from left to right (`Begun`). Assumes nothing.
use borrow.Author.Rules.{rules}
use mathlib.Core.Path.{◌∙◌}
use mathlib.Core.List.{List, [], ◌∷◌}
use Prim.Native.Nat.{ℕ}
use lib.Dec.{lit<, lit≤}
use lib.ListN.{set}
use borrow.Rule.Slice.PartMut.{put_mid}
use Rattle.strings.specs.Number.{bytes_of}
use Rattle.wire.proofs.Begun.{Begun, begun_none, begun_set, begun_number, begun_all}
use Rattle.wire.proofs.Entries.{nine_put}
use Rattle.wire.proofs.writing.put_nine.Goals as goal

-- the highest byte, and then the rest
abbrev one : (c : goal.After-slice_known-2-1) → List ℕ
one c = set c.args.out.now 0 c.args.top

one_is : (c : goal.After-slice_known-2-1) → Begun 9 1 (one c) (c.args.top ∷ [])
one_is c = begun_set c.args.top (lit< tt) (begun_none c.args.out.now c.requires)

all_is : (c : goal.After-slice_known-2-1)
    → Begun 9 9 (put_mid 1 8 (one c) c.put_number.new.out) (c.args.top ∷ bytes_of 8 c.args.rest)
all_is c = begun_number 8 c.args.rest (lit≤ tt) c.put_number.ensures (one_is c)

pub returns : goal.returns
returns c =
    let a = c.args in
    begun_all (all_is c) ∙ nine_put a.top a.rest (search rules) (search rules)
