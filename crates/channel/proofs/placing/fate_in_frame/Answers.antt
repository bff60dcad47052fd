-- `placing::fate_in_frame` meets its contract: the string is new in the held frame, held already, or in conflict. Assumes nothing.
use Prim.Native.Nat.{◌≤◌}
use native.Mathlib.Omega.{arith}
use borrow.Author.Rules.{rules}
use Rattle.strings.specs.Number.{number_of}
use Rattle.channel.proofs.Frames.{number_small}
use Rattle.channel.proofs.placing.fate_in_frame.Goals as goal

-- the string's number is one of a frame's
small : (c : goal.After-shared_slice_known-2-1) → c.args.m ≤ 15
small c = omega (arith, c.requires.1.1, number_small (number_of c.args.s.now))

-- the string's number is one of a frame's
small-2 : (c : goal.Else-not-has_string) → c.args.m ≤ 15
small-2 c = omega (arith, c.requires.1.1, number_small (number_of c.args.s.now))

pub has_string-requires : goal.has_string-requires
has_string-requires c = (c.requires.1.0, small c)

pub slice_bounds-same_data-end : goal.slice_bounds-same_data-end
slice_bounds-same_data-end c =
    let f = small-2 c in
    let l = c.requires.0.0 in
    search rules
