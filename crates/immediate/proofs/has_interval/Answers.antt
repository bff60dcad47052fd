-- `has_interval` meets its contract. Assumes nothing.
use Prim.Native.Nat.{◌<◌, ◌≤◌}
use native.Mathlib.Omega.{arith}
use borrow.Author.Tests.{lt-leb, le-leb}
use lib.Dec.{lit≤}
use Rattle.strings.specs.Number.{number_of, word_of}
use Rattle.records.specs.declared.kinds.Kind.TheVariants.{Two}
use Rattle.words.proofs.Good.{good_is}
use Rattle.immediate.proofs.has_interval.Goals as goal

pub returns-then-tb-eq0 : goal.returns-then-tb-eq0
returns-then-tb-eq0 c =
    let n = number_of c.args.two.now in
    let z : word_of n 76 70 < 1 = omega (arith, c.word_in-tb.ensures, c.if-tb-eq0.true) in
    rw (good_is Two n (lit≤ tt), lt-leb 1 (word_of n 76 70) z)

pub returns : goal.returns
returns c =
    let n = number_of c.args.two.now in
    let z : 1 ≤ word_of n 76 70 = omega (arith, c.word_in-tb.ensures, c.if-tb-eq0.false) in
    rw (good_is Two n (lit≤ tt), le-leb 1 (word_of n 76 70) z, c.word_in-tb.ensures)
