-- `showing::has_slot` meets its contract. Assumes nothing.
use borrow.Author.Tests.{lt-leb, le-leb}
use Prim.Native.Nat.{◌<◌, ◌≤◌}
use native.Mathlib.Omega.{arith}
use lib.Dec.{lit≤}
use Rattle.strings.specs.Number.{number_of, word_of}
use Rattle.records.specs.declared.kinds.Kind.TheVariants.{Even}
use Rattle.words.proofs.Good.{good_is}
use Rattle.book.proofs.showing.has_slot.Goals as goal

pub returns-then-na-eq0 : goal.returns-then-na-eq0
returns-then-na-eq0 c =
    let n = number_of c.args.even.now in
    let z : word_of n 77 73 < 1 = omega (arith, c.word_in-na.ensures, c.if-na-eq0.true) in
    rw (good_is Even n (lit≤ tt), lt-leb 1 (word_of n 77 73) z)

pub returns : goal.returns
returns c =
    let n = number_of c.args.even.now in
    let z : 1 ≤ word_of n 77 73 = omega (arith, c.word_in-na.ensures, c.if-na-eq0.false) in
    rw (good_is Even n (lit≤ tt), le-leb 1 (word_of n 77 73) z, c.word_in-na.ensures)
