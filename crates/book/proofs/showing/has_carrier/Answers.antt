-- `showing::has_carrier` meets its contract. Assumes nothing.
use borrow.Author.Tests.{lt-leb, le-leb}
use Prim.Native.Nat.{◌<◌, ◌≤◌}
use native.Mathlib.Omega.{arith}
use lib.Dec.{lit≤}
use Rattle.strings.specs.Number.{number_of, word_of}
use Rattle.records.specs.declared.kinds.Kind.TheVariants.{Odd}
use Rattle.words.proofs.Good.{good_is}
use Rattle.book.proofs.showing.has_carrier.Goals as goal

pub returns-then-h-le13 : goal.returns-then-h-le13
returns-then-h-le13 c =
    let n = number_of c.args.odd.now in
    let z : word_of n 14 10 ≤ 13 = omega (arith, c.word_in-h.ensures, c.if-h-le13.true) in
    rw (good_is Odd n (lit≤ tt), le-leb (word_of n 14 10) 13 z)

pub returns : goal.returns
returns c =
    let n = number_of c.args.odd.now in
    let z : 13 < word_of n 14 10 = omega (arith, c.word_in-h.ensures, c.if-h-le13.false) in
    rw (good_is Odd n (lit≤ tt), lt-leb (word_of n 14 10) 13 z, c.word_in-h.ensures)
