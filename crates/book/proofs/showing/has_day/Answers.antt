-- `showing::has_day` meets its contract. Assumes nothing.
use borrow.Author.Tests.{lt-leb, le-leb}
use Prim.Native.Nat.{◌<◌, ◌≤◌}
use native.Mathlib.Omega.{arith}
use lib.Dec.{lit≤}
use Rattle.strings.specs.Number.{number_of, word_of}
use Rattle.records.specs.declared.kinds.Kind.TheVariants.{Five}
use Rattle.words.proofs.Good.{good_is}
use Rattle.book.proofs.showing.has_day.Goals as goal

pub returns-then-na-eq0 : goal.returns-then-na-eq0
returns-then-na-eq0 c =
    let n = number_of c.args.five.now in
    let z : word_of n 80 70 < 1 = omega (arith, c.word_in-na.ensures, c.if-na-eq0.true) in
    rw (good_is Five n (lit≤ tt), lt-leb 1 (word_of n 80 70) z)

pub returns-then-na-gt1461 : goal.returns-then-na-gt1461
returns-then-na-gt1461 c =
    let n = number_of c.args.five.now in
    let l : 1 ≤ word_of n 80 70 = omega (arith, c.word_in-na.ensures, c.if-na-eq0.false) in
    let u : 1461 < word_of n 80 70 = omega (arith, c.word_in-na.ensures, c.if-na-gt1461.true) in
    rw (good_is Five n (lit≤ tt), le-leb 1 (word_of n 80 70) l, lt-leb (word_of n 80 70) 1461 u)

pub returns : goal.returns
returns c =
    let n = number_of c.args.five.now in
    let l : 1 ≤ word_of n 80 70 = omega (arith, c.word_in-na.ensures, c.if-na-eq0.false) in
    let u : word_of n 80 70 ≤ 1461 = omega (arith, c.word_in-na.ensures, c.if-na-gt1461.false) in
    rw (good_is Five n (lit≤ tt), le-leb 1 (word_of n 80 70) l, le-leb (word_of n 80 70) 1461 u, c.word_in.ensures)
