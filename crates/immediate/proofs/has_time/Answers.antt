-- `has_time` meets its contract: the hour and the minute in tk are the words 76..72 and 71..66. Assumes nothing.
use Prim.Native.Nat.{◌/◌}
use borrow.Author.Tests.{lt-ltb, le-ltb}
use lib.Dec.{lit≤}
use Rattle.strings.specs.Number.{number_of}
use Rattle.records.specs.declared.kinds.Kind.TheVariants.{One}
use Rattle.words.proofs.Good.{good_is}
use Rattle.words.proofs.Ranges.{hour, minute}
use Rattle.immediate.proofs.has_time.Goals as goal

pub returns-then-tk-lt24 : goal.returns-then-tk-lt24
returns-then-tk-lt24 c =
    let n = number_of c.args.one.now in
    rw (good_is One n (lit≤ tt), ← hour n, ← minute n, ← c.word_in-tk.ensures, lt-ltb (c.word_in-tk.result / 128) 24 c.if-tk-lt24.true)

pub returns-else-tk-lt24 : goal.returns-else-tk-lt24
returns-else-tk-lt24 c =
    let n = number_of c.args.one.now in
    rw (good_is One n (lit≤ tt), ← hour n, ← c.word_in-tk.ensures, le-ltb (c.word_in-tk.result / 128) 24 c.if-tk-lt24.false)
