-- `completing::news_at` meets its contract: the news said of the mask and of the first four strings. Assumes nothing.
use Prim.Native.Nat.{◌%◌}
use borrow.Author.Tests.{le-leb, ne_eqb}
use Rattle.channel.proofs.Four.{news_is, four_news}
use Rattle.channel.proofs.completing.news_at.Goals as goal

pub returns-then-mask-ne15 : goal.returns-then-mask-ne15
returns-then-mask-ne15 c =
    let a = c.args in
    rw (news_is 0 a.mask a.all.now a.m, le-leb a.m 4 c.if-m-gt4.false, ne_eqb (a.mask % 16) 15 c.if-mask-ne15.true)

pub returns-then-are_good : goal.returns-then-are_good
returns-then-are_good c =
    let a = c.args in
    rw (four_news a.mask a.all.now a.m c.if-m-gt4.false c.if-mask-ne15.false, ← c.are_good.ensures, c.if-are_good.true)

pub returns-else-are_good : goal.returns-else-are_good
returns-else-are_good c =
    let a = c.args in
    rw (four_news a.mask a.all.now a.m c.if-m-gt4.false c.if-mask-ne15.false, ← c.are_good.ensures, c.if-are_good.false)
