-- `seeing::seen_after` meets its contract: each return rewrites with the test that led there. Assumes nothing.
use Rattle.seen.specs.Seen.{seen_by}
use Rattle.seen.proofs.seeing.seen_after.Goals as goal

pub returns-then-comes_before_verdict : goal.returns-then-comes_before_verdict
unfolding seen_by
returns-then-comes_before_verdict c = rw (← c.comes_before_verdict.ensures, c.if-comes_before_verdict.true) c.nothing.ensures

pub returns : goal.returns
unfolding seen_by
returns c = rw (← c.comes_before_verdict.ensures, c.if-comes_before_verdict.false) c.see.ensures
