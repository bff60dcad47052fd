-- `counting::count_cause` meets its contract: line by line. Assumes nothing.
use Rattle.tallies.specs.Tallies.{causes_after}
use Rattle.tallies.proofs.counting.count_cause.Goals as goal

pub returns : goal.returns
unfolding causes_after
returns c =
    rw (
      c.one_more_if.ensures,
      c.one_more_if-2.ensures,
      c.one_more_if-3.ensures,
      c.one_more_if-4.ensures,
      c.one_more_if-5.ensures,
      c.one_more_if-6.ensures,
      c.one_more_if-7.ensures,
      c.one_more_if-8.ensures,
      c.one_more_if-9.ensures,
      c.one_more_if-10.ensures,
    )
