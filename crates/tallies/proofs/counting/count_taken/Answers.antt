-- `counting::count_taken` meets its contract. Assumes nothing.
use Rattle.tallies.specs.Tallies.{causes_after}
use Rattle.tallies.proofs.counting.count_taken.Goals as goal

pub returns-in-Clean : goal.returns-in-Clean
unfolding causes_after
returns-in-Clean c = rw (c.in-Clean.is, c.one_more-offered.ensures, c.one_more.ensures)

pub returns-in-Repaired : goal.returns-in-Repaired
unfolding causes_after
returns-in-Repaired c = rw (c.in-Repaired.is, c.one_more-offered.ensures, c.one_more-in-Repaired.ensures)
