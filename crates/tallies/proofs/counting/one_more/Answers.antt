-- `counting::one_more` meets its contract. Assumes nothing.
use native.Mathlib.Omega.{arith}
use Rattle.tallies.specs.Tallies.{one_more}
use Rattle.tallies.proofs.counting.one_more.Goals as goal

pub returns-then-tally-lt-LIMIT : goal.returns-then-tally-lt-LIMIT
unfolding one_more
returns-then-tally-lt-LIMIT c = omega arith

pub returns-else-tally-lt-LIMIT : goal.returns-else-tally-lt-LIMIT
unfolding one_more
returns-else-tally-lt-LIMIT c = omega arith
