-- `station_answers::put_counts` meets its contract: from turn to turn the place stays within the text. Assumes nothing.
use Rattle.std.proofs.Common.{◌≤◌}
use Rattle.requests.proofs.station_answers.put_counts.Given as goal

abbrev pub invariant-loop-count : goal.invariant-loop-count
invariant-loop-count l = l.to ≤ 512
