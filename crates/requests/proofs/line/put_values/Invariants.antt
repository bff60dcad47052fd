-- `line::put_values` meets its contract: from turn to turn the place stays within the text. Assumes nothing.
use Rattle.std.proofs.Common.{◌≤◌}
use Rattle.requests.proofs.line.put_values.Given as goal

abbrev pub invariant-loop-value : goal.invariant-loop-value
invariant-loop-value l = l.to ≤ 512
