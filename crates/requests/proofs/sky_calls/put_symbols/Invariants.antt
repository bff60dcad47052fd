-- `sky_calls::put_symbols` meets its contract: from turn to turn the place stays within the text. Assumes nothing.
use Rattle.std.proofs.Common.{◌≤◌}
use Rattle.requests.proofs.sky_calls.put_symbols.Given as goal

abbrev pub invariant-loop-eight : goal.invariant-loop-eight
invariant-loop-eight l = l.to ≤ 512
