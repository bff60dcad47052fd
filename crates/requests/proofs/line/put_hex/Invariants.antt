-- `line::put_hex` meets its contract: from turn to turn the place stays within the text. Assumes nothing.
use Rattle.std.proofs.Common.{◌≤◌}
use Rattle.requests.proofs.line.put_hex.Given as goal

abbrev pub invariant-loop-byte : goal.invariant-loop-byte
invariant-loop-byte l = l.to ≤ 512
