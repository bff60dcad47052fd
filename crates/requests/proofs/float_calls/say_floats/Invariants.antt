-- `float_calls::say_floats` meets its contract: from turn to turn the place stays within the text. Assumes nothing.
use Rattle.std.proofs.Common.{◌≤◌}
use Rattle.requests.proofs.float_calls.say_floats.Given as goal

abbrev pub invariant-loop-number : goal.invariant-loop-number
invariant-loop-number l = l.to ≤ 512
