-- `stream::salvage_input` is safe and ends: each turn but the last passes a byte. Assumes nothing.
use Prim.Native.Nat.{◌-◌, ◌^◌, ◌≤◌}
use Rattle.windows.specs.Window.{Began}
use Rattle.windows.proofs.stream.salvage_input.Given as goal

abbrev pub invariant-loop-held : goal.invariant-loop-held
invariant-loop-held g l = (l.held.count ≤ 262144) × Began l.held.stands l.held.first

abbrev pub decreases-loop-held : goal.decreases-loop-held
decreases-loop-held g l = 2 ^ 63 - l.held.first
