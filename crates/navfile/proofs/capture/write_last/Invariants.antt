-- `capture::write_last` meets its contract: the first channels are asked (`Telling`). The measure is the number of channels that are left. Assumes nothing.
use Prim.Native.Nat.{◌-◌, ◌≤◌}
use Rattle.navfile.proofs.Telling.{Uptill}
use Rattle.navfile.proofs.capture.write_last.Given as goal

abbrev pub invariant-loop-channel : goal.invariant-loop-channel
invariant-loop-channel l = Uptill l.card l.initial.after l.initial.text l.text l.after l.end l.channel × (l.channel ≤ 48)

abbrev pub decreases-loop-channel : goal.decreases-loop-channel
decreases-loop-channel l = 48 - l.channel
