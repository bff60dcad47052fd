-- `capture::write_last` meets its contract: the first channels are asked (`Telling`). The measure is the number of channels that are left. Assumes nothing.
use native.Mathlib.Omega.{arith}
use Rattle.navfile.proofs.Telling.{no_channel, channel_more, all_asked}
use Rattle.navfile.proofs.capture.write_last.Goals as goal

pub loop-channel-init : goal.loop-channel-init
loop-channel-init c = (no_channel, omega arith)

pub loop-channel-preserved : goal.loop-channel-preserved
loop-channel-preserved c =
    (channel_more _ c.loop-channel.invariant.0 c.ask-told.ensures, omega (arith, c.loop-channel-test.true))

pub returns : goal.returns
returns c =
    let l = c.loop-channel in
    all_asked l.invariant.0 (omega (arith, l.invariant.1, c.loop-channel-test.false)) c.requires
