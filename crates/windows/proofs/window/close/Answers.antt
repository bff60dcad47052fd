-- `window::close` meets its contract (`Turning`). Assumes nothing.
use native.Mathlib.Omega.{arith}
use Rattle.windows.proofs.Turning.{closed_already, not_there, no_room_lem, closes}
use Rattle.windows.proofs.window.close.Goals as goal

pub returns-in_default : goal.returns-in_default
returns-in_default c =
    closed_already c.args.turn c.requires.1.0 c.requires.1.1.0 c.requires.1.1.1 c.in_default.is

pub returns-then-turn-window : goal.returns-then-turn-window
returns-then-turn-window c =
    not_there c.args.turn c.requires.1.0 c.requires.1.1.0 c.requires.1.1.1 c.if-turn-window.true

pub returns-then-out-turn-lt-SPARE : goal.returns-then-out-turn-lt-SPARE
returns-then-out-turn-lt-SPARE c =
    no_room_lem c.args.turn c.requires.1.0 c.requires.1.1.0 c.requires.1.1.1 (omega (arith, c.if-out-turn-lt-SPARE.true))

pub returns : goal.returns
returns c =
    closes c.args.turn c.requires.1.0 c.in-Since.is c.if-turn-window.false c.put_stretch-end.ensures.0
    (omega (arith, c.put_stretch-end.ensures.1, c.if-out-turn-lt-SPARE.false))
