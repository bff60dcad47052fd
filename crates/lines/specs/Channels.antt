-- Records on channels that are not card one's (request 10): "the listing speaks for card one, so its channel 24 now prints 15 and then zeros". Of every
-- station, whatever the epoch and the string. The proof stands in `proofs/Channels.antt`.
-- Assumes nothing.
use Rattle.std.specs.Prelude.{ℕ, ◌≤◌, ◌<◌, List, ◌≡◌}
use Rattle.fields.specs.Sixteen.{channel_in, epoch_in}
use Rattle.station.specs.declared.Station.{Station}
use Rattle.lines.specs.declared.Line.{Line}
use Rattle.lines.specs.declared.Listed.{Listed}
use Rattle.lines.specs.Line.{Lists}

-- a number, and then zeros
abbrev pub zeros_after : ℕ → List ℕ → Line
zeros_after number rec = record { channel = channel_in rec; epoch = epoch_in rec; number = number; repaired = 0; m = 0; polarity = 0 }

pub record NotCardOne (st : Station) (rec : List ℕ) (r : Listed) : Type 0 where
  -- card two's channels print 15 OWNER
  pub owner : 24 ≤ channel_in rec → channel_in rec ≤ 47 → r.line ≡ zeros_after 15 rec
  -- and those that there are not 1 CHANNEL
  pub channel : 47 < channel_in rec → r.line ≡ zeros_after 1 rec
  -- neither changes anything
  pub station : 24 ≤ channel_in rec → r.station ≡ st

abbrev pub EveryChannel : Type 0
EveryChannel = (st : Station) (rec : List ℕ) (r : Listed) → Lists st rec r → NotCardOne st rec r
