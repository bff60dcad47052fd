-- `rows::holds_frame` meets its contract. Assumes nothing.
use mathlib.Core.Path.{refl}
use Rattle.channel.specs.Row.{holds_frame}
use Rattle.channel.proofs.rows.holds_frame.Goals as goal

pub returns : goal.returns
unfolding holds_frame
returns c = refl
