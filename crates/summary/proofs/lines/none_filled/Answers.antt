-- `lines::none_filled` meets its contract. Assumes nothing.
use mathlib.Core.Path.{refl}
use Rattle.summary.specs.Walk.{none_filled}
use Rattle.summary.proofs.lines.none_filled.Goals as goal

pub returns : goal.returns
unfolding none_filled
returns c = refl
