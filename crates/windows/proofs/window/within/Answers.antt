-- `window::within` meets its contract: a stretch ends and a field is kept, or a byte is skipped (`Moves`). Assumes nothing.
use native.Mathlib.Omega.{arith}
use mathlib.Core.Path.{◌∙◌, sym}
use Rattle.windows.proofs.Works.{works_then}
use Rattle.windows.proofs.Moves.{goes_on, ends_here}
use Rattle.windows.proofs.window.within.Goals as goal

pub returns-then-goes_on : goal.returns-then-goes_on
returns-then-goes_on c last g =
    let s = c.put_stretch-end.ensures in
    let w = ends_here last g (sym c.goes_on.ensures ∙ c.if-goes_on.true) s.0 (omega (arith, s.1, c.requires.0.room)) in
    let n = c.between.ensures last g in
    record { works = works_then w n.works; further = n.further }

pub returns-else-goes_on : goal.returns-else-goes_on
returns-else-goes_on c last g =
    goes_on last g (omega (arith, c.requires.0.room)) c.requires.1 (sym c.goes_on.ensures ∙ c.if-goes_on.false)
