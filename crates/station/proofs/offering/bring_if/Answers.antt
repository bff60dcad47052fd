-- `offering::bring_if` meets its contract. Assumes nothing.
use mathlib.Core.Path.{ap}
use Rattle.shows.specs.declared.Brought.{Brought}
use Rattle.shows.specs.Shows.{all_brought}
use Rattle.station.proofs.offering.bring_if.Goals as goal

pub returns-then-is_stored : goal.returns-then-is_stored
unfolding all_brought
returns-then-is_stored c = rw (← c.is_stored.ensures, c.if-is_stored.true) (ap (λ (x : Brought). x.book) c.bring.ensures, ap (λ (x : Brought). x.changed) c.bring.ensures)
