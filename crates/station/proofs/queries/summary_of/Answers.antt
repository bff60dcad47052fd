-- `queries::summary_of` meets its contract. Assumes nothing.
use mathlib.Core.Path.{◌∙◌, sym}
use Rattle.station.specs.Queries.{FindsSummary}
use Rattle.station.proofs.queries.summary_of.Goals as goal

pub returns-then-is_card : goal.returns-then-is_card
unfolding FindsSummary
returns-then-is_card c = rw (sym c.is_card.ensures ∙ c.if-is_card.true)

pub returns-else-is_card : goal.returns-else-is_card
unfolding FindsSummary
returns-else-is_card c = rw (sym c.is_card.ensures ∙ c.if-is_card.false)
