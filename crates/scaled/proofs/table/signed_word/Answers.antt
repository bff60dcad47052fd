-- `table::signed_word` meets its contract: its table is that of the definition. Assumes nothing.
use Rattle.scaled.specs.Units.{units}
use Rattle.scaled.proofs.Listed.{listed_at}
use Rattle.scaled.proofs.table.signed_word.Goals as goal

pub returns : goal.returns
unfolding units
returns c = listed_at c.args.number c.requires.0 c.requires.1
