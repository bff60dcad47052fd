-- `rows::empty_row` meets its contract. Assumes nothing.
use Rattle.channel.specs.Row.{empty_row}
use Rattle.channel.proofs.rows.empty_row.Goals as goal

pub returns : goal.returns
unfolding empty_row
returns c = rw c.none_counted.ensures
