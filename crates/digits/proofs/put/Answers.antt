-- `put` meets its contract (`Pieces`). Assumes nothing.
use Rattle.digits.proofs.Pieces.{puts_copy}
use Rattle.digits.proofs.put.Goals as goal

pub returns : goal.returns
returns c = puts_copy c.args.text.now c.args.at c.args.s.now c.copy_from_slice.new.self c.requires c.copy_from_slice.ensures.after
