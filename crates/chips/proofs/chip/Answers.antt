-- `chips::chip` meets its contract. Assumes nothing.
use Rattle.chips.proofs.Table.{chip_at, digit_up, digit_off}
use Rattle.chips.proofs.chip.Goals as goal

pub overflow_sub-result : goal.overflow_sub-result
overflow_sub-result c = digit_up _ _ (chip_at c.args.i)

pub returns : goal.returns
returns c = digit_off _ _ (chip_at c.args.i)
