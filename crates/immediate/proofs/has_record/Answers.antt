-- `has_record` meets its contract: by what `are_good` says of its 44 bytes. Assumes nothing.
use Rattle.immediate.specs.Kept.{has_record}
use Rattle.immediate.proofs.has_record.Goals as goal

pub returns : goal.returns
unfolding has_record
returns c = c.are_good.ensures
