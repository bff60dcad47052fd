-- `seeing::seen_by` meets its contract: each return rewrites with the variant that led there. Assumes nothing.
use Rattle.seen.specs.Seen.{seen_by}
use Rattle.seen.proofs.seeing.seen_by.Goals as goal

pub returns-in-Ok : goal.returns-in-Ok
unfolding seen_by
returns-in-Ok c = rw (c.in-Ok.is, c.bit_in.ensures, c.polarity_number.ensures)
