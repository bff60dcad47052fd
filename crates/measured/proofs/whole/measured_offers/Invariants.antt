-- The loop over the records of an input: those that were taken are offered and their answers added up (`Offered`), and the others are left (`Cut`).
-- Assumes nothing.
use lib.ListN.{length}
use Rattle.fields.proofs.Cut.{Cut}
use Rattle.measured.proofs.Offered.{SoFar}
use Rattle.measured.proofs.whole.measured_offers.Given as goal

abbrev pub invariant-loop-rec : goal.invariant-loop-rec
invariant-loop-rec l = SoFar l.input l.st l.sum (length l.yielded) × Cut l.input l.yielded l.rec-iterator
