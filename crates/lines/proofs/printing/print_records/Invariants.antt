-- The loop over the records of an input: those that were taken are printed (`Block`), and the others are left (`Cut`).
-- Assumes nothing.
use lib.ListN.{length}
use Rattle.fields.proofs.Cut.{Cut}
use Rattle.lines.proofs.Block.{SoFar}
use Rattle.lines.proofs.printing.print_records.Given as goal

abbrev pub invariant-loop-rec : goal.invariant-loop-rec
invariant-loop-rec l = SoFar l.initial.after l.input l.initial.text l.text l.after l.end (length l.yielded) × Cut l.input l.yielded l.rec-iterator
