-- The loop over the records of an input: those that were taken are told (`Telling`), and the others are left (`Cut`).
-- Assumes nothing.
use lib.ListN.{length}
use Rattle.fields.proofs.Cut.{Cut}
use Rattle.navfile.proofs.Telling.{Sofar}
use Rattle.navfile.proofs.capture.write_records.Given as goal

abbrev pub invariant-loop-rec : goal.invariant-loop-rec
invariant-loop-rec l = Sofar l.card l.initial.after l.input l.initial.text l.text l.after l.end (length l.yielded) × Cut l.input l.yielded l.rec-iterator
