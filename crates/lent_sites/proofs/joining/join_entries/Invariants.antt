-- The loop over the slots: those before i are joined, the others as they were.
use Rattle.book.specs.Book.{slots}
use Rattle.wire.specs.Bytes.{entries_from}
use Rattle.lent_sites.proofs.Loops.{Partly}
use Rattle.lent_sites.proofs.joining.join_entries.Given as goal

abbrev pub invariant-loop-i : goal.invariant-loop-i
invariant-loop-i l = Partly l.fn.st.book.entries (entries_from slots l.book) l.i l.entries
