-- `reading::book_from` meets its contract. The invariant: the entries passed are read (`Begun`). Assumes nothing.
use Rattle.book.specs.Book.{slots}
use Rattle.wire.specs.Bytes.{entries_from}
use Rattle.wire.proofs.Begun.{Begun}
use Rattle.wire.proofs.reading.book_from.Given as goal

abbrev pub invariant-loop-i : goal.invariant-loop-i
invariant-loop-i l = Begun slots l.i l.e-items (entries_from l.i l.bytes)
