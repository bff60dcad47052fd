-- `reading::book_from` meets its contract. The invariant: the entries passed are read (`Begun`). Assumes nothing.
use mathlib.Core.Path.{◌≡◌, ap, ◌∙◌}
use mathlib.Core.List.{List}
use Prim.Native.Nat.{ℕ, ◌+◌, ◌*◌, ◌<◌}
use native.Mathlib.Omega.{arith}
use native.Mathlib.Numerals.{add-one}
use lib.ListN.{length, set, take, drop}
use Rattle.book.specs.declared.Entry.{Entry}
use Rattle.book.specs.declared.Book.{Book}
use Rattle.book.specs.Book.{slots, empty_book}
use Rattle.book.proofs.Joins.{empty_full}
use Rattle.wire.specs.Bytes.{entry_from, entries_from}
use Rattle.wire.proofs.Begun.{Begun, begun_none, begun_set}
use Rattle.wire.proofs.Entries.{entries_more}
use Rattle.wire.proofs.reading.book_from.Goals as goal

start : (s : List ℕ) (b : Book) → b ≡ empty_book → Begun slots 0 b.entries (entries_from 0 s)
unfolding entries_from
start s b e = begun_none b.entries (ap (λ (b : Book). length b.entries) e ∙ empty_full)

more : (s : List ℕ) (es : List Entry) (e : Entry) (i : ℕ) → i < slots → e ≡ entry_from (take 20 (drop (i * 20) s))
    → Begun slots i es (entries_from i s) → Begun slots (i + 1) (set es i e) (entries_from (i + 1) s)
more s es e i h q b = rw (add-one i, entries_more i s, ← q) (begun_set e h b)

pub loop-i-init : goal.loop-i-init
loop-i-init c = start _ _ c.empty_book-b.ensures

pub loop-i-preserved : goal.loop-i-preserved
loop-i-preserved c = more c.args.bytes _ c.entry_at.result c.loop-i.i (omega (arith, c.loop-i.invariant.long)) c.entry_at.ensures c.loop-i.invariant
