-- `writing::put_entries` meets its contract. The invariant: the bytes of the entries passed are written (`Begun`). Assumes nothing.
use borrow.Author.Rules.{rules}
use mathlib.Core.Path.{◌≡◌, ◌∙◌}
use mathlib.Core.List.{List}
use Prim.Native.Nat.{ℕ, ◌+◌, ◌-◌, ◌*◌, ◌<◌}
use native.Mathlib.Omega.{arith}
use native.Mathlib.Numerals.{add-one}
use lib.ListN.{length, get_or, take}
use borrow.Rule.Slice.PartMut.{put_mid, mid_of}
use Rattle.book.specs.declared.Entry.{Entry}
use Rattle.book.specs.Entry.{meaning, blank}
use Rattle.book.specs.Book.{slots}
use Rattle.wire.specs.Bytes.{entry_bytes, entries_bytes}
use Rattle.wire.proofs.Begun.{Begun, begun_none, begun_part, part_long}
use Rattle.wire.proofs.Entries.{entry_long, bytes_more}
use Rattle.wire.proofs.writing.put_entries.Goals as goal

start : (es : List Entry) (out : List ℕ) → length out ≡ 480 → Begun 480 (0 * 20) out (entries_bytes (take 0 es))
unfolding entries_bytes
start es out h = begun_none out h

-- the next twenty, as the code counts them
twenty : (i : ℕ) → i * 20 + 20 - i * 20 ≡ 20
twenty i = omega arith

lent : (out : List ℕ) (i : ℕ) {t : List ℕ} → i < slots → Begun 480 (i * 20) out t → length (mid_of (i * 20) (i * 20 + 20 - i * 20) out) ≡ 20
lent out i h b = part_long _ (omega arith) b ∙ twenty i

more : (es : List Entry) (out last : List ℕ) (i : ℕ) → length es ≡ slots → i < slots → last ≡ entry_bytes (meaning (get_or es i blank))
    → Begun 480 (i * 20) out (entries_bytes (take i es))
    → Begun 480 ((i + 1) * 20) (put_mid (i * 20) (i * 20 + 20 - i * 20) out last) (entries_bytes (take (i + 1) es))
more es out last i l h e b =
    let d : (i + 1) * 20 ≡ i * 20 + 20 = omega arith in
    rw (twenty i, d, add-one i, bytes_more es i (omega (arith, l))) (begun_part (omega arith) (entry_long (meaning (get_or es i blank))) e b)

pub loop-i-init : goal.loop-i-init
loop-i-init c = start c.args.entries _ c.requires

pub loop-i-preserved : goal.loop-i-preserved
loop-i-preserved c =
    let l = c.loop-i in
    let es = c.args.entries in
    more es l.out _ l.i (search rules) (omega arith) c.put_entry.ensures l.invariant
