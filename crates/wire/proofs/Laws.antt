-- The laws of `specs/Laws.antt`. Assumes nothing.
use mathlib.Core.Path.{◌≡◌, refl, sym, ap, ◌∙◌, subst}
use mathlib.Core.Bool.{Bool, true, false}
use mathlib.Core.List.{List, ◌∷◌, ◌++◌}
use Prim.Native.Nat.{ℕ, suc, ◌-◌, ◌*◌, ◌≤◌, ◌<◌}
use native.Mathlib.Omega.{arith}
use borrow.Author.Tests.{ltb-true, ltb-false}
use lib.Dec.{ltb}
use lib.ListN.{length, get_or, take, drop, get_or-eq_default}
use lib.Seq.{take_at, drop_at, split_at, length-take-le}
use Rattle.book.specs.declared.Entry.{Entry}
use Rattle.book.specs.declared.Book.{Book}
use Rattle.book.specs.Entry.{meaning, blank, Fits}
use Rattle.book.specs.Book.{slots, in_slot, IsBook}
use Rattle.book.proofs.Order.{blank_fits}
use Rattle.book.proofs.Joins.{Full}
use Rattle.wire.specs.Bytes.{entry_bytes, entries_bytes, book_bytes, entries_from, book_from}
use Rattle.wire.specs.Laws.{Sent, Laws}
use Rattle.wire.proofs.Entries.{AllFit, entry_long, entries_long, entries_small, entries_back, entries_forth, entries_many, entries_fit, entries_append}

abbrev book_of : List Entry → Book
book_of es = record { entries = es }

long : (b : Book) → Full b → Sent (book_bytes b)
long b f = record { long = omega (arith, entries_long b.entries, f); bytes = entries_small b.entries }

-- past the slots a list reads blank
all_fit : (b : Book) → IsBook b → AllFit b.entries
all_fit b w i = by (ltb i slots) refl
  where
    by : (t : Bool) → ltb i slots ≡ t → Fits (get_or b.entries i blank)
    by true p =
        let e : suc i - 1 ≡ i = omega arith in
        subst (λ (j : ℕ). Fits (get_or b.entries j blank)) e (w.widths (suc i) (omega arith) (ltb-true i slots p))
    by false p = subst Fits (sym (get_or-eq_default b.entries blank {n = i} (omega (arith, ltb-false i slots p, w.long)))) blank_fits

back : (b : Book) → IsBook b → book_from (book_bytes b) ≡ b
back b w = ap book_of (ap (λ (n : ℕ). entries_from n (entries_bytes b.entries)) (sym w.long) ∙ entries_back b.entries (all_fit b w))

means : (s : List ℕ) → Sent s → IsBook (book_from s)
means s h = record { long = entries_many slots s; widths = λ k _ _. entries_fit slots s h.bytes h.long (k - 1) }

forth : (s : List ℕ) → Sent s → book_bytes (book_from s) ≡ s
forth s h = entries_forth slots s h.bytes h.long

-- the bytes of the entry at i, behind those of the entries before it
place : (es : List Entry) (i : ℕ) → i < length es → take 20 (drop (i * 20) (entries_bytes es)) ≡ entry_bytes (meaning (get_or es i blank))
unfolding entries_bytes
place es i h =
    let e = get_or es i blank in
    let before = entries_bytes (take i es) in
    let rest = entries_bytes (drop (suc i) es) in
    let l : length before ≡ i * 20 = entries_long (take i es) ∙ ap (λ (n : ℕ). n * 20) (length-take-le i es (omega arith)) in
    ap (λ (fs : List Entry). take 20 (drop (i * 20) (entries_bytes fs))) (split_at es i blank h)
    ∙ ap (λ (s : List ℕ). take 20 (drop (i * 20) s)) (entries_append (take i es) (e ∷ drop (suc i) es))
    ∙ ap (take 20) (drop_at before (entry_bytes (meaning e) ++ rest) (i * 20) l)
    ∙ take_at (entry_bytes (meaning e)) rest 20 (entry_long (meaning e))

slot : (b : Book) (k : ℕ) → Full b → 1 ≤ k → k ≤ slots → take 20 (drop ((k - 1) * 20) (book_bytes b)) ≡ entry_bytes (meaning (in_slot b k))
slot b k f l u = place b.entries (k - 1) (omega (arith, f))

pub laws : Laws
laws = record { long = long; back = back; means = means; forth = forth; slot = slot }
