-- `joining::join_entries` meets its contract: a turn reads the slot's entry in its place and the other's from the lent bytes, and stores the greater in the
-- place. Assumes nothing.
use mathlib.Core.Path.{◌≡◌, ◌∙◌, ap, subst}
use Prim.Native.Nat.{ℕ, ◌<◌}
use native.Mathlib.Omega.{arith}
use borrow.Author.Rules.{rules}
use lib.ListN.{length, get_or}
use Rattle.book.specs.declared.Entry.{Entry}
use Rattle.book.specs.declared.Book.{Book}
use Rattle.book.specs.Entry.{blank, greater}
use Rattle.book.specs.Book.{slots}
use Rattle.wire.specs.Bytes.{entries_from}
use Rattle.lent_sites.proofs.Loops.{Partly, partly_none, partly_more, partly_all, read_at}
use Rattle.lent_sites.proofs.joining.join_entries.Goals as goal

pub loop-i-init : goal.loop-i-init
loop-i-init c =
    let xs = c.args.st.now.book.entries in
    let long : length xs ≡ slots = search rules in
    partly_none xs (entries_from slots c.args.book.now) long

pub loop-i-preserved : goal.loop-i-preserved
loop-i-preserved c =
    let xs = c.args.st.now.book.entries in
    let es = c.loop-i.entries in
    let i = c.loop-i.i in
    let s = c.args.book.now in
    let lt : i < slots = omega arith in
    partly_more xs (entries_from slots s) i es c.greater_of.result lt
    (c.greater_of.ensures ∙ ap (λ (y : Entry). greater (get_or es i blank) y) (c.entry_at.ensures ∙ read_at slots i s lt)) c.loop-i.invariant

pub returns : goal.returns
returns c =
    let st = c.args.st.now in
    let xs = st.book.entries in
    let es = c.loop-i.entries in
    let ys = entries_from slots c.args.book.now in
    let at_end : c.loop-i.i ≡ slots = omega arith in
    let all : Partly xs ys slots es = subst (λ (k : ℕ). Partly xs ys k es) at_end c.loop-i.invariant in
    ap (λ (b : Book). record st { book = b }) (ap (λ (es : _). record { entries = es }) (partly_all xs ys es all))
