-- `showing::bring` meets its contract: after j rounds the first j pairs are brought (up_to), each joined in where it stands
-- (shown-in-place) if it rises above what stands there, which is a change (changedTo); and five are all (five-brought,
-- five-changed). Assumes nothing.
use mathlib.Core.Path.{◌≡◌, sym, ap, ap₂, ◌∙◌}
use mathlib.Core.Bool.{Bool}
use mathlib.Core.List.{List}
use Prim.Native.Nat.{ℕ, suc, ◌+◌, ◌-◌, ◌*◌, ◌/◌}
use native.Mathlib.Omega.{arith}
use lib.ListN.{get_or, set}
use lib.Seq.{set-get_or}
use Rattle.book.specs.declared.Book.{Book}
use Rattle.book.specs.declared.Entry.{Entry}
use Rattle.std.specs.Prelude.{Option}
use Rattle.book.specs.Entry.{blank}
use Rattle.book.proofs.Joins.{shown_in_place, shown_below}
use Rattle.channel.specs.declared.Row.{Row}
use Rattle.channel.specs.Row.{frame_of}
use Rattle.shows.specs.Shows.{shown_at, rises_in, all_brought}
use Rattle.shows.proofs.Shows.{in_book}
use Rattle.shows.proofs.Turns.{up_to, changed_to, five_brought, five_changed, turn_changed, turn_kept}
use Rattle.shows.proofs.showing.bring.Goals as goal
use Rattle.shows.proofs.showing.bring.Goals.{then-rises, else-rises}

-- what is shown in round j
abbrev pair_in : Row → ℕ → Option (ℕ × Entry)
pair_in row j = shown_at (frame_of row) (6 + 2 * j)

-- an entry put back where it stands leaves the book as it is
put_back : (b : Book) (i : ℕ) → record { entries = set b.entries i (get_or b.entries i blank) } ≡ b
put_back b i = ap (λ (es : List Entry). record { entries = es }) (set-get_or b.entries i blank)

pub place_of-requires : goal.place_of-requires
place_of-requires c = rw c.shown_at-s.ensures (in_book (frame_of c.args.row) c.loop-p.p)

pub loop-p-preserved : goal.loop-p-preserved
loop-p-preserved c =
    let l = c.loop-p in
    let a = c.args in
    let j = (l.p - 6) / 2 in
    let next : (l.p + 2 - 6) / 2 ≡ suc j = omega arith in
    let b = up_to a.b (pair_in a.row) j in
    let s = pair_in a.row j in
    let shown : c.shown_at-s.result ≡ s = c.shown_at-s.ensures ∙ ap (shown_at (frame_of a.row)) l.invariant.0.1 in
    let e : c.rises.result ≡ rises_in b s = rw (c.place_of.ensures.0, shown, l.invariant.1.0) at c.rises.ensures in (
      (omega arith, omega arith),
      (
        rw next
            (elim c.if-rises.branch [
              | then-rises w ↦ w.b-is ∙ rw (w.join.ensures, c.place_of.ensures.0, shown, l.invariant.1.0) (shown_in_place b s)
              | else-rises w ↦ w.b-is ∙ put_back l.b c.place_of.result ∙ l.invariant.1.0 ∙ shown_below b s (sym e ∙ w.if-rises.false)
            ]),
        rw next
            (elim c.if-rises.branch [
              | then-rises w ↦ w.changed-is ∙ turn_changed (changed_to a.b (pair_in a.row) j) (rises_in b s) (sym e ∙ w.if-rises.true)
              | else-rises w ↦ w.changed-is ∙ l.invariant.1.1 ∙ turn_kept (changed_to a.b (pair_in a.row) j) (rises_in b s) (sym e ∙ w.if-rises.false)
            ]),
      ),
    )

pub returns : goal.returns
unfolding all_brought
returns c =
    let l = c.loop-p in
    let a = c.args in
    let e : (l.p - 6) / 2 ≡ 5 = omega arith in
    ap₂ (λ (b : Book) (t : Bool). record { book = b; changed = t }) (rw (l.invariant.1.0, e) (five_brought a.b (pair_in a.row)))
    (rw (l.invariant.1.1, e) (five_changed a.b (pair_in a.row)))
