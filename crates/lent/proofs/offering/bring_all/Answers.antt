-- `offering::bring_all` meets its contract: in each turn `bring_one` brings what is shown, and all turns together bring all of it (`Turns`); then `sum_up`.
-- Assumes nothing.
use mathlib.Core.Path.{◌≡◌, refl, ◌∙◌, ap, ap₂}
use mathlib.Core.Bool.{Bool}
use mathlib.Core.List.{List}
use native.Mathlib.Numerals.{add-one}
use native.Mathlib.Omega.{arith}
use lib.ListN.{length}
use Rattle.shows.proofs.Turns.{changed_to}
use Rattle.book.specs.declared.Entry.{Entry}
use Rattle.std.specs.Prelude.{Option, ℕ}
use Rattle.station.specs.declared.Station.{Station}
use Rattle.lent.specs.Lent.{BringsAll, SumsUp}
use Rattle.lent.proofs.Turns.{turns, in_turn, left_after, summed, or_before, all_brought_lem, all_changed}
use Rattle.lent.proofs.offering.bring_all.Goals as goal

-- ---- the contract, from what all turns make of the book
all_turned : (st : Station) (xs : List (Option (ℕ × Entry))) (st' : Station) → length xs ≡ 5 → SumsUp (left_after st xs turns) (changed_to st.book (in_turn xs) turns) st' → BringsAll st xs st'
all_turned st xs st' l su =
    su ∙ ap₂ (λ (b : _) (t : Bool). summed (record { rows = st.rows; book = b; summary = st.summary }) t) (all_brought_lem st.book xs l) (all_changed st.book xs l)

pub returns : goal.returns
returns c =
    let st = c.args.st.now in
    let xs = c.args.shown in
    let at_end : c.loop-s.s-index ≡ turns = omega arith in
    all_turned st xs c.sum_up.new.st c.loop-s.invariant.0 (
    c.sum_up.ensures
    ∙ ap₂ summed (c.loop-s.invariant.1.0 ∙ ap (left_after st xs) at_end) (c.loop-s.invariant.1.1 ∙ ap (changed_to st.book (in_turn xs)) at_end)
    )

pub loop-s-preserved : goal.loop-s-preserved
loop-s-preserved c =
    let st = c.args.st.now in
    let xs = c.args.shown in
    let j = c.loop-s.s-index in
    let i = c.loop-s.invariant in
    let g = c.bring_one-changed.ensures in (
      i.0,
      (
        rw (g.0, i.1.0, add-one j) refl,
        or_before c.bring_one-changed.result c.loop-s.changed ∙ rw (g.1, i.1.1, i.1.0, add-one j) refl,
      ),
    )
