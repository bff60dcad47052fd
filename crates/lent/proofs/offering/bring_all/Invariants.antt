-- The loop of what is brought: the station after some turns, and whether an entry has changed.
use mathlib.Core.Path.{◌≡◌}
use lib.ListN.{length}
use Rattle.shows.proofs.Turns.{changed_to}
use Rattle.lent.proofs.Turns.{in_turn, left_after}
use Rattle.lent.proofs.offering.bring_all.Given as goal

abbrev pub invariant-loop-s : goal.invariant-loop-s
invariant-loop-s l = (length l.s-items ≡ 5) × ((l.st ≡ left_after l.fn.st l.s-items l.s-index) × (l.changed ≡ changed_to l.fn.st.book (in_turn l.s-items) l.s-index))
