-- `showing::bring` meets its contract: after j rounds the first j pairs are brought (up_to), each joined in where it stands
-- (shown-in-place) if it rises above what stands there, which is a change (changedTo); and five are all (five-brought,
-- five-changed). Assumes nothing.
use mathlib.Core.Path.{◌≡◌}
use Prim.Native.Nat.{ℕ, ◌+◌, ◌-◌, ◌*◌, ◌/◌, ◌≤◌}
use Rattle.channel.specs.declared.Row.{Row}
use Rattle.book.specs.declared.Entry.{Entry}
use Rattle.std.specs.Prelude.{Option}
use Rattle.channel.specs.Row.{frame_of}
use Rattle.shows.specs.Shows.{shown_at}
use Rattle.shows.proofs.Turns.{up_to, changed_to}
use Rattle.shows.proofs.showing.bring.Given as goal

-- what is shown in round j
abbrev pair_in : Row → ℕ → Option (ℕ × Entry)
pair_in row j = shown_at (frame_of row) (6 + 2 * j)

-- the rounds before string p
abbrev rounds : ℕ → ℕ
rounds p = (p - 6) / 2

abbrev pub invariant-loop-p : goal.invariant-loop-p
invariant-loop-p l = ((l.p ≤ 16) × (l.p ≡ 6 + 2 * rounds l.p))
    × ((l.b ≡ up_to l.initial.b (pair_in l.row) (rounds l.p)) × (l.changed ≡ changed_to l.initial.b (pair_in l.row) (rounds l.p)))

abbrev pub decreases-loop-p : goal.decreases-loop-p
decreases-loop-p l = 16 - l.p
