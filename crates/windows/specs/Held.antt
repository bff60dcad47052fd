-- What the loop over standard input holds from one turn to the next.
-- Assumes nothing.
use Rattle.std.specs.Prelude.{ℕ, ◌^◌, ◌≤◌, ◌<◌, Bool, true, ◌≡◌}
use Rattle.windows.specs.declared.stream.Held.{Held}
use Rattle.windows.specs.Window.{Began}

-- with a window of so many bytes: no more are held, a stretch that is open began before them, and there is room for the places of a window
pub record Holds (size : ℕ) (held : Held) : Type 0 where
  pub count : held.count ≤ size
  pub began : Began held.stands held.first
  pub places : held.first < 2 ^ 63

-- there is more to do only where a byte was passed
abbrev pub Passing : Bool → ℕ → Type 0
Passing more passed = more ≡ true → 0 < passed

-- after a turn that is not the last; it passed a byte
pub record Follows (size : ℕ) (held r : Held) : Type 0 where
  pub count : r.count ≤ size
  pub began : Began r.stands r.first
  pub further : held.first < r.first
