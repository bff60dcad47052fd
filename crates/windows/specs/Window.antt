-- A torn file of which one window is held at a time: where the work stands in it, what is left from there, and what a turn over a window does.
-- Assumes nothing.
use Rattle.std.specs.Prelude.{ℕ, ◌+◌, ◌-◌, ◌*◌, ◌^◌, ◌≤◌, ◌<◌, Bool, true, false, List, ◌∷◌, ◌++◌, ◌⊎◌, ◌≡◌, length, take, drop}
use Rattle.strings.specs.Pick.{pick}
use Rattle.strings.specs.Number.{Bytes}
use Rattle.salvage.specs.Items.{Item, Skipped, search_from, items_from}
use Rattle.windows.specs.declared.Wanted.{Wanted}
use Rattle.windows.specs.declared.Stands.{Stands}
use Rattle.windows.specs.declared.Stands.TheVariants.{Between, Since}
use Rattle.windows.specs.declared.Turn.{Turn}
use Rattle.windows.specs.Shown.{shown}

-- the longest field: tag, length, and 65,535 bytes. And the room that is asked for before a step: for it, and for a line of two numbers of twenty digits
abbrev pub longest : ℕ
longest = 65538

abbrev pub spare : ℕ
spare = longest + 42

-- ---- a window of a file: its bytes from `first` on. The last window ends with the file
pub record Window (file : List ℕ) (first : ℕ) (last : Bool) (window : List ℕ) : Type 0 where
  pub bytes : Bytes file
  pub here : window ≡ take (length window) (drop first file)
  pub within : first + length window ≤ length file
  pub ends : last ≡ true → first + length window ≡ length file

-- how far the work goes in a window of n bytes: two of the longest fields are left, for so far it looks ahead; and in the last window to its end
abbrev pub goal_of : Bool → ℕ → ℕ
goal_of last n = pick last n (n - 2 * longest)

-- ---- where the work stands: what of the file is left from a byte on. Within a stretch it is that stretch, up to the first place where it goes on or the end
-- of the file, and what follows
abbrev pub items_at : List ℕ → ℕ → List Item
items_at file at = items_from file (length file - at) at

abbrev pub place_at : List ℕ → ℕ → ℕ
place_at file at = search_from file (length file - at) at

abbrev pub left_at : List ℕ → ℕ → Stands → List Item
left_at file at Between = items_at file at
left_at file at (Since start) = Skipped start (place_at file at - start) ∷ items_at file (place_at file at)

abbrev pub turn_at : ℕ → ℕ → Stands → Turn
turn_at passed written stands = record { passed = passed; written = written; stands = stands }

-- a stretch began at the byte or before it
abbrev pub Began : Stands → ℕ → Type 0
Began Between at = Unit
Began (Since start) at = start ≤ at

-- ---- work on a file from a byte to another: some items are told, and what was left are these and what is then left. What they show is written behind what
-- was written
pub record Tells (wanted : Wanted) (file : List ℕ) (at : ℕ) (stands : Stands) (at' : ℕ) (stands' : Stands) (text text' : List ℕ) : Type 0 where
  pub told : List Item
  pub items : left_at file at stands ≡ told ++ left_at file at' stands'
  pub shows : text' ≡ text ++ shown wanted file told

-- work on a window, of which `passed` bytes were passed when it began and `written` bytes written to the output: the same of every file that has this window.
-- All behind what is written stays
pub record Works (wanted : Wanted) (window : List ℕ) (last : Bool) (first : ℕ) (from : Turn) (out : List ℕ) (r : Turn) (out' : List ℕ) : Type 0 where
  pub tells : (file : List ℕ) → Window file first last window
      → Tells wanted file (first + from.passed) from.stands (first + r.passed) r.stands (take from.written out) (take r.written out')
  pub onward : from.passed ≤ r.passed
  pub within : r.passed ≤ length window
  pub began : Began r.stands (first + r.passed)
  pub more : from.written ≤ r.written
  pub room : r.written ≤ length out
  pub long : length out' ≡ length out
  pub behind : drop r.written out' ≡ drop r.written out

-- a step of it gets on, by a byte at least
pub record Steps (wanted : Wanted) (window : List ℕ) (last : Bool) (first : ℕ) (from : Turn) (out : List ℕ) (r : Turn) (out' : List ℕ) : Type 0 where
  pub works : Works wanted window last first from out r out'
  pub further : from.passed < r.passed

-- whether the window is the last or not, where the step is made before the goal
abbrev pub Stepped : (wanted : Wanted) (window : List ℕ) (first : ℕ) (from : Turn) (out : List ℕ) (r : Turn) (out' : List ℕ) → Type 0
Stepped wanted window first from out r out' = (last : Bool) → from.passed < goal_of last (length window) → Steps wanted window last first from out r out'

-- what a step asks for: the window's places are numbers of 64 bits, the place is within it, and there is so much room
pub record Asks (window : List ℕ) (first at written need : ℕ) (out : List ℕ) : Type 0 where
  pub places : first + length window < 2 ^ 64
  pub place : at < length window
  pub room : written + need ≤ length out

-- ---- a turn over a window. It ends where the output has too little room for a step; else at the goal, and with the file where the window is the last
abbrev pub Ends : Bool → ℕ → Turn → Type 0
Ends true n r = (r.passed ≡ n) × (r.stands ≡ Between)
Ends false n r = goal_of false n ≤ r.passed

-- the end of a turn over the last window
pub record Closes (wanted : Wanted) (window : List ℕ) (first : ℕ) (from : Turn) (out : List ℕ) (r : Turn) (out' : List ℕ) : Type 0 where
  pub works : Works wanted window true first from out r out'
  pub far : (length window ≤ from.passed) ⊎ (length out < from.written + spare) → (length out < r.written + spare) ⊎ Ends true (length window) r

pub record Passes (wanted : Wanted) (window : List ℕ) (last : Bool) (first : ℕ) (stands : Stands) (out : List ℕ) (r : Turn) (out' : List ℕ) : Type 0 where
  pub works : Works wanted window last first (turn_at 0 0 stands) out r out'
  pub far : (length out < r.written + spare) ⊎ Ends last (length window) r
  -- with room for a step it gets on
  pub gets_on : spare ≤ length out → 0 < goal_of last (length window) → 0 < r.passed
