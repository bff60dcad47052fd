-- What the walk gives (request 5), said of the lines and not of a walk over them: "how many slots are filled, the oldest day and the newest". The
-- proof stands in `proofs/Means.antt`.
-- Assumes nothing.
use Rattle.std.specs.Prelude.{ℕ, ◌≤◌, ◌<◌, ◌≡◌, eqb, length, get_or}
use mathlib.Core.List.{List, [], ◌∷◌, ◌++◌, Perm}
use Rattle.strings.specs.Pick.{pick}
use Rattle.book.specs.declared.Entry.{Entry}
use Rattle.book.specs.Entry.{blank}
use Rattle.summary.specs.declared.Summary.{Summary}
use Rattle.summary.specs.Walk.{none_filled, walk_of}

-- the lines that are filled: those with a day
abbrev pub filled : List Entry → List Entry
filled [] = []
filled (e ∷ es) = pick (eqb e.day 0) (filled es) (e ∷ filled es)

-- one of the lines holds an entry of day d
pub record Holds (es : List Entry) (d : ℕ) : Type 0 where
  pub line : ℕ
  pub there : line < length es
  pub day : (get_or es line blank).day ≡ d
  -- day 0 is no entry
  pub entry : d ≡ 0 → ⊥

pub record Means (es : List Entry) (s : Summary) : Type 0 where
  -- "how many slots are filled"
  pub count : s.count ≡ length (filled es)
  -- "the oldest day": where any line holds an entry, it is the day of one, and no line's is before it
  pub oldest_there : (d : ℕ) → Holds es d → Holds es s.oldest
  pub oldest_first : (d : ℕ) → Holds es d → s.oldest ≤ d
  -- "and the newest": where any line holds an entry, it is the day of one, and no line's is after it
  pub newest_there : (d : ℕ) → Holds es d → Holds es s.newest
  pub newest_last : (d : ℕ) → Holds es d → d ≤ s.newest
  -- "An empty book has count 0 and both days 0"
  pub empty : ((d : ℕ) → Holds es d → ⊥) → s ≡ none_filled

pub record WalkMeans : Type 0 where
  -- the walk gives this, and nothing else is this
  pub means : (es : List Entry) → Means es (walk_of es)
  pub only : (es : List Entry) (s : Summary) → Means es s → s ≡ walk_of es
  -- the order of the lines is nothing to it: two neighbours can be exchanged, and so the lines put in any order
  pub exchanged : (before after : List Entry) (e f : Entry) → walk_of (before ++ (e ∷ f ∷ after)) ≡ walk_of (before ++ (f ∷ e ∷ after))
  pub any_order : (es fs : List Entry) → Perm es fs → walk_of es ≡ walk_of fs
