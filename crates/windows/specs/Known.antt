-- A file of a few bytes, and what is written of it and left of it, computed from the definitions.
-- Assumes nothing.
use Rattle.std.specs.Prelude.{ℕ, true, false, List, [], ◌∷◌, ◌++◌, ◌≡◌, refl}
use Rattle.digits.specs.Text.{decimal}
use Rattle.fields.specs.Fields.{is_good, size_in}
use Rattle.fields.specs.Known.{string, offer, reset, silent}
use Rattle.salvage.specs.Items.{Kept, Skipped, resumes, next_place}
use Rattle.windows.specs.declared.Wanted.TheVariants.{Fields, Stretches, Records}
use Rattle.windows.specs.declared.Stands.TheVariants.{Between, Since}
use Rattle.windows.specs.Shown.{shown}
use Rattle.windows.specs.Window.{goal_of, left_at}

-- a reset, two stray bytes and a remark
abbrev pub torn : List ℕ
torn = reset ++ (9 ∷ 9 ∷ silent)

pub record Known : Type 0 where
  -- what is left: of all of it; within the stretch, whose first byte is kept in mind; behind it; and of a stretch that comes to the end of the file
  pub all : left_at torn 0 Between ≡ Kept 0 4 ∷ Skipped 4 2 ∷ Kept 6 3 ∷ []
  pub within : left_at torn 5 (Since 4) ≡ Skipped 4 2 ∷ Kept 6 3 ∷ []
  pub behind : left_at torn 6 Between ≡ Kept 6 3 ∷ []
  pub at_end : (left_at (9 ∷ 9 ∷ []) 2 (Since 0) ≡ Skipped 0 2 ∷ []) × (left_at torn 9 Between ≡ [])
  -- the fields; the lines "4 10" and "36 1"; the sixteen bytes of an offer, and none of a reset
  pub fields : shown Fields torn (Kept 0 4 ∷ Skipped 4 2 ∷ Kept 6 3 ∷ []) ≡ reset ++ silent
  pub lines : shown Stretches torn (Skipped 4 10 ∷ Kept 14 4 ∷ Skipped 36 1 ∷ []) ≡ 52 ∷ 32 ∷ 49 ∷ 48 ∷ 10 ∷ 51 ∷ 54 ∷ 32 ∷ 49 ∷ 10 ∷ []
  pub records : shown Records (reset ++ offer) (Kept 0 4 ∷ Kept 4 19 ∷ []) ≡ 23 ∷ 0 ∷ 0 ∷ 1 ∷ 2 ∷ string
  -- how far the work goes in a window of 256 KiB, in a shorter one, and in the last
  pub goals : (goal_of false 262144 ≡ 131068) × ((goal_of false 131076 ≡ 0) × (goal_of true 131076 ≡ 131076))

pub known : Known
unfolding decimal is_good size_in resumes next_place shown
known =
    record {
      all = refl;
      within = refl;
      behind = refl;
      at_end = (refl, refl);
      fields = refl;
      lines = refl;
      records = refl;
      goals = (refl, (refl, refl));
    }
