-- Files of a few bytes, their items, and what is written of them, computed from the definitions.
-- Assumes nothing.
use Rattle.std.specs.Prelude.{ℕ, List, [], ◌∷◌, ◌++◌, ◌≡◌, refl, Ok, Err}
use Rattle.fields.specs.Fields.{is_good, size_in}
use Rattle.salvage.specs.declared.Full.TheVariants.{Output as OutputFull, List as ListFull}
use Rattle.salvage.specs.Items.{Kept, Skipped, resumes, next_place, items_of}
use Rattle.salvage.specs.Writing.{fitting, end_of, end_number, kept_bytes, stretches}

-- a reset of channel 5; a remark of no byte; both, and both with a stray byte between
abbrev pub reset : List ℕ
reset = 2 ∷ 0 ∷ 1 ∷ 5 ∷ []

abbrev pub silent : List ℕ
silent = 3 ∷ 0 ∷ 0 ∷ []

abbrev pub stray : List ℕ
stray = reset ++ (9 ∷ silent)

-- a stray byte before each two remarks, and one behind: 8 bytes, 2 stretches
abbrev pub dense : List ℕ
dense = 9 ∷ (silent ++ silent ++ (9 ∷ []))

pub record Known : Type 0 where
  -- an empty file has no items; an undamaged one is its fields
  pub none : items_of [] ≡ []
  pub whole : items_of (reset ++ silent) ≡ Kept 0 4 ∷ Kept 4 3 ∷ []
  -- after a stray byte, one whole good field that ends the file
  pub ends_file : items_of stray ≡ Kept 0 4 ∷ Skipped 4 1 ∷ Kept 5 3 ∷ []
  -- two that follow one another, and more stray bytes behind them
  pub two : items_of dense ≡ Skipped 0 1 ∷ Kept 1 3 ∷ Kept 4 3 ∷ Skipped 7 1 ∷ []
  -- one alone within the file is not enough: it is skipped with the rest
  pub one : items_of (9 ∷ (silent ++ (9 ∷ 9 ∷ []))) ≡ Skipped 0 6 ∷ []
  -- but it is kept where nothing was refused before it
  pub no_second_look : items_of (silent ++ (9 ∷ 9 ∷ [])) ≡ Kept 0 3 ∷ Skipped 3 2 ∷ []
  -- a file that ends within a field; and a lost byte, so that a reset reaches into the field behind it
  pub cut : items_of (silent ++ (2 ∷ 0 ∷ 1 ∷ [])) ≡ Kept 0 3 ∷ Skipped 3 3 ∷ []
  pub lost : items_of (2 ∷ 1 ∷ 5 ∷ (silent ++ reset)) ≡ Skipped 0 3 ∷ Kept 3 3 ∷ Kept 6 4 ∷ []
  pub reaches : items_of (2 ∷ 0 ∷ 1 ∷ (silent ++ (reset ++ silent))) ≡ Kept 0 4 ∷ Skipped 4 2 ∷ Kept 6 4 ∷ Kept 10 3 ∷ []
  -- what is written: the kept bytes, and first byte and count of each stretch
  pub bytes : kept_bytes stray (items_of stray) ≡ reset ++ silent
  pub list : stretches (items_of dense) ≡ 0 ∷ 1 ∷ 7 ∷ 1 ∷ []
  -- the ends: whole; no room for the last field; no room for a stretch; the stretch before the field that follows it
  pub ends : (end_of 7 1 (items_of stray) ≡ Ok tt)
      × ((end_of 6 1 (items_of stray) ≡ Err (OutputFull 5)) × ((end_of 7 0 (items_of stray) ≡ Err (ListFull 4)) × (end_of 2 0 (items_of dense) ≡ Err (ListFull 0))))
  pub stops : fitting 6 1 (items_of stray) ≡ Kept 0 4 ∷ Skipped 4 1 ∷ []
  -- "44 no room in the output for the next field, 45 no room for the next stretch"
  pub numbers : (end_number (Ok tt) ≡ 0) × ((end_number (Err (OutputFull 5)) ≡ 44) × (end_number (Err (ListFull 4)) ≡ 45))

pub known : Known
unfolding is_good size_in resumes next_place items_of
known =
    record {
      none = refl;
      whole = refl;
      ends_file = refl;
      two = refl;
      one = refl;
      no_second_look = refl;
      cut = refl;
      lost = refl;
      reaches = refl;
      bytes = refl;
      list = refl;
      ends = (refl, (refl, (refl, refl)));
      stops = refl;
      numbers = (refl, (refl, refl));
    }
