-- The known days of the paper ("Known strings and edges"), computed from the definitions.
-- Assumes nothing.
use Rattle.std.specs.Prelude.{◌≡◌, refl}
use Rattle.book.specs.Shows.{day_of}

pub record Known : Type 0 where
  -- N4 6, NA 1461 is day 8766; N4 7, NA 1 is 8767
  pub last_day : day_of 6 1461 ≡ 8766
  pub next_day_lem : day_of 7 1 ≡ 8767

pub known : Known
unfolding day_of
known = record { last_day = refl; next_day_lem = refl }
