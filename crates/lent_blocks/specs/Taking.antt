-- A field of a block, done on a station that is lent, and told in one number (the request "One transfer a second"). For any station, any
-- card, any bytes and any place.
-- Assumes nothing.
use Rattle.std.specs.Prelude.{ℕ, zero, suc, List, [], ◌∷◌, ◌≡◌}
use Rattle.told.specs.Told.{packed}
use Rattle.station.specs.declared.Station.{Station}
use Rattle.blocks.specs.Taking.{after_calls, field_says, calls_at}

-- of what a field leads to, the numbers that the host gets: its tag, which is 0 at the end of the block, and the numbers of its call's own answer; or the
-- number that says no to the field, whose place the host has
abbrev pub numbers_in : List ℕ → List ℕ
numbers_in [] = []
numbers_in (zero ∷ told) = told
numbers_in (suc n ∷ place) = suc n ∷ []

-- the station left in its place, and these numbers, the first in the lowest byte
pub record TakesLent (st : Station) (card : ℕ) (block : List ℕ) (at : ℕ) (st' : Station) (r : ℕ) : Type 0 where
  pub answer : r ≡ packed (numbers_in (field_says st card block at))
  pub station : st' ≡ after_calls st card (calls_at block at)
