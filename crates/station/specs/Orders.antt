-- The order in which the station's calls try their tests, in the paper's numbers ("Numbers that say no"): for every station and all that is handed in,
-- as one table.
-- Assumes nothing.
use Rattle.std.specs.Prelude.{ℕ, List, [], ◌∷◌, ◌≡◌, refl}
use Rattle.strings.specs.Numbers.{numbers_of}
use Rattle.strings.specs.Calls.{sound_tests}
use Rattle.station.specs.declared.Station.{Station}
use Rattle.station.specs.Station.{card_test, gate_tests, station_tests}
use Rattle.station.specs.Queries.{record_tests, entry_tests}

pub record Orders : Type 0 where
  -- "16 CARD, before CHANNEL or SLOT", "15 OWNER, directly after" CHANNEL; "An offer is tested in the order 1 to 9", with 31, 32, 33 "all in 3's position"
  pub offer : (st : Station) (card c epoch : ℕ) (s : List ℕ) → numbers_of (station_tests st card c epoch s) ≡ 16 ∷ 1 ∷ 15 ∷ 2 ∷ 31 ∷ 32 ∷ 33 ∷ 4 ∷ 5 ∷ 6 ∷ 7 ∷ 8 ∷ 9 ∷ []
  -- "Reset: 1", and of the queries the tallies and health
  pub channel : (card c : ℕ) → numbers_of (gate_tests card c) ≡ 16 ∷ 1 ∷ 15 ∷ []
  -- "Queries: 1 or 14, then 13"
  pub immediate : (st : Station) (card c : ℕ) → numbers_of (record_tests st card c) ≡ 16 ∷ 1 ∷ 15 ∷ 13 ∷ []
  pub entry : (st : Station) (card slot : ℕ) → numbers_of (entry_tests st card slot) ≡ 16 ∷ 14 ∷ 13 ∷ []
  -- and the summary
  pub summary : (card : ℕ) → numbers_of (card_test card ∷ []) ≡ 16 ∷ []

pub orders : Orders
unfolding sound_tests
orders = record { offer = λ st card c epoch s. refl; channel = λ card c. refl; immediate = λ st card c. refl; entry = λ st card slot. refl; summary = λ card. refl }
