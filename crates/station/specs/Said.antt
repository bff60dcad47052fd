-- Calls made on a station one after the other, the latest first, each with the answer that it gave: from any station.
-- Assumes nothing.
use Rattle.std.specs.Prelude.{ℕ, List, [], ◌∷◌, map, ◌⊎◌, ◌≡◌}
use Rattle.strings.specs.Pick.{pick}
use Rattle.strings.specs.Calls.{written_paper}
use Rattle.channel.specs.Offers.{answer_paper}
use Rattle.station.specs.declared.Station.{Station}
use Rattle.station.specs.declared.Stepped.{Stepped}
use Rattle.station.specs.declared.Emptied.{Emptied}
use Rattle.station.specs.Station.{OffersTo, Resets}
use Rattle.station.specs.History.{Call, Offer, Reset, is_on}

-- a call, and its answer in the paper's numbers
pub record Said : Type 0 where
  pub call : Call
  pub answer : List ℕ

abbrev pub said : Call → List ℕ → Said
said call answer = record { call = call; answer = answer }

-- from this station, these calls with these answers lead to that station: each answer, and each station, is one that the contract of its call allows
pub data RunsFrom (from : Station) : List Said → Station → Type 0 where
  none : RunsFrom from [] from
  offers : (card c epoch : ℕ) (s : List ℕ) (before : List Said) (st : Station) (r : Stepped) → RunsFrom from before st → OffersTo st card c epoch s r
      → RunsFrom from (said (Offer card c epoch s) (answer_paper r.answer) ∷ before) r.station
  resets : (card c : ℕ) (before : List Said) (st : Station) (r : Emptied) → RunsFrom from before st → Resets st card c r
      → RunsFrom from (said (Reset card c) (written_paper r.answer) ∷ before) r.station

-- the calls alone
abbrev pub calls_of : List Said → List Call
calls_of all = map (λ (x : Said). x.call) all

-- calls that were made from a station: their answers, and where they led
pub record Ran (from : Station) (cs : List Call) : Type 0 where
  pub all : List Said
  pub calls : calls_of all ≡ cs
  pub left : Station
  pub run : RunsFrom from all left

-- the answers that the calls on one channel gave
unfoldable pub answers_on : ℕ → List Said → List (List ℕ)
answers_on c [] = []
answers_on c (x ∷ before) = pick (is_on c x.call) (x.answer ∷ answers_on c before) (answers_on c before)

-- this call was made, and gave this answer
abbrev pub Among : Said → List Said → Type 0
Among x [] = ⊥
Among x (y ∷ before) = (y ≡ x) ⊎ Among x before
