-- What holds of every offer to a lent station and of every reset, whatever the station and the bytes: it is the station's own, a step of its history, and its
-- one number tells the answer. Proved as `laws` in `proofs/Laws.antt`.
-- Assumes nothing.
use Rattle.std.specs.Prelude.{ℕ, ◌^◌, ◌<◌, List, ◌∷◌, ◌↔◌, ◌≡◌, Result}
use Rattle.strings.specs.declared.Refusal.{Refusal}
use Rattle.channel.specs.declared.TakenString.{TakenString}
use Rattle.strings.specs.Calls.{written_paper}
use Rattle.channel.specs.Offers.{answer_paper}
use Rattle.station.specs.declared.Station.{Station}
use Rattle.station.specs.declared.Stepped.{Stepped}
use Rattle.station.specs.declared.Emptied.{Emptied}
use Rattle.station.specs.Station.{OffersTo, Resets}
use Rattle.station.specs.History.{Call, Offer, Reset, Runs}
use Rattle.told.specs.Told.{packed, AreBytes}
use Rattle.lent.specs.Lent.{OffersLent, ResetsLent}

-- a step of a station: its answer in one number, and the station after it in the place of the one before
pub record AsOffered (st : Station) (card c epoch : ℕ) (s : List ℕ) (st' : Station) (r : ℕ) : Type 0 where
  pub step : Stepped
  pub offers : OffersTo st card c epoch s step
  pub answer : r ≡ packed (answer_paper step.answer)
  pub station : st' ≡ step.station

pub record AsReset (st : Station) (card c : ℕ) (st' : Station) (r : ℕ) : Type 0 where
  pub step : Emptied
  pub resets : Resets st card c step
  pub answer : r ≡ packed (written_paper step.answer)
  pub station : st' ≡ step.station

-- an answer of an offer, and the number that the host gets where the station was lent
pub record ToldAs (a : Result TakenString Refusal) (n : ℕ) : Type 0 where
  pub before : Station
  pub card : ℕ
  pub channel : ℕ
  pub epoch : ℕ
  pub bytes : List ℕ
  pub step : Stepped
  pub offers : OffersTo before card channel epoch bytes step
  pub answer : step.answer ≡ a
  pub after : Station
  pub lent : OffersLent before card channel epoch bytes after n

pub record Laws : Type 0 where
  -- a lent offer is an offer to the station, and the other way round
  pub as_offered : (st : Station) (card c epoch : ℕ) (s : List ℕ) (st' : Station) (r : ℕ) → OffersLent st card c epoch s st' r ↔ AsOffered st card c epoch s st' r
  -- so it is a step of a history, and what is proved of a station is proved of the lent one
  pub runs : (cs : List Call) (st : Station) (card c epoch : ℕ) (s : List ℕ) (st' : Station) (r : ℕ) → Runs cs st → OffersLent st card c epoch s st' r
      → Runs (Offer card c epoch s ∷ cs) st'
  -- and so with a reset
  pub as_reset : (st : Station) (card c : ℕ) (st' : Station) (r : ℕ) → ResetsLent st card c st' r ↔ AsReset st card c st' r
  pub runs_reset : (cs : List Call) (st : Station) (card c : ℕ) (st' : Station) (r : ℕ) → Runs cs st → ResetsLent st card c st' r → Runs (Reset card c ∷ cs) st'
  -- the number tells the answer: no two answers of offers, to whatever stations, have the same
  pub told_once : (a b : Result TakenString Refusal) (n : ℕ) → ToldAs a n → ToldAs b n → a ≡ b
  -- for the numbers of an offer's answer fit in a byte each
  pub in_bytes_lem : (st : Station) (card c epoch : ℕ) (s : List ℕ) (r : Stepped) → OffersTo st card c epoch s r → AreBytes (answer_paper r.answer)
  -- and no two answers whose numbers do are packed alike
  pub told_apart : (a b : Result TakenString Refusal) → AreBytes (answer_paper a) → AreBytes (answer_paper b) → packed (answer_paper a) ≡ packed (answer_paper b) → a ≡ b
  -- six bytes hold what an offer tells, and five bits what a reset does
  pub six_bytes : (st : Station) (card c epoch : ℕ) (s : List ℕ) (st' : Station) (r : ℕ) → OffersLent st card c epoch s st' r → r < 2 ^ 48
  pub five_bits : (st : Station) (card c : ℕ) (st' : Station) (r : ℕ) → ResetsLent st card c st' r → r < 2 ^ 5
