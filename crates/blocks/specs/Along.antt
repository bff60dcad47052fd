-- The fields of a block taken one by one, each on the station that the one before left and at the place that it told, up to the end or to a field that is
-- refused: the answers of the calls, in that order, the last station, and how it ended. For any station, any card and any bytes.
-- Assumes nothing.
use Rattle.std.specs.Prelude.{ℕ, List, [], ◌∷◌, ◌++◌, ◌≡◌, Result, ⊤}
use Rattle.fields.specs.declared.Why.{Why}
use Rattle.strings.specs.Calls.{written_paper}
use Rattle.fields.specs.Block.{calls_in, end_in}
use Rattle.channel.specs.Offers.{answer_paper}
use Rattle.station.specs.declared.Station.{Station}
use Rattle.blocks.specs.declared.Told.{Told}
use Rattle.blocks.specs.declared.Told.TheVariants.{End, Offered, Emptied, Remark, Refused}
use Rattle.blocks.specs.declared.Taken.{Taken}
use Rattle.blocks.specs.Taking.{after_calls, answers_to, Takes}
use Rattle.blocks.specs.Handing.{ended_paper, ended_by}

-- the answers of a field: one of a call, and none of the end, a remark and a field that is refused
abbrev pub answers_in : Told → List (List ℕ)
answers_in End = []
answers_in (Offered answer) = answer_paper answer ∷ []
answers_in (Emptied answer) = written_paper answer ∷ []
answers_in Remark = []
answers_in (Refused why at) = []

pub data Along (card : ℕ) (block : List ℕ) : Station → ℕ → List (List ℕ) → Station → Result ⊤ (Why × ℕ) → Type 0 where
  stops : (st : Station) (at : ℕ) (r : Taken) → Takes st card block at r → r.after ≡ at → Along card block st at [] r.station (ended_by r.told)
  goes : (st : Station) (at : ℕ) (r : Taken) (answers : List (List ℕ)) (last : Station) (ended : Result ⊤ (Why × ℕ)) → Takes st card block at r → (r.after ≡ at → ⊥)
      → Along card block r.station r.after answers last ended → Along card block st at (answers_in r.told ++ answers) last ended

-- a block that was taken so: it always can be
pub record Passed (st : Station) (card : ℕ) (block : List ℕ) (at : ℕ) : Type 0 where
  pub answers : List (List ℕ)
  pub last : Station
  pub ended : Result ⊤ (Why × ℕ)
  pub along : Along card block st at answers last ended

-- "the same station and answers as its calls one by one, in the order written"
pub record AsCalls (st : Station) (card : ℕ) (block : List ℕ) (answers : List (List ℕ)) (last : Station) (ended : Result ⊤ (Why × ℕ)) : Type 0 where
  pub same_answers : answers ≡ answers_to st card (calls_in block)
  pub same_station : last ≡ after_calls st card (calls_in block)
  pub end : ended_paper ended ≡ end_in block
