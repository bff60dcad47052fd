-- A whole block handed to a station: "Handing a block to any station gives the same station and answers as its calls one by one, in the order written".
-- For any station, any card and any bytes.
-- Assumes nothing.
use Rattle.std.specs.Prelude.{ℕ, Bool, true, false, List, [], ◌∷◌, ◌≡◌, Result, Ok, Err, ⊤}
use Rattle.fields.specs.declared.Why.{Why}
use Rattle.fields.specs.Fields.{why_number}
use Rattle.fields.specs.Block.{calls_in, end_in}
use Rattle.station.specs.declared.Station.{Station}
use Rattle.blocks.specs.declared.Told.{Told}
use Rattle.blocks.specs.declared.Told.TheVariants.{End, Offered, Emptied, Remark, Refused}
use Rattle.blocks.specs.declared.Handed.{Handed}
use Rattle.blocks.specs.Taking.{after_calls}

-- how a block ended, in the paper's numbers: 0, or the number that says no to a field, and the place of the field
abbrev pub ended_paper : Result ⊤ (Why × ℕ) → List ℕ
ended_paper (Ok _) = 0 ∷ []
ended_paper (Err (why, at)) = why_number why ∷ at ∷ []

-- "the work stops there, keeps what went before and tells the byte place of the field"
pub record HandsOver (st : Station) (card : ℕ) (block : List ℕ) (r : Handed) : Type 0 where
  pub station : r.station ≡ after_calls st card (calls_in block)
  pub end : ended_paper r.ended ≡ end_in block

-- the work stops at the end of the block and at a field that is refused, and nowhere else
abbrev pub is_last : Told → Bool
is_last End = true
is_last (Offered answer) = false
is_last (Emptied answer) = false
is_last Remark = false
is_last (Refused why at) = true

-- the end by what the last field led to
abbrev pub ended_by : Told → Result ⊤ (Why × ℕ)
ended_by End = Ok tt
ended_by (Offered answer) = Ok tt
ended_by (Emptied answer) = Ok tt
ended_by Remark = Ok tt
ended_by (Refused why at) = Err (why, at)
