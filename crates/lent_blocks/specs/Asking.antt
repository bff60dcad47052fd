-- What the field at a place of a block asks of a station. For any bytes and any place.
-- Assumes nothing.
use Rattle.std.specs.Prelude.{ℕ, ◌+◌, ◌≤◌, List, [], ◌∷◌, ◌≡◌, length, take, drop}
use Rattle.fields.specs.Sixteen.{symbols_in}
use Rattle.fields.specs.Block.{Call, Offer as OfferCall, Reset as ResetCall}
use Rattle.station.specs.declared.Station.{Station}
use Rattle.blocks.specs.Taking.{answer_among, field_says, calls_at}
use Rattle.lent_blocks.specs.declared.asking.Asked.{Asked}
use Rattle.lent_blocks.specs.declared.asking.Asked.TheVariants.{Offer, Reset, No}
use Rattle.lent_blocks.specs.Taking.{numbers_in}

-- the string of an offer whose field has its tag at this place: three bytes further on its sixteen begin
abbrev pub symbols_at : List ℕ → ℕ → List ℕ
symbols_at block at = symbols_in (take 16 (drop (at + 3) block))

-- the call that is asked for: an offer of this string, a reset, or none
abbrev pub asked_for : Asked → List ℕ → List Call
asked_for (Offer channel epoch) s = OfferCall channel epoch s ∷ []
asked_for (Reset channel) s = ResetCall channel ∷ []
asked_for (No told) s = []

-- the number that C is told
abbrev pub told_of : Asked → ℕ
told_of (Offer channel epoch) = 1
told_of (Reset channel) = 2
told_of (No told) = told

pub record Asks (block : List ℕ) (at : ℕ) (r : Asked) : Type 0 where
  pub calls : calls_at block at ≡ asked_for r (symbols_at block at)
  -- whatever the station and the card, this number is told first, and then the call's answer
  pub numbers : (st : Station) (card : ℕ) → numbers_in (field_says st card block at) ≡ told_of r ∷ answer_among st card (calls_at block at)
  -- an offer is there whole
  pub whole : (channel epoch : ℕ) → r ≡ Offer channel epoch → at + 19 ≤ length block
