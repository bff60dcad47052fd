-- Whichever way up a string's symbols came: "Station contents, order of checks and the read bits do not depend on it. A string and its inverse now answer
-- alike except in this field, and demand 2 is read so." The inverse is the string with all 85 symbols inverted, the padding not.
-- Assumes nothing.
use Rattle.std.specs.Prelude.{ℕ, ◌^◌, ◌<◌, true, List, [], ◌∷◌, ◌⊎◌, ◌≡◌, Result}
use Rattle.strings.specs.declared.Refusal.{Refusal}
use Rattle.channel.specs.declared.TakenString.{TakenString}
use Rattle.strings.specs.Number.{misshapen, bytes_of_string}
use Rattle.relative.specs.Relative.{inverse}
use Rattle.channel.specs.Offers.{answer_paper}
use Rattle.channel.specs.Laws.{other_way}
use Rattle.station.specs.declared.Station.{Station}
use Rattle.station.specs.declared.Stepped.{Stepped}
use Rattle.station.specs.Station.{is_served, OffersTo}
use Rattle.station.specs.History.{Call, Offer}
use Rattle.station.specs.Said.{Said, RunsFrom, calls_of}

-- ---- an offer
-- what a string was answered and left, and what its inverse: the same refusal, or taken with the same m, verdict and news and the other polarity; and
-- the same station, whole
pub record AlikeStepped (r inverted : Stepped) : Type 0 where
  pub answer : inverted.answer ≡ other_way r.answer
  pub station : inverted.station ≡ r.station

-- on every channel number at every epoch
pub record EitherWay (st : Station) (card c epoch : ℕ) : Type 0 where
  -- every string of eleven bytes with padding 0
  pub alike : (x : ℕ) (r inverted : Stepped) → x < 2 ^ 85 → OffersTo st card c epoch (bytes_of_string x) r → OffersTo st card c epoch (bytes_of_string (inverse x)) inverted
      → AlikeStepped r inverted
  -- bytes of any other shape are SHAPE, whichever way up
  pub other_shape : (s : List ℕ) (r : Stepped) → is_served card c ≡ true → misshapen s ≡ true → OffersTo st card c epoch s r → answer_paper r.answer ≡ 2 ∷ []

-- ---- calls one after the other
-- a call that offers a string, and the one of the same card that offers its inverse to the same channel at the same epoch
pub record InverseOffered (call inverted : Call) : Type 0 where
  pub card : ℕ
  pub channel : ℕ
  pub epoch : ℕ
  pub string : ℕ
  pub small : string < 2 ^ 85
  pub was : call ≡ Offer card channel epoch (bytes_of_string string)
  pub is : inverted ≡ Offer card channel epoch (bytes_of_string (inverse string))

-- alike call by call, but that any of their strings may be inverted
abbrev pub AlikeCalls : List Call → List Call → Type 0
AlikeCalls [] [] = Unit
AlikeCalls [] (d ∷ ds) = ⊥
AlikeCalls (c ∷ cs) [] = ⊥
AlikeCalls (c ∷ cs) (d ∷ ds) = ((d ≡ c) ⊎ InverseOffered c d) × AlikeCalls cs ds

-- two answers that differ in the polarity alone
pub record ButPolarity (said other : List ℕ) : Type 0 where
  pub answer : Result TakenString Refusal
  pub was : said ≡ answer_paper answer
  pub is : other ≡ answer_paper (other_way answer)

-- the answers, call by call
abbrev pub AlikeSaid : List Said → List Said → Type 0
AlikeSaid [] [] = Unit
AlikeSaid [] (y ∷ other) = ⊥
AlikeSaid (x ∷ all) [] = ⊥
AlikeSaid (x ∷ all) (y ∷ other) = ((y ≡ x) ⊎ (InverseOffered x.call y.call × ButPolarity x.answer y.answer)) × AlikeSaid all other

-- from any station, two histories that are alike but for inverted strings: held frames, records, tallies and book are the same, and of the answers all but
-- the polarity
pub record AlikeRuns (from : Station) (all other : List Said) (st st' : Station) : Type 0 where
  pub station : st' ≡ st
  pub answers : AlikeSaid all other

abbrev pub EveryHistoryAlike : Type 0
EveryHistoryAlike =
    (from : Station) (all other : List Said) (st st' : Station) → RunsFrom from all st → RunsFrom from other st' → AlikeCalls (calls_of all) (calls_of other)
    → AlikeRuns from all other st st'
