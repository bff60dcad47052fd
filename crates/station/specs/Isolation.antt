-- Two cards on one book (request 10): "Whatever one card offers or resets, the other's row answers, refusals, records and tallies are the same; only book
-- entries, the summary, and health, which reads the book, may differ." Of every station. The proof stands in `proofs/Isolation.antt`, and what does
-- differ is computed in the crate `histories`.
-- Assumes nothing.
use Rattle.std.specs.Prelude.{ℕ, ◌<◌, Bool, List, [], ◌∷◌, ◌≡◌, eqb, Result}
use Rattle.tallies.specs.declared.Tallies.{Tallies}
use Rattle.strings.specs.declared.Refusal.{Refusal}
use Rattle.records.specs.declared.named.ImmediateWords.{ImmediateWords}
use Rattle.strings.specs.Pick.{pick}
use Rattle.station.specs.declared.Station.{Station}
use Rattle.station.specs.declared.Stepped.{Stepped}
use Rattle.station.specs.declared.Emptied.{Emptied}
use Rattle.station.specs.Station.{channels, owner_of, row_at, OffersTo, Resets}
use Rattle.station.specs.Queries.{FindsRecord, FindsTallies}
use Rattle.station.specs.Demand1.{WellMade}
use Rattle.station.specs.History.{card_of}
use Rattle.station.specs.Said.{Said, RunsFrom, calls_of}

-- two stations agree for a card where the rows of its channels are equal
abbrev pub AgreeFor : ℕ → Station → Station → Type 0
AgreeFor card st st' = (c : ℕ) → c < channels → owner_of c ≡ card → row_at st c ≡ row_at st' c

-- ---- a call by any other, one of the cards or none, whatever its channel, epoch and bytes: the station after it agrees for this card with the one before
pub record OthersLeave (card : ℕ) (st : Station) : Type 0 where
  pub offers : (other c epoch : ℕ) (s : List ℕ) (r : Stepped) → (other ≡ card → ⊥) → OffersTo st other c epoch s r → AgreeFor card r.station st
  pub resets : (other c : ℕ) (r : Emptied) → (other ≡ card → ⊥) → Resets st other c r → AgreeFor card r.station st

-- ---- of two stations that agree for a card, its own calls are answered alike, on every channel number, and they agree afterwards
pub record AnsweredAlike (card : ℕ) (st st' : Station) : Type 0 where
  pub offers : (c epoch : ℕ) (s : List ℕ) (r r' : Stepped) → OffersTo st card c epoch s r → OffersTo st' card c epoch s r'
      → (r.answer ≡ r'.answer) × AgreeFor card r.station r'.station
  pub resets : (c : ℕ) (r r' : Emptied) → Resets st card c r → Resets st' card c r' → (r.answer ≡ r'.answer) × AgreeFor card r.station r'.station
  pub records : (c : ℕ) (r r' : Result (ImmediateWords × ℕ) Refusal) → FindsRecord st card c r → FindsRecord st' card c r' → r ≡ r'
  pub tallies : (c : ℕ) (r r' : Result Tallies Refusal) → FindsTallies st card c r → FindsTallies st' card c r' → r ≡ r'

-- ---- calls one after the other: a card's own, each with its answer, in their order
abbrev pub is_by : ℕ → Said → Bool
is_by card x = eqb (card_of x.call) card

unfoldable pub said_by : ℕ → List Said → List Said
said_by card [] = []
said_by card (x ∷ before) = pick (is_by card x) (x ∷ said_by card before) (said_by card before)

-- "the other's row answers, refusals, records and tallies are the same": from any two stations that agree for a card, any two lists of calls in which
-- this card's calls are the same in the same order
pub record Isolated (card : ℕ) (all other : List Said) (st st' : Station) : Type 0 where
  -- each of them was answered alike
  pub answers : said_by card all ≡ said_by card other
  -- and the stations agree at the end, so this card's next call is answered alike
  pub agree : AgreeFor card st st'
  pub next : AnsweredAlike card st st'

abbrev pub EveryIsolated : Type 0
EveryIsolated =
    (card : ℕ) (from from' : Station) (all other : List Said) (st st' : Station) → WellMade from → WellMade from' → AgreeFor card from from'
    → RunsFrom from all st → RunsFrom from' other st' → calls_of (said_by card all) ≡ calls_of (said_by card other) → Isolated card all other st st'
