-- Calls and blocks made on a station one after the other, the latest first, with their answers: "demand 3 reads a block as its calls". The latest call of
-- a block is the last that is written. Proved as `blocks_as_calls` in `proofs/Histories.antt`.
-- Assumes nothing.
use Rattle.std.specs.Prelude.{ℕ, ◌≤◌, true, List, [], ◌∷◌, ◌++◌, ◌≡◌, Result, ⊤}
use Rattle.fields.specs.declared.Why.{Why}
use Rattle.strings.specs.Calls.{written_paper}
use Rattle.fields.specs.Block.{Call, Offer, Reset, calls_in}
use Rattle.book.specs.Book.{slots}
use Rattle.channel.specs.Offers.{answer_paper}
use Rattle.station.specs.declared.Station.{Station}
use Rattle.station.specs.declared.Stepped.{Stepped}
use Rattle.station.specs.declared.Emptied.{Emptied}
use Rattle.station.specs.Station.{fresh_station, is_served, OffersTo, Resets}
use Rattle.station.specs.Queries.{kept_at, health_by}
use Rattle.station.specs.History.{Call as Made, Offer as MadeOffer, Reset as MadeReset, channel_of, station_of}
use Rattle.station.specs.Said.{Said, said, RunsFrom, calls_of}
use Rattle.station.specs.Demand1.{WellMade}
use Rattle.station.specs.Demand2.{Tallied, Counted}
use Rattle.station.specs.Demand3.{Answered, Exchanged, SameCalls, Reordered, SameShown, BookRule}
use Rattle.station.specs.Isolation.{AgreeFor, said_by, Isolated}
use Rattle.station.specs.Health.{HealthIn}
use Rattle.station.specs.Summary.{SummaryRule}
use Rattle.blocks.specs.declared.Handed.{Handed}
use Rattle.blocks.specs.Handing.{HandsOver}
use Rattle.blocks.specs.Along.{Along}

-- what is done with a station: a call, with its answer; or a block that a card hands over, with the answers that its calls gave, in the order written
pub data Event : Type 0 where
  Calls : Said → Event
  Hands : (card : ℕ) → (block : List ℕ) → (answers : List (List ℕ)) → Event

-- from this station, these lead to that one: each answer and each station is one that the contract of its call allows. Of a block the station is the one that
-- it leaves when it is handed over whole, and the answers are those of its fields one by one
pub data RunsBy (from : Station) : List Event → Station → Type 0 where
  none : RunsBy from [] from
  offers : (card c epoch : ℕ) (s : List ℕ) (before : List Event) (st : Station) (r : Stepped) → RunsBy from before st → OffersTo st card c epoch s r
      → RunsBy from (Calls (said (MadeOffer card c epoch s) (answer_paper r.answer)) ∷ before) r.station
  resets : (card c : ℕ) (before : List Event) (st : Station) (r : Emptied) → RunsBy from before st → Resets st card c r
      → RunsBy from (Calls (said (MadeReset card c) (written_paper r.answer)) ∷ before) r.station
  hands : (card : ℕ) (block : List ℕ) (answers : List (List ℕ)) (before : List Event) (st : Station) (r : Handed) (last : Station) (ended : Result ⊤ (Why × ℕ))
      → RunsBy from before st → HandsOver st card block r → Along card block st 0 answers last ended
      → RunsBy from (Hands card block answers ∷ before) r.station

-- ---- the calls alone, each with its answer
abbrev pub made : ℕ → Call → Made
made card (Offer c epoch s) = MadeOffer card c epoch s
made card (Reset c) = MadeReset card c

-- calls in the order written, after those before: the last is the latest
unfoldable pub said_then : List Said → ℕ → List Call → List (List ℕ) → List Said
said_then before card [] answers = before
said_then before card (call ∷ calls) [] = said_then (said (made card call) [] ∷ before) card calls []
said_then before card (call ∷ calls) (answer ∷ answers) = said_then (said (made card call) answer ∷ before) card calls answers

unfoldable pub said_in : List Event → List Said
said_in [] = []
said_in (Calls x ∷ before) = x ∷ said_in before
said_in (Hands card block answers ∷ before) = said_then (said_in before) card (calls_in block) answers

abbrev pub calls_by : List Event → List Made
calls_by h = calls_of (said_in h)

-- ---- "demand 3 reads a block as its calls": all that is demanded over histories
pub record BlocksAsCalls : Type 0 where
  -- from any station, calls and blocks are a run of their calls with these answers
  pub as_calls : (from : Station) (h : List Event) (st : Station) → RunsBy from h st → RunsFrom from (said_in h) st
  -- and from a fresh one: which leave one station, well made, and determine each answer
  pub one_station : (h : List Event) (st : Station) → RunsBy fresh_station h st → st ≡ station_of (calls_by h)
  pub well_made : (h : List Event) (st : Station) → RunsBy fresh_station h st → WellMade st
  pub answers : (h : List Event) (st : Station) → RunsBy fresh_station h st → Answered (calls_by h) st
  -- "The four tallies are the true counts since the channel's reset"
  pub tallies : (h : List Event) (st : Station) → RunsBy fresh_station h st → (card c : ℕ) → is_served card c ≡ true → Tallied (said_in h) st c
  pub counts : (h : List Event) (st : Station) → RunsBy fresh_station h st → (card c : ℕ) → is_served card c ≡ true → Counted (calls_by h) st c
  -- "Exchange two neighbouring calls on different channels: each call's answer and the whole station afterwards are unchanged": wherever the two stand, in
  -- one block, at the edge of one, or in two blocks
  pub exchange : (later earlier : List Said) (x y : Said) (h : List Event) (st : Station) → (channel_of x.call ≡ channel_of y.call → ⊥)
      → RunsBy fresh_station h st → said_in h ≡ later ++ (x ∷ y ∷ earlier) → Exchanged later earlier x y st
  -- and however the calls are packed in blocks when they are made in the other order
  pub packed : (later earlier : List Said) (x y : Said) (g h : List Event) (st st' : Station) → (channel_of x.call ≡ channel_of y.call → ⊥)
      → RunsBy fresh_station g st → said_in g ≡ later ++ (x ∷ y ∷ earlier) → RunsBy fresh_station h st' → calls_by h ≡ calls_of (later ++ (y ∷ x ∷ earlier))
      → (said_in h ≡ later ++ (y ∷ x ∷ earlier)) × (st' ≡ st)
  pub reordering : (g h : List Event) (st st' : Station) → RunsBy fresh_station g st → RunsBy fresh_station h st' → SameCalls (calls_by g) (calls_by h)
      → Reordered (said_in g) (said_in h) st st'
  pub two_stations : (g h : List Event) (st st' : Station) → RunsBy fresh_station g st → RunsBy fresh_station h st' → SameShown (calls_by g) (calls_by h)
      → st.book ≡ st'.book
  -- "at all times an almanac slot holds the greatest entry .. that any channel has shown since the start"
  pub book : (h : List Event) (st : Station) → RunsBy fresh_station h st → (slot : ℕ) → 1 ≤ slot → slot ≤ slots → BookRule (calls_by h) st slot
  -- "The summary must equal what the full walk gives, for every station reached from a fresh one."
  pub summary : (h : List Event) (st : Station) → RunsBy fresh_station h st → SummaryRule (calls_by h) st
  pub health : (h : List Event) (st : Station) → RunsBy fresh_station h st → (card c : ℕ) → is_served card c ≡ true
      → HealthIn (calls_by h) c (health_by (kept_at st c) st.book)
  -- "Whatever one card offers or resets, the other's row answers, refusals, records and tallies are the same": from any two stations that agree for a card,
  -- however its calls and the others' are packed in blocks
  pub isolated : (card : ℕ) (from from' : Station) (g h : List Event) (st st' : Station) → WellMade from → WellMade from' → AgreeFor card from from'
      → RunsBy from g st → RunsBy from' h st' → calls_of (said_by card (said_in g)) ≡ calls_of (said_by card (said_in h))
      → Isolated card (said_in g) (said_in h) st st'
