-- A life of a station that lies in the memory of a host in C: any calls on it, the latest first, each with what the host sees of it. Each call does what the
-- contract of its function says. For any memory, any calls and any outputs.
-- Assumes nothing.
use Rattle.std.specs.Prelude.{ℕ, ◌+◌, List, [], ◌∷◌, map, ℤ}
use Rattle.fields.specs.Fields.{size_at}
use Rattle.station.specs.declared.Station.{Station}
use Rattle.lent.specs.Lent.{OffersLent, ResetsLent}
use Rattle.lent_blocks.specs.Taking.{TakesLent}
use Rattle.lent_queries.specs.Lent.{TellsSummary, TellsTallies, TellsEntry, TellsRecord, TellsHealth}
use Rattle.lent_sites.specs.Lent.{FreshLent, JoinsLent, SendsLent}
use Rattle.lent_navigation.specs.Lent.{TellsNavigation}

-- a call that only reads, with what the host hands over; an output is what it holds before the call
pub data Question : Type 0 where
  Next : (block : List ℕ) → (at : ℕ) → Question
  Summary : (card : ℕ) → (out : List ℕ) → Question
  Health : (card channel : ℕ) → Question
  Tallies : (card channel : ℕ) → (out : List ℕ) → Question
  Immediate : (card channel : ℕ) → (words : List ℤ) → (start : ℕ) → Question
  Entry : (card slot : ℕ) → (out : List ℤ) → Question
  Book : (out : List ℕ) → Question
  Navigation : (card channel : ℕ) → (out : List ℕ) → Question

-- any call
pub data LentCall : Type 0 where
  Fresh : LentCall
  Offer : (card channel epoch : ℕ) → (bytes : List ℕ) → LentCall
  Reset : (card channel : ℕ) → LentCall
  Field : (card : ℕ) → (block : List ℕ) → (at : ℕ) → LentCall
  Join : (book : List ℕ) → LentCall
  Ask : Question → LentCall

-- what comes back of a call: nothing, the number, or the number and what the outputs hold after it
pub data Back : Type 0 where
  Nothing : Back
  Number : (r : ℕ) → Back
  Numbers : (r : ℕ) → (out : List ℕ) → Back
  Words : (r : ℕ) → (out : List ℤ) → Back
  Started : (r : ℕ) → (words : List ℤ) → (start : ℕ) → Back

-- what the host sees: the call, and what came back
pub record Seen : Type 0 where
  pub call : LentCall
  pub back : Back

abbrev pub seen : LentCall → Back → Seen
seen call back = record { call = call; back = back }

abbrev pub calls_of : List Seen → List LentCall
calls_of all = map (λ (x : Seen). x.call) all

-- from this station, by these steps, these calls lead to that one
abbrev pub Steps : Type 1
Steps = Station → LentCall → Back → Station → Type 0

pub data Lives (Step : Steps) (from : Station) : List Seen → Station → Type 0 where
  none : Lives Step from [] from
  then : (before : List Seen) (st : Station) (call : LentCall) (back : Back) (st' : Station) → Lives Step from before st → Step st call back st'
      → Lives Step from (seen call back ∷ before) st'

-- ---- the calls by their contracts: those that only read
pub data Tells : Station → Question → Back → Type 0 where
  next : (st : Station) (block : List ℕ) (at : ℕ) → Tells st (Next block at) (Number (at + size_at block at))
  summary : (st : Station) (card : ℕ) (out out' : List ℕ) (r : ℕ) → TellsSummary st card out out' r → Tells st (Summary card out) (Numbers r out')
  health : (st : Station) (card c r : ℕ) → TellsHealth st card c r → Tells st (Health card c) (Number r)
  tallies : (st : Station) (card c : ℕ) (out out' : List ℕ) (r : ℕ) → TellsTallies st card c out out' r → Tells st (Tallies card c out) (Numbers r out')
  immediate : (st : Station) (card c : ℕ) (words : List ℤ) (start : ℕ) (words' : List ℤ) (start' r : ℕ) → TellsRecord st card c words start words' start' r
      → Tells st (Immediate card c words start) (Started r words' start')
  entry : (st : Station) (card k : ℕ) (out out' : List ℤ) (r : ℕ) → TellsEntry st card k out out' r → Tells st (Entry card k out) (Words r out')
  book : (st : Station) (out out' : List ℕ) (r : ℕ) → SendsLent st out out' r → Tells st (Book out) (Numbers r out')
  navigation : (st : Station) (card c : ℕ) (out out' : List ℕ) (r : ℕ) → TellsNavigation st card c out out' r → Tells st (Navigation card c out) (Numbers r out')

-- and all of them
pub data Does : Station → LentCall → Back → Station → Type 0 where
  fresh : (st st' : Station) → FreshLent st' → Does st Fresh Nothing st'
  offer : (st : Station) (card c epoch : ℕ) (s : List ℕ) (st' : Station) (r : ℕ) → OffersLent st card c epoch s st' r → Does st (Offer card c epoch s) (Number r) st'
  reset : (st : Station) (card c : ℕ) (st' : Station) (r : ℕ) → ResetsLent st card c st' r → Does st (Reset card c) (Number r) st'
  field : (st : Station) (card : ℕ) (block : List ℕ) (at : ℕ) (st' : Station) (r : ℕ) → TakesLent st card block at st' r → Does st (Field card block at) (Number r) st'
  join : (st : Station) (s : List ℕ) (st' : Station) (r : ℕ) → JoinsLent st s st' r → Does st (Join s) (Number r) st'
  ask : (st : Station) (q : Question) (back : Back) → Tells st q back → Does st (Ask q) back st

-- A LENT LIFE
abbrev pub LivesLent : Station → List Seen → Station → Type 0
LivesLent from all st = Lives Does from all st
