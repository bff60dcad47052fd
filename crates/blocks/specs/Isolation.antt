-- Blocks of two cards on one book (request 10): "Every offer, reset, query and block names the asking card", so each call of a block is the call of the card
-- that hands it over. Of every station and every block; proved as `isolation` in `proofs/Isolation.antt`. Calls and blocks one after the other: `isolated` in
-- `Histories`.
-- Assumes nothing.
use Rattle.std.specs.Prelude.{ℕ, false, List, [], ◌∷◌, ◌≡◌, length, replicate, Result, ⊤}
use Rattle.fields.specs.declared.Why.{Why}
use Rattle.strings.specs.Pick.{pick}
use Rattle.fields.specs.Block.{Call, Offer, Reset, calls_in, end_in}
use Rattle.station.specs.declared.Station.{Station}
use Rattle.station.specs.Station.{is_card, is_served}
use Rattle.station.specs.Demand1.{WellMade}
use Rattle.station.specs.Isolation.{AgreeFor}
use Rattle.blocks.specs.declared.Taken.{Taken}
use Rattle.blocks.specs.declared.Handed.{Handed}
use Rattle.blocks.specs.Taking.{after_calls, Takes}
use Rattle.blocks.specs.Handing.{ended_paper, HandsOver}
use Rattle.blocks.specs.Along.{Along}

-- the calls of a block that are let in: those on its card's own channels
abbrev pub channel_named : Call → ℕ
channel_named (Offer c epoch s) = c
channel_named (Reset c) = c

unfoldable pub let_in : ℕ → List Call → List Call
let_in card [] = []
let_in card (call ∷ calls) = pick (is_served card (channel_named call)) (call ∷ let_in card calls) (let_in card calls)

-- a block by a card that there is not: CARD to each of its calls, the station as it was, and 41 to 43 as for any card
pub record FromNoCard (st : Station) (block : List ℕ) (answers : List (List ℕ)) (last : Station) (ended : Result ⊤ (Why × ℕ)) : Type 0 where
  pub answered : answers ≡ replicate (length (calls_in block)) (16 ∷ [])
  pub station : last ≡ st
  pub end : ended_paper ended ≡ end_in block

-- a block on two stations: the same answers, the same end, and the stations agree for the card
pub record HandedAlike (card : ℕ) (answers answers' : List (List ℕ)) (last last' : Station) (ended ended' : Result ⊤ (Why × ℕ)) : Type 0 where
  pub same_answers : answers ≡ answers'
  pub same_end : ended ≡ ended'
  pub agree : AgreeFor card last last'

pub record Isolation : Type 0 where
  -- CHANNEL "changes nothing at all", OWNER "changes nothing" and CARD "changes nothing either": a block leaves what its calls leave that are let in
  pub shut_out : (st : Station) (card : ℕ) (block : List ℕ) (r : Handed) → HandsOver st card block r
      → r.station ≡ after_calls st card (let_in card (calls_in block))
  pub no_card : (st : Station) (card : ℕ) (block : List ℕ) (answers : List (List ℕ)) (last : Station) (ended : Result ⊤ (Why × ℕ)) → is_card card ≡ false
      → Along card block st 0 answers last ended → FromNoCard st block answers last ended
  -- "Whatever one card offers or resets, the other's row answers, refusals, records and tallies are the same": a block, and each field of it, by any other
  -- card leaves a card's rows,
  pub others_leave : (card : ℕ) (st : Station) (other : ℕ) (block : List ℕ) (r : Handed) → (other ≡ card → ⊥) → HandsOver st other block r
      → AgreeFor card r.station st
  pub others_field : (card : ℕ) (st : Station) (other : ℕ) (block : List ℕ) (at : ℕ) (r : Taken) → (other ≡ card → ⊥) → Takes st other block at r
      → AgreeFor card r.station st
  -- and one of its own is answered alike on two stations that agree for it: field by field, and whole
  pub own_field : (card : ℕ) (st st' : Station) (block : List ℕ) (at : ℕ) (r r' : Taken) → WellMade st → WellMade st' → AgreeFor card st st'
      → Takes st card block at r → Takes st' card block at r' → (r.told ≡ r'.told) × ((r.after ≡ r'.after) × AgreeFor card r.station r'.station)
  pub own_block : (card : ℕ) (st st' : Station) (block : List ℕ) (answers answers' : List (List ℕ)) (last last' : Station) (ended ended' : Result ⊤ (Why × ℕ))
      → WellMade st → WellMade st' → AgreeFor card st st' → Along card block st 0 answers last ended → Along card block st' 0 answers' last' ended'
      → HandedAlike card answers answers' last last' ended ended'
