-- What holds of every field that is done on a lent station, and of a host that goes through a block with `spineyarrow_field` and `spineyarrow_next`, whatever
-- the station, the card and the bytes. Proved as `laws` in `proofs/Laws.antt`.
-- Assumes nothing.
use Rattle.std.specs.Prelude.{ℕ, ◌+◌, ◌/◌, ◌%◌, List, [], ◌∷◌, map, ◌↔◌, ◌≡◌}
use Rattle.strings.specs.Pick.{pick, is_one_of}
use Rattle.strings.specs.Calls.{written_paper}
use Rattle.fields.specs.Fields.{size_at, why_number}
use Rattle.fields.specs.Block.{calls_in}
use Rattle.channel.specs.Offers.{answer_paper}
use Rattle.told.specs.Told.{packed}
use Rattle.station.specs.declared.Station.{Station}
use Rattle.blocks.specs.declared.Told.{Told}
use Rattle.blocks.specs.declared.Told.TheVariants.{End, Offered, Emptied, Remark, Refused}
use Rattle.blocks.specs.declared.Taken.{Taken}
use Rattle.blocks.specs.declared.Handed.{Handed}
use Rattle.blocks.specs.Taking.{answers_to, told_paper, Takes}
use Rattle.blocks.specs.Handing.{HandsOver}
use Rattle.lent_blocks.specs.Taking.{numbers_in, TakesLent}

-- a field taken by value: what it led to in one number, and the station after it in the place of the one before
pub record AsTaken (st : Station) (card : ℕ) (block : List ℕ) (at : ℕ) (st' : Station) (r : ℕ) : Type 0 where
  pub taken : Taken
  pub takes : Takes st card block at taken
  pub answer : r ≡ packed (numbers_in (told_paper taken.told))
  pub station : st' ≡ taken.station

-- 0 at the end of the block, the tag of an offer, a reset or a remark, or what says no to the field
abbrev pub lowest_of : Told → ℕ
lowest_of End = 0
lowest_of (Offered answer) = 1
lowest_of (Emptied answer) = 2
lowest_of Remark = 3
lowest_of (Refused why at) = why_number why

-- the numbers of a call's own answer, as `spineyarrow_offer` and `spineyarrow_reset` give them
abbrev pub above_of : Told → ℕ
above_of End = 0
above_of (Offered answer) = packed (answer_paper answer)
above_of (Emptied answer) = packed (written_paper answer)
above_of Remark = 0
above_of (Refused why at) = 0

-- a host goes through a block from a place on, for a card, field by field, until the place does not move: the numbers that it gets, and the last station
pub data GoesThrough (card : ℕ) (block : List ℕ) : Station → ℕ → List ℕ → Station → Type 0 where
  stops : (st : Station) (at : ℕ) (st' : Station) (r : ℕ) → TakesLent st card block at st' r → at + size_at block at ≡ at → GoesThrough card block st at (r ∷ []) st'
  goes : (st : Station) (at : ℕ) (st' : Station) (r : ℕ) (rs : List ℕ) (last : Station) → TakesLent st card block at st' r → (at + size_at block at ≡ at → ⊥)
      → GoesThrough card block st' (at + size_at block at) rs last → GoesThrough card block st at (r ∷ rs) last

-- of these numbers the host takes those of an offer or a reset, 1 or 2 in the lowest byte, and reads the answer above it
abbrev pub answers_read : List ℕ → List ℕ
answers_read [] = []
answers_read (r ∷ rs) = pick (is_one_of (1 ∷ 2 ∷ []) (r % 256)) (r / 256 ∷ answers_read rs) (answers_read rs)

pub record Laws : Type 0 where
  -- a field done on a lent station is the field taken by value, and the other way round
  pub as_taken : (st : Station) (card : ℕ) (block : List ℕ) (at : ℕ) (st' : Station) (r : ℕ) → TakesLent st card block at st' r ↔ AsTaken st card block at st' r
  -- the lowest byte tells which field it was, and what stands above it is its call's answer
  pub lowest : (st : Station) (card : ℕ) (block : List ℕ) (at : ℕ) (st' : Station) (r : ℕ) (q : Taken) → TakesLent st card block at st' r → Takes st card block at q
      → r % 256 ≡ lowest_of q.told
  pub above : (st : Station) (card : ℕ) (block : List ℕ) (at : ℕ) (st' : Station) (r : ℕ) (q : Taken) → TakesLent st card block at st' r → Takes st card block at q
      → r / 256 ≡ above_of q.told
  -- a host that goes through a block has the station that the whole block is handed over to, and reads the answers of its calls one by one
  pub same_station : (st : Station) (card : ℕ) (block : List ℕ) (rs : List ℕ) (last : Station) (h : Handed) → GoesThrough card block st 0 rs last → HandsOver st card block h
      → last ≡ h.station
  pub same_answers : (st : Station) (card : ℕ) (block : List ℕ) (rs : List ℕ) (last : Station) → GoesThrough card block st 0 rs last
      → answers_read rs ≡ map packed (answers_to st card (calls_in block))
