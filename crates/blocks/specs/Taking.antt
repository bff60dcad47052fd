-- One field of a block, done on a station (the request "One transfer a second"), by the card that hands the block over: "Every offer, reset, query and block
-- names the asking card". For any station, any card, any bytes and any place.
-- Assumes nothing.
use Rattle.std.specs.Prelude.{ℕ, ◌+◌, List, [], ◌∷◌, ◌≡◌, leb, length, drop}
use Rattle.strings.specs.Pick.{pick}
use Rattle.strings.specs.Numbers.{answer_of}
use Rattle.strings.specs.Calls.{written_paper}
use Rattle.fields.specs.Fields.{tag_in, tests_in, is_good, size_at, why_number}
use Rattle.fields.specs.Block.{Call, Offer, Reset, call_in}
use Rattle.channel.specs.Offers.{answer_paper}
use Rattle.station.specs.declared.Station.{Station}
use Rattle.station.specs.Station.{station_tests, shut_says, told_in, station_after, station_reset}
use Rattle.blocks.specs.declared.Told.{Told}
use Rattle.blocks.specs.declared.Told.TheVariants.{End, Offered, Emptied, Remark, Refused}
use Rattle.blocks.specs.declared.Taken.{Taken}

-- ---- a call that a block asks for, made on a station by a card: its own answer in the paper's numbers, refusals included, and the station after it
unfoldable pub answer_in : Station → ℕ → Call → List ℕ
answer_in st card (Offer c epoch s) = answer_of (station_tests st card c epoch s) (told_in st c epoch s)
answer_in st card (Reset c) = shut_says card c

unfoldable pub after_call : Station → ℕ → Call → Station
after_call st card (Offer c epoch s) = station_after st card c epoch s
after_call st card (Reset c) = station_reset st card c

-- "its calls one by one, in the order written": the station after them, the first made first
unfoldable pub after_calls : Station → ℕ → List Call → Station
after_calls st card [] = st
after_calls st card (call ∷ calls) = after_calls (after_call st card call) card calls

-- and their answers, in that order
unfoldable pub answers_to : Station → ℕ → List Call → List (List ℕ)
answers_to st card [] = []
answers_to st card (call ∷ calls) = answer_in st card call ∷ answers_to (after_call st card call) card calls

-- ---- what a field leads to, in the paper's numbers: 0, its tag and the call's own answer, which a remark has not; 0 and 0 at the end of the block; or the
-- number that says no to the field, and its place
abbrev pub told_paper : Told → List ℕ
told_paper End = 0 ∷ 0 ∷ []
told_paper (Offered answer) = 0 ∷ 1 ∷ answer_paper answer
told_paper (Emptied answer) = 0 ∷ 2 ∷ written_paper answer
told_paper Remark = 0 ∷ 3 ∷ []
told_paper (Refused why at) = why_number why ∷ at ∷ []

-- the answer of the one call among these, if there is one
abbrev pub answer_among : Station → ℕ → List Call → List ℕ
answer_among st card [] = []
answer_among st card (call ∷ calls) = answer_in st card call

-- what the field at a place leads to: at the end of the block, by its tests, and as its call
unfoldable pub field_says : Station → ℕ → List ℕ → ℕ → List ℕ
field_says st card block at =
    let rest = drop at block in
    pick (leb (length block) at) (0 ∷ 0 ∷ []) (answer_of (tests_in at rest) (tag_in rest ∷ answer_among st card (call_in rest)))

-- the calls of the field at a place: none where it is refused, and at the end
unfoldable pub calls_at : List ℕ → ℕ → List Call
calls_at block at = pick (is_good (drop at block)) (call_in (drop at block)) []

pub record Takes (st : Station) (card : ℕ) (block : List ℕ) (at : ℕ) (r : Taken) : Type 0 where
  pub answer : told_paper r.told ≡ field_says st card block at
  pub station : r.station ≡ after_calls st card (calls_at block at)
  pub next : r.after ≡ at + size_at block at

-- ---- one call of it
-- "Tag 1 is an offer .., tag 2 a reset"
abbrev pub tag_of : Call → ℕ
tag_of (Offer c epoch s) = 1
tag_of (Reset c) = 2

pub record Makes (st : Station) (card : ℕ) (call : Call) (after : ℕ) (r : Taken) : Type 0 where
  pub answer : told_paper r.told ≡ 0 ∷ tag_of call ∷ answer_in st card call
  pub station : r.station ≡ after_call st card call
  pub next : r.after ≡ after
