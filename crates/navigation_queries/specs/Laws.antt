-- What is proved of the two queries: one record, `laws` in `proofs/Laws.antt`. Of every station, and over any calls.
-- Assumes nothing.
use Rattle.std.specs.Prelude.{ℕ, Bool, true, ◌&&◌, List, [], ◌∷◌, ◌≡◌, Result, ℤ}
use Rattle.strings.specs.declared.Refusal.{Refusal}
use Rattle.records.specs.declared.named.String5.{String5}
use Rattle.strings.specs.Pick.{pick}
use Rattle.strings.specs.Numbers.{numbers_of, Exactly}
use Rattle.channel.specs.Frame.{Frame}
use Rattle.channel.specs.History.{held_after, makes_record}
use Rattle.station.specs.declared.Station.{Station}
use Rattle.station.specs.Station.{is_served}
use Rattle.station.specs.Queries.{entry_tests}
use Rattle.station.specs.Demand1.{OneAnswer}
use Rattle.station.specs.History.{Call, calls_on, Runs}
use Rattle.station.specs.Isolation.{AgreeFor}
use Rattle.navigation_queries.specs.Five.{five_of, five_at, five_tests, five_paper, FindsFive}
use Rattle.navigation_queries.specs.Carrier.{carrier_paper, FindsCarrier}

-- ---- over the calls
-- a held frame is the record's own, and has string 5: "When strings 1..4 of the held frame are all present and their words are in range, they become the
-- channel's immediate record", so it is the record's exactly where they are; "once the row holds another frame its string 5 counts as missing"
abbrev pub has_both : Frame → Bool
has_both f = makes_record f && f.has 5

-- what a card is answered about one of its channels, by the frame that the calls on this channel leave: its string 5, or 13
pub record FiveAfter (cs : List Call) (st : Station) (card c : ℕ) : Type 0 where
  pub answer : (r : Result String5 Refusal) → FindsFive st card c r → five_paper r ≡ pick (has_both (held_after (calls_on c cs))) (0 ∷ []) (13 ∷ [])
  pub words : five_at st c ≡ five_of ((held_after (calls_on c cs)).text 5)

pub record AllLaws : Type 0 where
  -- "Every call answers, for every input and every station it is handed", and no second answer fits
  pub five_answers : (st : Station) (card c : ℕ) → OneAnswer (Result String5 Refusal) (FindsFive st card c)
  pub carrier_answers : (st : Station) (card slot : ℕ) → OneAnswer (Result ℤ Refusal) (FindsCarrier st card slot)
  -- "The first that fits is given, and given only then", in this order
  pub five_exactly : (st : Station) (card c : ℕ) (r : Result String5 Refusal) → FindsFive st card c r → Exactly (five_tests st card c) (five_paper r)
  pub carrier_exactly : (st : Station) (card slot : ℕ) (r : Result ℤ Refusal) → FindsCarrier st card slot r → Exactly (entry_tests st card slot) (carrier_paper r)
  pub five_order : (st : Station) (card c : ℕ) → numbers_of (five_tests st card c) ≡ 16 ∷ 1 ∷ 15 ∷ 13 ∷ []
  pub carrier_order : (st : Station) (card slot : ℕ) → numbers_of (entry_tests st card slot) ≡ 16 ∷ 14 ∷ 13 ∷ []
  -- string 5 is there exactly where the held frame is still the record's and has it
  pub five_after : (cs : List Call) (st : Station) → Runs cs st → (card c : ℕ) → is_served card c ≡ true → FiveAfter cs st card c
  -- "Whatever one card offers or resets, the other's row answers .. are the same": of two stations that agree for a card, on every channel number. A carrier
  -- number is the book's, and may differ
  pub fives_alike : (card : ℕ) (st st' : Station) → AgreeFor card st st' → (c : ℕ) (r r' : Result String5 Refusal) → FindsFive st card c r → FindsFive st' card c r' → r ≡ r'
