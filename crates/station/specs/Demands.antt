-- All that the client demands, whole and in the client's order: one record, proved as `demands` in `proofs/Demands.antt`. The words in quotes are the
-- client's, or the paper's where it says more; what each field says stands in `Demand1`, `Strings`, `Sent`, `EitherWay`, `Words`, `Demand2`, `Demand3`,
-- `Summary`, `Relock` and `Health`.
-- Assumes nothing.
use Rattle.std.specs.Prelude.{ℕ, ◌^◌, ◌≤◌, ◌<◌, true, false, List, ◌∷◌, ◌++◌, ◌≡◌, length, replicate}
use Rattle.strings.specs.Hamming.{Encoded}
use Rattle.strings.specs.Damage.{DamagedExactly}
use Rattle.book.specs.declared.Book.{Book}
use Rattle.book.specs.Book.{slots}
use Rattle.immediate.specs.declared.Immediate.{Immediate}
use Rattle.channel.specs.Offers.{number_said, is_taken, TakenCounted}
use Rattle.channel.specs.Relock.{Heard, FirstOf15}
use Rattle.station.specs.declared.Station.{Station}
use Rattle.station.specs.declared.Stepped.{Stepped}
use Rattle.station.specs.declared.Emptied.{Emptied}
use Rattle.station.specs.Station.{fresh_station, row_at, is_served, OffersTo, Resets}
use Rattle.station.specs.Queries.{kept_at, all_counts, health_by}
use Rattle.station.specs.History.{Call, channel_of, Runs, station_of}
use Rattle.station.specs.Said.{Said, RunsFrom, calls_of, Ran}
use Rattle.station.specs.Demand1.{OneAnswer, StationAnswers, StringsAnswer, StationNumbers, StringNumbers, WellMade, RefusalLeaves, ShutLeaves, NoOutputByte}
use Rattle.station.specs.Strings.{Checking, CheckedAgain, Encoding, Relative}
use Rattle.station.specs.Words.{ByName, RoundTrips, Ranges}
use Rattle.station.specs.Sent.{SentString, HeardAsSent}
use Rattle.station.specs.EitherWay.{EitherWay, EveryHistoryAlike}
use Rattle.station.specs.Demand2.{Tallied, Counted}
use Rattle.station.specs.Demand3.{Answered, Exchanged, SameCalls, Reordered, SameShown, SameBooks, BookRule}
use Rattle.station.specs.Summary.{SummaryRule}
use Rattle.station.specs.Isolation.{AgreeFor, OthersLeave, AnsweredAlike, EveryIsolated}
use Rattle.station.specs.Relock.{EveryBeat, Relocked}
use Rattle.station.specs.Health.{HealthIn, ReservedBit, NeverUsable, RulesDiffer}

pub record AllDemands : Type 0 where
  -- ==== 1. "Every call answers, for every input and every station it is handed."
  pub fresh_answers : OneAnswer Station (λ r. r ≡ fresh_station)
  pub station_answers : (st : Station) → StationAnswers st
  pub strings_answer : StringsAnswer
  -- "Bad input is refused with the number in our paper;"
  pub station_numbers : (st : Station) → StationNumbers st
  pub string_numbers : StringNumbers
  -- where three numbers stand for DAMAGED: "What is refused stays as it was"
  pub damaged_exactly : (n : ℕ) → DamagedExactly n
  -- "a refused string changes nothing but its channel's tallies of strings offered and refused," and "its own cause's tally too"
  pub refused : (st : Station) (card c epoch : ℕ) (s : List ℕ) (r : Stepped) → WellMade st → is_served card c ≡ true → OffersTo st card c epoch s r
      → is_taken r.answer ≡ false → RefusalLeaves st c (number_said r.answer) r.station
  -- "CHANNEL changes nothing at all"; 15 OWNER "changes nothing", and 16 CARD "changes nothing either"
  pub shut_out : (st : Station) (card c : ℕ) → is_served card c ≡ false → ShutLeaves st card c
  -- "and no output byte."
  pub no_output_byte : NoOutputByte
  -- ==== 2. "Strings are checked, repaired,"
  pub checking : (n : ℕ) → n < 2 ^ 85 → Encoded n → (out : List ℕ) → length out ≡ 11 → Checking n out
  pub checked_again : CheckedAgain
  pub encoding : (n : ℕ) → n < 2 ^ 85 → Encoding n
  pub relative : Relative
  -- and so at the station: "single flips repaired, pairs refused, clean strings taken"
  pub sent : (st : Station) (card c epoch n : ℕ) → SentString n → HeardAsSent st card c epoch n
  -- "A string and its inverse now answer alike except in this field, and demand 2 is read so": of every station, and over any calls
  pub either_way : (st : Station) (card c epoch : ℕ) → EitherWay st card c epoch
  pub histories_alike : EveryHistoryAlike
  -- "read and written as GLONASS ICD 5.0 says, sign bits and layouts included."
  pub by_name : ByName
  pub ranges : Ranges
  -- "A record written and read back is the same record; a good string read and written again is the same string, its repair made, but that reserved
  -- bits and minus zeros become plain zeros and the check bits follow."
  pub round_trips : RoundTrips
  -- "The four tallies are the true counts since the channel's reset", "32 bits wide and stay at 4,294,967,295"; and "one such tally for each refusal that
  -- an offer on a valid channel can get"
  pub tallies : (all : List Said) (st : Station) → RunsFrom fresh_station all st → (card c : ℕ) → is_served card c ≡ true → Tallied all st c
  pub counts : (cs : List Call) (st : Station) → Runs cs st → (card c : ℕ) → is_served card c ≡ true → Counted cs st c
  -- of every station: a taken offer moves no cause, and a reset leaves all fourteen at 0
  pub taken_counts : (st : Station) (card c epoch : ℕ) (s : List ℕ) (r : Stepped) → WellMade st → is_served card c ≡ true → OffersTo st card c epoch s r
      → is_taken r.answer ≡ true → TakenCounted r.answer (row_at st c).tallies (row_at r.station c).tallies
  pub reset_counts : (st : Station) (card c : ℕ) (r : Emptied) → WellMade st → is_served card c ≡ true → Resets st card c r
      → all_counts (row_at r.station c).tallies ≡ replicate 14 0
  -- ==== 3. "Start with a fresh station and make any calls that offer a string to, or reset, one of channels 0 to 23.": of the 48 of both cards
  -- whatever the station and the calls, they can be made; a run with its answers is a run of its calls, which leave one station; it is well made; and
  -- the calls before determine each answer
  pub every_run : (st : Station) (cs : List Call) → Ran st cs
  pub said_run : (all : List Said) (st : Station) → RunsFrom fresh_station all st → Runs (calls_of all) st
  pub every : (cs : List Call) → Runs cs (station_of cs)
  pub one_station : (cs : List Call) (st : Station) → Runs cs st → st ≡ station_of cs
  pub made : (cs : List Call) (st : Station) → Runs cs st → WellMade st
  pub answers : (cs : List Call) (st : Station) → Runs cs st → Answered cs st
  -- "Exchange two neighbouring calls on different channels: each call's answer and the whole station afterwards are unchanged."
  pub exchange : (later earlier : List Said) (x y : Said) (st : Station) → (channel_of x.call ≡ channel_of y.call → ⊥)
      → RunsFrom fresh_station (later ++ (x ∷ y ∷ earlier)) st → Exchanged later earlier x y st
  -- "two cards side by side on one antenna", "although each serves its channels in its own order"
  pub reordering : (all other : List Said) (st st' : Station) → RunsFrom fresh_station all st → RunsFrom fresh_station other st'
      → SameCalls (calls_of all) (calls_of other) → Reordered all other st st'
  pub two_stations : (cs ds : List Call) → SameShown cs ds → SameBooks cs ds
  -- "And at all times an almanac slot holds the greatest entry, by day and then by bits, that any channel has shown since the start, both halves and the
  -- day coming from one frame of one channel; a slot is empty exactly when none was shown."
  pub book : (cs : List Call) (st : Station) → Runs cs st → (slot : ℕ) → 1 ≤ slot → slot ≤ slots → BookRule cs st slot
  -- ==== request 5: "The summary must equal what the full walk gives, for every station reached from a fresh one. The exchange rule of demand 3 covers the
  -- summary too.": as part of the whole station it is in `exchange` and `reordering`
  pub summary : (cs : List Call) (st : Station) → Runs cs st → SummaryRule cs st
  -- ==== request 10: "A card reaches its own rows and the book with its summary. Whatever one card offers or resets, the other's row answers, refusals,
  -- records and tallies are the same": another card's call leaves a card's rows; its own calls are answered by its own rows; and so over any calls
  pub others_leave : (card : ℕ) (st : Station) → OthersLeave card st
  pub answered_alike : (card : ℕ) (st st' : Station) → WellMade st → WellMade st' → AgreeFor card st st' → AnsweredAlike card st st'
  pub isolated : EveryIsolated
  -- ==== the paper: "After a string is taken at epoch e, frames at a steady 15-epoch beat are heard again"
  pub every_beat : EveryBeat
  pub relock : (st : Station) (card c : ℕ) (taken : Heard) (r : Stepped) → WellMade st → is_served card c ≡ true
      → OffersTo st card c taken.epoch taken.bytes r → is_taken r.answer ≡ true
      → (f : ℕ) → FirstOf15 (row_at r.station c).start f → Relocked card c f taken r.station
  -- "Without a record, or without a book entry for its n, a channel's satellite is unknown. Otherwise it is usable if .."
  pub health : (cs : List Call) (st : Station) → Runs cs st → (card c : ℕ) → is_served card c ≡ true → HealthIn cs c (health_by (kept_at st c) st.book)
  -- "With M = 00, bit 65 of string 3 is a reserved bit and plays no part in health"; with any other M "usable only if .. l of string 3 is 0"; and nothing
  -- else changed: of any kept record and any book
  pub reserved_bit : ReservedBit
  pub never_usable : NeverUsable
  pub rules_differ : (i : Immediate) (b : Book) → RulesDiffer i b
