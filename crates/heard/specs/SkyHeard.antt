-- A fresh station that hears one satellite's superframe, as `make_sky` writes its line symbols, holds the words that went in (request 12): "Offering the
-- 75 strings in relative form at 75 successive epochs, on one channel of a fresh station, leaves a book with exactly the 24 entries." The proof stands
-- in `proofs/SkyHeard.antt`.
-- Assumes nothing.
use Rattle.std.specs.Prelude.{ℕ, suc, ◌+◌, ◌%◌, ◌^◌, ◌≤◌, ◌<◌, true, List, [], map, ◌≡◌, pos, nat_abs, length, Ok}
use Rattle.channel.specs.Offers.{took}
use Rattle.strings.specs.declared.Verdict.TheVariants.{Clean}
use Rattle.relative.specs.declared.Polarity.TheVariants.{Upright}
use Rattle.words.specs.Immediate.{immediate_of}
use Rattle.book.specs.Entry.{meaning, even_words, odd_words}
use Rattle.book.specs.Shows.{day_of}
use Rattle.book.specs.Book.{in_slot}
use Rattle.immediate.specs.Kept.{has_record}
use Rattle.channel.specs.Row.{empty_row}
use Rattle.superframe.specs.declared.Sky.{Sky}
use Rattle.superframe.specs.Sky.{with_l, entry_at}
use Rattle.sky.specs.Line.{heard_in}
use Rattle.sky.specs.Calls.{MakesSky}
use Rattle.station.specs.declared.Station.{Station}
use Rattle.station.specs.declared.Stepped.{Stepped}
use Rattle.station.specs.Station.{channels, is_served, row_at, OffersTo}
use Rattle.station.specs.Queries.{kept_at}
use Rattle.station.specs.History.{Call, Runs}
use Rattle.heard.specs.Heard.{offers, on_channel, news_of_string, one_day}

-- the strings that a reader gets from line symbols, the first n of them, offered by a card on a channel at n successive epochs, the first at e
abbrev pub line_calls : List ℕ → ℕ → ℕ → ℕ → ℕ → List Call
line_calls out card c e n = map (on_channel card c) (offers (heard_in out) e n [])

-- "their day is string 5's": 1461 x (N4-1) + NA
abbrev pub sky_day : Sky → ℕ
sky_day sky = day_of (nat_abs sky.five.n4) (nat_abs sky.five.na)

-- ---- what a station holds that heard the 75 strings of a sky on channel c, the first at e
pub record SkyLeaves (sky : Sky) (c e : ℕ) (st : Station) : Type 0 where
  -- "a book with exactly the 24 entries": every slot has the day of string 5 and the words of its entry; the sender's l is no part of it
  pub slots : length st.book.entries ≡ 24
  pub day : (k : ℕ) → 1 ≤ k → k ≤ 24 → (in_slot st.book k).day ≡ sky_day sky
  pub even : (k : ℕ) → 1 ≤ k → k ≤ 24 → even_words (meaning (in_slot st.book k)) ≡ (entry_at sky k).even
  pub odd : (k : ℕ) → 1 ≤ k → k ≤ 24 → odd_words (meaning (in_slot st.book k)) ≡ with_l (pos 0) (entry_at sky k).odd
  -- none is empty, and the summary is 24 and that day twice
  pub filled : (k : ℕ) → 1 ≤ k → k ≤ 24 → (in_slot st.book k).day ≡ 0 → ⊥
  pub summary : st.summary ≡ one_day 24 (sky_day sky)
  -- the channel has the record, with the words that went in and the start of frame 5
  pub has_record_lem : has_record (kept_at st c) ≡ true
  pub words : immediate_of (kept_at st c).strings ≡ sky.words
  pub start : (kept_at st c).start ≡ e + 60
  -- and every other row is as fresh
  pub others : (k : ℕ) → k < channels → (k ≡ c → ⊥) → row_at st k ≡ empty_row

-- ---- a fresh station that hears line symbols from epoch e on
pub record SkyHeard (sky : Sky) (out : List ℕ) (card c e : ℕ) : Type 0 where
  -- each string is taken, clean, upright, with its own number; string 4 of each frame builds the record, every other is kept
  pub taken : (i : ℕ) → i < 75 → (st : Station) → Runs (line_calls out card c e i) st
      → (r : Stepped) → OffersTo st card c (e + i) (heard_in out (suc i)) r
      → r.answer ≡ took (i % 15 + 1) Clean (news_of_string (i % 15 + 1)) Upright
  -- and what they leave
  pub leaves : (st : Station) → Runs (line_calls out card c e 75) st → SkyLeaves sky c e st

-- THE STATEMENT: for all words that `make_sky` does not refuse, any channel with its own card, and any first epoch
abbrev pub EverySky : Type 0
EverySky =
    (sky : Sky) (out out' : List ℕ) → MakesSky sky out (Ok tt) out' → (card c e : ℕ) → is_served card c ≡ true → SkyHeard sky out' card c e

-- as the code has it, whose epochs are below 2^32: the last of the 75 is e + 74
abbrev pub EverySkyInCode : Type 0
EverySkyInCode =
    (sky : Sky) (out out' : List ℕ) → MakesSky sky out (Ok tt) out'
    → (card c e : ℕ) → is_served card c ≡ true → e + 74 < 2 ^ 32 → SkyHeard sky out' card c e
