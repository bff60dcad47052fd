-- Strings of one satellite offered in order, one at each epoch, and what they leave: one frame on a channel, then the five frames of a superframe on a
-- channel of a fresh station. A string is given as a number; nothing here says how it was made.
-- Assumes nothing.
use Rattle.std.specs.Prelude.{ℕ, zero, suc, ◌+◌, ◌-◌, ◌*◌, ◌%◌, ◌^◌, ◌≤◌, ◌<◌, Bool, true, false, not, ◌&&◌, ◌||◌, List, [], ◌∷◌, map, ◌⊎◌, ◌≡◌, eqb, leb, length, Option, None}
use Rattle.channel.specs.Offers.{took}
use Rattle.book.specs.declared.Entry.{Entry}
use Rattle.strings.specs.Pick.{pick}
use Rattle.strings.specs.Hamming.{Encoded}
use Rattle.records.specs.declared.kinds.Kind.TheVariants.{Five, Even, Odd}
use Rattle.words.specs.Calls.{number_in}
use Rattle.book.specs.Entry.{Three, entry_of}
use Rattle.words.specs.Good.{is_good}
use Rattle.book.specs.Shows.{four_years, slot_in, three_of, shown_by}
use Rattle.book.specs.Book.{in_slot}
use Rattle.strings.specs.declared.Verdict.TheVariants.{Clean}
use Rattle.relative.specs.declared.Polarity.TheVariants.{Upright}
use Rattle.channel.specs.declared.News.{News}
use Rattle.channel.specs.declared.News.TheVariants.{Kept, RecordBuilt}
use Rattle.immediate.specs.Kept.{four_good, record_in}
use Rattle.channel.specs.Row.{empty_row}
use Rattle.channel.specs.Frame.{Frame}
use Rattle.channel.specs.History.{Call as OnChannel, Offer as OfferIt, Reset as ResetIt, held_after, said_to}
use Rattle.shows.specs.Shows.{frame_by}
use Rattle.summary.specs.declared.Summary.{Summary}
use Rattle.sky.specs.Line.{relative_bytes}
use Rattle.superframe.specs.Table41.{frame_of_slot, pair_of_slot}
use Rattle.station.specs.declared.Station.{Station}
use Rattle.station.specs.declared.Stepped.{Stepped}
use Rattle.station.specs.Station.{channels, row_at, held_at, OffersTo}
use Rattle.station.specs.Queries.{kept_at}
use Rattle.station.specs.History.{Call, Offer, Reset, Runs}

-- ---- strings that are sent
-- an encoded string with bit 85 at 0, and its number
pub record Sendable (n m : ℕ) : Type 0 where
  pub small : n < 2 ^ 84
  pub encoded : Encoded n
  pub number : number_in n ≡ m

-- bytes 1, .., k offered at the epochs e, .., e+k-1, after the calls before: the latest first
unfoldable pub offers : (ℕ → List ℕ) → ℕ → ℕ → List OnChannel → List OnChannel
offers bytes e zero before = before
offers bytes e (suc k) before = OfferIt (e + k) (bytes (suc k)) ∷ offers bytes e k before

-- strings 1, .., k so, in relative form
abbrev pub in_order : (ℕ → ℕ) → ℕ → ℕ → List OnChannel → List OnChannel
in_order string e k before = offers (λ i. relative_bytes (string i)) e k before

-- ---- one frame
-- fifteen strings, numbered 1..15
abbrev pub OneFrame : (ℕ → ℕ) → Type 0
OneFrame string = (m : ℕ) → 1 ≤ m → m ≤ 15 → Sendable (string m) m

-- a frame that starts at e can begin: none is held, or one that starts 15 or more before
abbrev pub Ready : Frame → ℕ → Type 0
Ready f e = (f.held ≡ false) ⊎ (f.start + 15 ≤ e)

-- the frame that starts at e and has the first k of these strings, and no other
pub record HasFirst (string : ℕ → ℕ) (e k : ℕ) (f : Frame) : Type 0 where
  pub start : f.start ≡ e
  pub has : (m : ℕ) → 1 ≤ m → m ≤ k → f.has m ≡ true
  pub text : (m : ℕ) → 1 ≤ m → m ≤ k → f.text m ≡ string m
  pub rest : (m : ℕ) → k < m → f.has m ≡ false

-- the news of string m: the fourth completes the four
abbrev pub news_in : (ℕ → ℕ) → ℕ → ℕ
news_in string m = pick (eqb m 4) (pick (four_good (string 1) (string 2) (string 3) (string 4)) 2 3) 1

-- each is taken, clean, upright, with its own number, and the frame then has the first of them
pub record FrameHeard (string : ℕ → ℕ) (e : ℕ) (before : List OnChannel) : Type 0 where
  pub said : (k : ℕ) → k < 15
      → said_to (held_after (in_order string e k before)) (e + k) (relative_bytes (string (suc k))) ≡ 0 ∷ suc k ∷ 0 ∷ 0 ∷ news_in string (suc k) ∷ 0 ∷ []
  pub held : (k : ℕ) → 1 ≤ k → k ≤ 15 → (held_after (in_order string e k before)).held ≡ true
  pub first : (k : ℕ) → 1 ≤ k → k ≤ 15 → HasFirst string e k (held_after (in_order string e k before))

-- ---- what a frame shows
-- strings p and p+1 of these are a pair: for 14 by the nA of string 6
abbrev pub is_pair_of : (ℕ → ℕ) → ℕ → Bool
is_pair_of string p = not (eqb p 14) || (leb 1 (frame_by (slot_in (string 6))) && leb (frame_by (slot_in (string 6))) 4)

-- the pair p of a frame that has the first k: both halves and string 5 are there once p+1 is
abbrev pub shown_first : (ℕ → ℕ) → ℕ → ℕ → Option (ℕ × Entry)
shown_first string k p = pick (leb (p + 1) k && is_pair_of string p) (shown_by (string 5) (string p) (string (p + 1))) None

-- ---- five frames: Table 4.1
-- string m of frame g, 0..4, of 75 strings
abbrev pub in_frame : (ℕ → ℕ) → ℕ → ℕ → ℕ
in_frame string g m = string (15 * g + m)

-- the entry of slot k, by the strings alone
abbrev pub entry_in : (ℕ → ℕ) → ℕ → Three
entry_in string k =
    three_of (in_frame string (frame_of_slot k) 5) (in_frame string (frame_of_slot k) (pair_of_slot k)) (in_frame string (frame_of_slot k) (pair_of_slot k + 1))

-- 75 strings by Table 4.1
pub record Superframe (string : ℕ → ℕ) : Type 0 where
  pub sent : (i : ℕ) → 1 ≤ i → i ≤ 75 → Sendable (string i) ((i - 1) % 15 + 1)
  -- strings 1 to 4 of each frame are in range; and string 5, which states N4
  pub four : (g : ℕ) → g < 5 → four_good (in_frame string g 1) (in_frame string g 2) (in_frame string g 3) (in_frame string g 4) ≡ true
  pub five : (g : ℕ) → g < 5 → is_good Five (in_frame string g 5) ≡ true
  pub stated : (g : ℕ) → g < 5 → 1 ≤ four_years (in_frame string g 5)
  -- the two strings of each slot are in range, and the even one names it
  pub even : (k : ℕ) → 1 ≤ k → k ≤ 24 → is_good Even (in_frame string (frame_of_slot k) (pair_of_slot k)) ≡ true
  pub odd : (k : ℕ) → 1 ≤ k → k ≤ 24 → is_good Odd (in_frame string (frame_of_slot k) (pair_of_slot k + 1)) ≡ true
  pub slot : (k : ℕ) → 1 ≤ k → k ≤ 24 → slot_in (in_frame string (frame_of_slot k) (pair_of_slot k)) ≡ k

-- ---- on a channel of a station, by a card
abbrev pub on_channel : ℕ → ℕ → OnChannel → Call
on_channel card c (OfferIt epoch s) = Offer card c epoch s
on_channel card c ResetIt = Reset card c

-- the first n of these strings at n successive epochs, to a fresh station
abbrev pub sky_calls : (ℕ → ℕ) → ℕ → ℕ → ℕ → ℕ → List Call
sky_calls string card c e n = map (on_channel card c) (in_order string e n [])

-- string 4 of each frame builds the record, every other is kept
abbrev pub news_of_string : ℕ → News
news_of_string m = pick (eqb m 4) RecordBuilt Kept

-- each is taken, clean, upright, with its own number
abbrev pub SkyTaken : (ℕ → ℕ) → ℕ → ℕ → ℕ → Type 0
SkyTaken string card c e =
    (i : ℕ) → i < 75 → (st : Station) → Runs (sky_calls string card c e i) st
    → (r : Stepped) → OffersTo st card c (e + i) (relative_bytes (string (suc i))) r
    → r.answer ≡ took (i % 15 + 1) Clean (news_of_string (i % 15 + 1)) Upright

-- the station that they leave: the book has the 24 entries, the channel's row holds frame 5, its four strings and their start, every other row is as fresh
pub record SkyHeld (string : ℕ → ℕ) (c e : ℕ) (st : Station) : Type 0 where
  pub entry : (k : ℕ) → 1 ≤ k → k ≤ 24 → in_slot st.book k ≡ entry_of (entry_in string k)
  pub filled : (k : ℕ) → 1 ≤ k → k ≤ 24 → (in_slot st.book k).day ≡ 0 → ⊥
  pub slots : length st.book.entries ≡ 24
  pub held : (held_at st c).held ≡ true
  pub frame : HasFirst (in_frame string 4) (e + 60) 15 (held_at st c)
  pub kept : record_in (kept_at st c) ≡ in_frame string 4 1 ∷ in_frame string 4 2 ∷ in_frame string 4 3 ∷ in_frame string 4 4 ∷ []
  pub kept_start : (kept_at st c).start ≡ e + 60
  pub others : (k : ℕ) → k < channels → (k ≡ c → ⊥) → row_at st k ≡ empty_row

-- ---- a book of one day, and its summary: "how many slots are filled, the oldest day and the newest"
abbrev pub OneDay : ℕ → Station → Type 0
OneDay d st = (d ≡ 0 → ⊥) × ((k : ℕ) → 1 ≤ k → k ≤ 24 → (in_slot st.book k).day ≡ d)

abbrev pub one_day : ℕ → ℕ → Summary
one_day n d = record { count = n; oldest = d; newest = d }
