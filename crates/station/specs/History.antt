-- The calls made on a station since it was fresh, the latest first, and what they determine by the paper's rules alone. Cards and channels are
-- labels: nothing here speaks of a row or a station but `Runs` and `station_of`, which say what the calls leave one after the other. Any bytes of any length,
-- any epoch, any card, any channel.
-- Assumes nothing.
use Rattle.std.specs.Prelude.{ℕ, Bool, true, false, ◌&&◌, List, [], ◌∷◌, ◌≡◌, eqb, Some}
use Rattle.strings.specs.Pick.{pick, is_one_of}
use Rattle.book.specs.Entry.{Three, is_below, entry_of}
use Rattle.shows.specs.Shows.{shown_at}
use Rattle.channel.specs.History.{Call as OnChannel, Offer as OfferIt, Reset as ResetIt, held_after, said_to}
use Rattle.station.specs.declared.Station.{Station}
use Rattle.station.specs.declared.Stepped.{Stepped}
use Rattle.station.specs.declared.Emptied.{Emptied}
use Rattle.station.specs.Station.{fresh_station, is_served, shut_says, station_after, OffersTo, station_reset, Resets}

pub data Call : Type 0 where
  Offer : (card channel epoch : ℕ) → (bytes : List ℕ) → Call
  Reset : (card channel : ℕ) → Call

-- the card that asks, and the channel that it names
abbrev pub card_of : Call → ℕ
card_of (Offer card c epoch s) = card
card_of (Reset card c) = card

abbrev pub channel_of : Call → ℕ
channel_of (Offer card c epoch s) = c
channel_of (Reset card c) = c

-- a call without its labels
abbrev pub itself : Call → OnChannel
itself (Offer card c epoch s) = OfferIt epoch s
itself (Reset card c) = ResetIt

-- whether it is let in, and what it is told where it is not
abbrev pub is_let_in : Call → Bool
is_let_in call = is_served (card_of call) (channel_of call)

abbrev pub shut_said : Call → List ℕ
shut_said call = shut_says (card_of call) (channel_of call)

-- ---- which calls are served, by card and channel, is a parameter of what a history shows: so it may have any number of channels
abbrev pub Serving : Type 0
Serving = ℕ → ℕ → Bool

-- the calls on one channel: those that are served on it. A call that is not served is on none
abbrev pub is_by : Serving → ℕ → Call → Bool
is_by serves c call = serves (card_of call) (channel_of call) && eqb (channel_of call) c

unfoldable pub calls_by : Serving → ℕ → List Call → List OnChannel
calls_by serves c [] = []
calls_by serves c (call ∷ cs) = pick (is_by serves c call) (itself call ∷ calls_by serves c cs) (calls_by serves c cs)

-- of a station of two cards: a call on a channel is of the channel's own card
abbrev pub is_on : ℕ → Call → Bool
is_on = is_by is_served

abbrev pub calls_on : ℕ → List Call → List OnChannel
calls_on = calls_by is_served

-- ---- the answer to a call after others, in the paper's numbers: the gate's, or what the calls before on its channel determine
abbrev pub said_on : OnChannel → List OnChannel → List ℕ
said_on (OfferIt epoch s) before = said_to (held_after before) epoch s
said_on ResetIt before = 0 ∷ []

unfoldable pub said_after : List Call → Call → List ℕ
said_after cs call = pick (is_let_in call) (said_on (itself call) (calls_on (channel_of call) cs)) (shut_said call)

-- ---- what was shown
-- the parts of a history up to each of its moments
pub data Part : List OnChannel → List OnChannel → Type 0 where
  whole : (cs : List OnChannel) → Part cs cs
  earlier : (call : OnChannel) (part cs : List OnChannel) → Part part cs → Part part (call ∷ cs)

-- the first strings of the pairs
abbrev pub pairs : List ℕ
pairs = 6 ∷ 8 ∷ 10 ∷ 12 ∷ 14 ∷ []

-- an entry shown for a slot: at a moment, by a channel, as strings 5, p and p+1 of the one frame that this channel then held
pub record ShownBy (serves : Serving) (cs : List Call) (slot : ℕ) (t : Three) : Type 0 where
  pub card : ℕ
  pub channel : ℕ
  pub served : serves card channel ≡ true
  pub moment : List OnChannel
  pub within : Part moment (calls_by serves channel cs)
  pub pair : ℕ
  pub named : is_one_of pairs pair ≡ true
  pub shows : shown_at (held_after moment) pair ≡ Some (slot, entry_of t)

-- the greatest entry shown: "by day, then by the even string's bits 80..9 as a number, then by the odd string's bits 80..10"
pub record GreatestBy (serves : Serving) (cs : List Call) (slot : ℕ) (t : Three) : Type 0 where
  pub shown : ShownBy serves cs slot t
  pub none_above : (u : Three) → ShownBy serves cs slot u → is_below t u ≡ false

-- of a station of two cards
abbrev pub ShownIn : List Call → ℕ → Three → Type 0
ShownIn = ShownBy is_served

abbrev pub Greatest : List Call → ℕ → Three → Type 0
Greatest = GreatestBy is_served

-- ---- the station that the calls leave, one after the other: each leaves what its contract says
pub data Runs : List Call → Station → Type 0 where
  fresh : Runs [] fresh_station
  offering : (card c epoch : ℕ) (s : List ℕ) (cs : List Call) (st : Station) (r : Stepped) → Runs cs st → OffersTo st card c epoch s r
      → Runs (Offer card c epoch s ∷ cs) r.station
  resetting : (card c : ℕ) (cs : List Call) (st : Station) (r : Emptied) → Runs cs st → Resets st card c r → Runs (Reset card c ∷ cs) r.station

-- the same as a function: the station that the calls leave
unfoldable pub station_of : List Call → Station
station_of [] = fresh_station
station_of (Offer card c epoch s ∷ cs) = station_after (station_of cs) card c epoch s
station_of (Reset card c ∷ cs) = station_reset (station_of cs) card c
