-- Two sites, one station (request 13): "two books from separate fresh stations join to the book of one station with enough channels that was given both
-- histories, each channel of each site on a channel of its own". Over histories whose channels are free labels, any number of them; and of the code, two
-- sites of one card each and a station of two. Proved as `two_sites` and `one_station` in `proofs/TwoSites.antt`.
-- Assumes nothing.
use Rattle.std.specs.Prelude.{ℕ, ◌+◌, ◌≤◌, true, List, [], ◌∷◌, map, ◌⊎◌, ◌≡◌, length}
use Rattle.book.specs.declared.Entry.{Entry}
use Rattle.book.specs.declared.Book.{Book}
use Rattle.book.specs.Entry.{Three, meaning, entry_of, blank}
use Rattle.book.specs.Book.{slots, in_slot}
use Rattle.summary.specs.Walk.{walk_of}
use Rattle.channel.specs.History.{Call as OnChannel}
use Rattle.station.specs.declared.Station.{Station}
use Rattle.station.specs.Station.{is_served, card_channels}
use Rattle.station.specs.History.{Call, Offer, Reset, card_of, channel_of, Serving, calls_by, ShownBy, GreatestBy, Runs}
use Rattle.sites.specs.Joining.{join_books}

-- ---- the book that a history makes, by the rule of the client's third demand, for whatever channels are served: a slot holds the greatest entry shown, or
-- none where none was
pub record Filled (serves : Serving) (cs : List Call) (slot : ℕ) (e : Entry) : Type 0 where
  pub greatest : GreatestBy serves cs slot (meaning e)
  -- the struct is that of its three numbers
  pub told : entry_of (meaning e) ≡ e

pub record Unfilled (serves : Serving) (cs : List Call) (slot : ℕ) (e : Entry) : Type 0 where
  pub none : (t : Three) → ShownBy serves cs slot t → ⊥
  pub empty : e ≡ blank

pub record BookOf (serves : Serving) (cs : List Call) (b : Book) : Type 0 where
  pub long : length b.entries ≡ slots
  pub slot : (k : ℕ) → 1 ≤ k → k ≤ slots → Filled serves cs k (in_slot b k) ⊎ Unfilled serves cs k (in_slot b k)

-- ---- a history that was given both histories
-- a channel of a history has exactly these calls, in their order
pub record Has (serves : Serving) (cs : List Call) (calls : List OnChannel) : Type 0 where
  pub card : ℕ
  pub channel : ℕ
  pub served : serves card channel ≡ true
  pub its : calls_by serves channel cs ≡ calls

-- each channel of each site, where there is a call on it, is a channel of the one, with its calls in its own order, however they are mixed with others; and
-- nothing else is served. Whether two of them share a channel with like calls is not asked
pub record GivenBoth (first : Serving) (cs : List Call) (second : Serving) (ds : List Call) (one : Serving) (es : List Call) : Type 0 where
  pub from_first : (card c : ℕ) → first card c ≡ true → (calls_by first c cs ≡ []) ⊎ Has one es (calls_by first c cs)
  pub from_second : (card c : ℕ) → second card c ≡ true → (calls_by second c ds ≡ []) ⊎ Has one es (calls_by second c ds)
  pub nothing_else : (card c : ℕ) → one card c ≡ true
      → (calls_by one c es ≡ []) ⊎ (Has first cs (calls_by one c es) ⊎ Has second ds (calls_by one c es))

-- the join of the two books is the book of the one, and no other book is
pub record JoinIsBook (one : Serving) (es : List Call) (a b : Book) : Type 0 where
  pub book : BookOf one es (join_books a b)
  pub only : (c : Book) → BookOf one es c → c ≡ join_books a b

abbrev pub EveryTwoSites : Type 0
EveryTwoSites = (first second one : Serving) (cs ds es : List Call) → GivenBoth first cs second ds one es
    → (a b : Book) → BookOf first cs a → BookOf second ds b → JoinIsBook one es a b

-- a fresh station's book after any calls is such a book
abbrev pub EveryStation : Type 0
EveryStation = (cs : List Call) (st : Station) → Runs cs st → BookOf is_served cs st.book

-- ---- of the code: two histories of card one's calls, each on a fresh station of its own
abbrev pub OfCardOne : List Call → Type 0
OfCardOne [] = Unit
OfCardOne (call ∷ cs) = ((card_of call ≡ 1) × (channel_of call ≤ 23)) × OfCardOne cs

-- and one station of two cards that heard the second by card two, on channels 24 higher
abbrev pub by_card_two : Call → Call
by_card_two (Offer card c epoch s) = Offer 2 (c + card_channels) epoch s
by_card_two (Reset card c) = Reset 2 (c + card_channels)

-- interleaved in any way
pub data Mixed : List Call → List Call → List Call → Type 0 where
  none : Mixed [] [] []
  first : (call : Call) (cs ds es : List Call) → Mixed cs ds es → Mixed (call ∷ cs) ds (call ∷ es)
  second : (call : Call) (cs ds es : List Call) → Mixed cs ds es → Mixed cs (call ∷ ds) (call ∷ es)

-- has the joined book, and its walk for a summary
pub record OneStation (a b one : Station) : Type 0 where
  pub book : one.book ≡ join_books a.book b.book
  pub summary : one.summary ≡ walk_of (join_books a.book b.book).entries

abbrev pub EveryTwoCards : Type 0
EveryTwoCards = (cs ds es : List Call) (a b one : Station) → OfCardOne cs → OfCardOne ds → Mixed cs (map by_card_two ds) es
    → Runs cs a → Runs ds b → Runs es one → OneStation a b one
