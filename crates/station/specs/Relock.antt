-- Relock on a station (the paper, "Relock"): calls of either card on any channels may come between, and what is supposed and promised of them is read off the
-- answers that they gave. What a good string and a frame's start are stands in the channel's own words.
-- Assumes nothing.
use Rattle.std.specs.Prelude.{ℕ, ◌+◌, ◌%◌, ◌≤◌, List, ◌∷◌, ◌++◌, ◌≡◌, get_or}
use Rattle.channel.specs.Relock.{Heard, number_heard, GoodString, OfStart, FirstOf15}
use Rattle.station.specs.declared.Station.{Station}
use Rattle.station.specs.History.{Call, Offer, Reset}
use Rattle.station.specs.Said.{Said, said, RunsFrom, Among}

-- a string offered to a channel by a card
abbrev pub offer_to : ℕ → ℕ → Heard → Call
offer_to card c h = Offer card c h.epoch h.bytes

-- an answer that says that the string was taken begins with 0
abbrev pub SaysTaken : List ℕ → Type 0
SaysTaken answer = get_or answer 0 1 ≡ 0

-- a good string of the frame that starts at f
abbrev pub GoodOf : ℕ → Heard → Type 0
GoodOf f h = GoodString h × OfStart f h

-- "frames at a steady 15-epoch beat": whatever its phase, it has a first start that is 15 or more after the held start h
abbrev pub EveryBeat : Type 0
EveryBeat = (h phase : ℕ) → (f : ℕ) × (FirstOf15 h f × (f % 15 ≡ phase % 15))

-- what the paper supposes of the calls made since, toward that frame on channel c of the card
pub record Steady (card c f : ℕ) (since : List Said) : Type 0 where
  -- "no reset" of this channel
  pub no_reset : (a : List ℕ) → Among (said (Reset card c) a) since → ⊥
  -- "if nothing else was taken between": what was taken on this channel is of that frame
  pub nothing_else : (h : Heard) (a : List ℕ) → Among (said (offer_to card c h) a) since → SaysTaken a → OfStart f h
  -- "each m of that frame offered once": of two good strings of it, one before the other, the m differ
  pub once : (after before : List Said) (h g : Heard) (a b : List ℕ) → since ≡ after ++ (said (offer_to card c h) a ∷ before)
      → Among (said (offer_to card c g) b) before → GoodOf f h → GoodOf f g → number_heard g ≡ number_heard h → ⊥

-- `st` is the station after the string `taken` was taken on channel c; f is the first start of the beat that is 15 or more after the held start
pub record Relocked (card c f : ℕ) (taken : Heard) (st : Station) : Type 0 where
  -- it "begins by e+29"
  pub in_time : f ≤ taken.epoch + 29
  -- "and its good strings (not refused by 2 to 5) are taken": whatever calls were made since, each good string of it among them was answered so
  pub good_taken : (since : List Said) (st' : Station) → RunsFrom st since st' → Steady card c f since
      → (h : Heard) (a : List ℕ) → Among (said (offer_to card c h) a) since → GoodOf f h → SaysTaken a
