-- Where a frame shows an entry, and which, in its strings and their bits (the paper, "Frames and the book"): "An entry is shown when a held frame has
-- both halves of a pair and string 5, all words of the three in range, and N4 at least 1". The proof stands in `proofs/ShownExactly.antt`.
-- Assumes nothing.
use Rattle.std.specs.Prelude.{ℕ, ◌+◌, ◌*◌, ◌<◌, true, ◌↔◌, ◌⊎◌, ◌≡◌, length, get_or, Some, None}
use Rattle.strings.specs.Number.{word_of}
use Rattle.book.specs.declared.Entry.{Entry}
use Rattle.book.specs.ShownExactly.{SomeEntry, InRange, EntryShown}
use Rattle.channel.specs.Frame.{Frame}
use Rattle.shows.specs.Shows.{shown_at, shows_of}

-- strings 5, p and p+1 are there, all words in range
pub record ThreeGood (f : Frame) (p : ℕ) : Type 0 where
  pub five : f.has 5 ≡ true
  pub even : f.has p ≡ true
  pub odd : f.has (p + 1) ≡ true
  pub in_range_lem : InRange (f.text 5) (f.text p) (f.text (p + 1))

-- "Pairs 6-7 to 12-13"
abbrev pub IsEarlier : ℕ → Type 0
IsEarlier p = (p ≡ 6) ⊎ ((p ≡ 8) ⊎ ((p ≡ 10) ⊎ (p ≡ 12)))

-- the first satellites of frames 1 to 4 (Table 4.1)
abbrev pub IsFirst : ℕ → Type 0
IsFirst na = (na ≡ 1) ⊎ ((na ≡ 6) ⊎ ((na ≡ 11) ⊎ (na ≡ 16)))

-- "In frames 1..4": string 6 is there, with one of them
pub record InFrames1To4 (f : Frame) : Type 0 where
  pub six : f.has 6 ≡ true
  pub n_a : IsFirst (word_of (f.text 6) 77 73)

pub record FrameShows (f : Frame) : Type 0 where
  -- "Pairs 6-7 to 12-13 need no frame number"
  pub earlier : (p : ℕ) → IsEarlier p → SomeEntry (shown_at f p) ↔ ThreeGood f p
  -- "In frames 1..4, strings 14 and 15 are an almanac pair; in frame 5, or with the number unknown, they are no pair"
  pub last : SomeEntry (shown_at f 14) ↔ (ThreeGood f 14 × InFrames1To4 f)
  -- the slot is the nA of string p, the day that of string 5, and the bits those of strings p and p+1
  pub what : (p slot : ℕ) (e : Entry) → shown_at f p ≡ Some (slot, e) → EntryShown (f.text 5) (f.text p) (f.text (p + 1)) slot e
  -- and these five pairs are all
  pub pairs : (j : ℕ) → j < 5 → get_or (shows_of f) j None ≡ shown_at f (6 + 2 * j)
  pub no_more : length (shows_of f) ≡ 5
