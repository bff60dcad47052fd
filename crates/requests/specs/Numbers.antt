-- The numbers of the requests.
-- Assumes nothing.
use Rattle.std.specs.Prelude.{◌≡◌, ℕ, Bool, false, ◌&&◌, leb, Option, MatchOption}
use Rattle.requests.specs.declared.kinds.Request.{Request}
use Rattle.requests.specs.declared.kinds.Request.TheVariants.{FromRelative, ToRelative, Check, Read, Write, Offer, Reset, Immediate, Entry, Tallies, Health, Fresh, Block, Summary, Float, Floats, Salvage, Navigation, Sky, Chip, Exchange, Join, EntryWords, Five, Carrier}

abbrev pub number_of : Request → ℕ
number_of FromRelative = 1
number_of ToRelative = 2
number_of Check = 3
number_of Read = 4
number_of Write = 5
number_of Offer = 6
number_of Reset = 7
number_of Immediate = 8
number_of Entry = 9
number_of Tallies = 10
number_of Health = 11
number_of Fresh = 12
number_of Block = 13
number_of Summary = 14
number_of Float = 15
number_of Floats = 16
number_of Salvage = 17
number_of Navigation = 18
number_of Sky = 19
number_of Chip = 20
number_of Exchange = 21
number_of Join = 22
number_of EntryWords = 23
number_of Five = 24
number_of Carrier = 25

-- the numbers from 1 to 25
abbrev pub is_request : ℕ → Bool
is_request n = leb 1 n && leb n 25

-- the request that has this number, if one has
abbrev pub Named : ℕ → Option Request → Type 0
Named n r = MatchOption r (is_request n ≡ false) (λ k. number_of k ≡ n)
