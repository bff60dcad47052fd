-- What is proved of the navigation file of any capture, offered by either card or by none (request 11). The proofs stand in `proofs/`.
-- Assumes nothing.
use Rattle.std.specs.Prelude.{ℕ, suc, ◌+◌, ◌*◌, ◌%◌, ◌≤◌, ◌<◌, true, ◌≡◌, eqb, length, get_or, take, drop, Ok}
use mathlib.Core.List.{List, [], ◌∷◌, ◌++◌, Memᴰ}
use Rattle.strings.specs.Pick.{pick}
use Rattle.station.specs.Station.{fresh_station}
use Rattle.navigation.specs.Writes.{n_at, quarter_at, record_bytes, Writes}
use Rattle.navfile.specs.declared.Office.{Office}
use Rattle.navfile.specs.Header.{header_bytes, header}
use Rattle.navfile.specs.File.{records_in, station_at, Ask, ask_of, satellite_of, epoch_of, lines_of, is_answered, records_of, file_of}
use Rattle.navfile.specs.Calls.{fresh_office, text_in, office_in, last_text}

-- ---- "Nothing is lost": where a channel's record is not refused after some of the capture's records, the file has a record of that satellite and epoch
pub record InFile (card : ℕ) (input : List ℕ) (n quarter : ℕ) : Type 0 where
  pub ask : Ask
  pub is_written : Memᴰ ask (records_of card input)
  pub satellite : satellite_of ask ≡ n
  pub epoch : epoch_of ask ≡ quarter

abbrev pub NothingLost : Type 0
NothingLost = (card : ℕ) (input : List ℕ) (k c : ℕ) → k ≤ records_in input
    → is_answered card (ask_of (station_at card fresh_station input k) c) ≡ true
    → InFile card input (n_at (station_at card fresh_station input k) c) (quarter_at (station_at card fresh_station input k) c)

-- the same in the words of the call that writes a record: what it is answered at any moment of the capture
abbrev pub NoneUnwritten : Type 0
NoneUnwritten = (card : ℕ) (input : List ℕ) (k c n quarter : ℕ) (out out' : List ℕ) → k ≤ records_in input → length out ≡ record_bytes
    → Writes (station_at card fresh_station input k) card c out (Ok (n, quarter)) out' → InFile card input n quarter

-- ---- two records of one satellite that follow one another have two epochs
-- the epochs of one satellite's records, in their order
unfoldable pub epochs_of : ℕ → List Ask → List ℕ
epochs_of n [] = []
epochs_of n (a ∷ asks) = pick (eqb (satellite_of a) n) (epoch_of a ∷ epochs_of n asks) (epochs_of n asks)

abbrev pub NeighboursDiffer : Type 0
NeighboursDiffer = (card : ℕ) (input : List ℕ) (n i : ℕ) → suc i < length (epochs_of n (records_of card input))
    → get_or (epochs_of n (records_of card input)) i 0 ≡ get_or (epochs_of n (records_of card input)) (suc i) 0 → ⊥

-- ---- each record of the file is what the call that writes one leaves at a moment of the capture: after its first k records, on some channel
pub record FromMoment (card : ℕ) (input : List ℕ) (a : Ask) : Type 0 where
  pub k : ℕ
  pub within : k ≤ records_in input
  pub moment : a.station ≡ station_at card fresh_station input k
  pub call : (out : List ℕ) → length out ≡ record_bytes
      → Writes a.station card a.channel out (Ok (satellite_of a, epoch_of a)) (lines_of a)

abbrev pub EachFromMoment : Type 0
EachFromMoment = (card : ℕ) (input : List ℕ) (a : Ask) → Memᴰ a (records_of card input) → FromMoment card input a

-- ---- the file: a header of three lines, and then 320 bytes for each record and nothing more
pub record InPieces (card : ℕ) (input : List ℕ) : Type 0 where
  pub long : length (file_of card input) ≡ header_bytes + length (records_of card input) * record_bytes
  pub first : take header_bytes (file_of card input) ≡ header
  pub piece : (i : ℕ) (a : Ask) → i < length (records_of card input)
      → take record_bytes (drop (header_bytes + i * record_bytes) (file_of card input)) ≡ lines_of (get_or (records_of card input) i a)

abbrev pub EveryFile : Type 0
EveryFile = (card : ℕ) (input : List ℕ) → InPieces card input

-- ---- a capture read in blocks of whole records, of any size, gives the file of the whole: a block and the rest, from any office
pub record Blocks (card : ℕ) (o : Office) (block rest : List ℕ) : Type 0 where
  pub text : text_in card o (block ++ rest) ≡ text_in card o block ++ text_in card (office_in card o block) rest
  pub office : office_in card o (block ++ rest) ≡ office_in card (office_in card o block) rest

abbrev pub InBlocks : Type 0
InBlocks = (card : ℕ) (o : Office) (block rest : List ℕ) → length block % 16 ≡ 0 → Blocks card o block rest

-- and the file is the header, what is written of the capture, and what is written at the end
abbrev pub FileInParts : Type 0
FileInParts = (card : ℕ) (input : List ℕ) → file_of card input ≡ header ++ (text_in card fresh_office input ++ last_text card (office_in card fresh_office input))

-- an empty capture gives the header alone
abbrev pub EmptyCapture : Type 0
EmptyCapture = (card : ℕ) → file_of card [] ≡ header
