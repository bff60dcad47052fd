-- The navigation file of a capture (request 11): which channels are asked for their record and when, which of the records are written, and the file's bytes.
-- Of any card, any station at the start and any bytes.
-- Assumes nothing.
use Rattle.std.specs.Prelude.{ℕ, zero, suc, ◌*◌, ◌/◌, Bool, not, ◌&&◌, List, [], ◌∷◌, ◌++◌, eqb, length, get_or, set, take, drop, replicate}
use Rattle.strings.specs.Pick.{pick}
use Rattle.strings.specs.Numbers.{first_of}
use Rattle.fields.specs.Sixteen.{channel_in, epoch_in, symbols_in}
use Rattle.station.specs.declared.Station.{Station}
use Rattle.station.specs.Station.{channels, fresh_station, station_after}
use Rattle.navigation.specs.Writes.{n_at, quarter_at, record_bytes, record_tests, text_at}
use Rattle.navfile.specs.Header.{header}

-- ---- the capture: record k of it, counted from 0
abbrev pub record_at : List ℕ → ℕ → List ℕ
record_at input k = take 16 (drop (k * 16) input)

-- how many there are; bytes left over are no record
abbrev pub records_in : List ℕ → ℕ
records_in input = length input / 16

-- a record offered by a card, refused or not
abbrev pub offered : ℕ → Station → List ℕ → Station
offered card st rec = station_after st card (channel_in rec) (epoch_in rec) (symbols_in rec)

-- the station after the first k records
unfoldable pub station_at : ℕ → Station → List ℕ → ℕ → Station
station_at card st input zero = st
station_at card st input (suc k) = offered card (station_at card st input k) (record_at input k)

abbrev pub station_in : ℕ → Station → List ℕ → Station
station_in card st input = station_at card st input (records_in input)

-- ---- the moments at which a channel is asked for its record
pub record Ask : Type 0 where
  pub station : Station
  pub channel : ℕ

abbrev pub ask_of : Station → ℕ → Ask
ask_of st c = record { station = st; channel = c }

-- before each record of the capture is offered, its channel is asked
abbrev pub ask_before : ℕ → Station → List ℕ → Ask
ask_before card st rec = ask_of st (channel_in rec)

unfoldable pub asks_at : ℕ → Station → List ℕ → ℕ → List Ask
asks_at card st input zero = []
asks_at card st input (suc k) = asks_at card st input k ++ (ask_before card (station_at card st input k) (record_at input k) ∷ [])

abbrev pub asks_in : ℕ → Station → List ℕ → List Ask
asks_in card st input = asks_at card st input (records_in input)

-- and at the end all channels, the lowest first; those of the other card are refused
unfoldable pub asks_up_to : Station → ℕ → List Ask
asks_up_to st zero = []
asks_up_to st (suc c) = asks_up_to st c ++ (ask_of st c ∷ [])

abbrev pub last_asks : Station → List Ask
last_asks st = asks_up_to st channels

-- ---- what is asked for
-- the satellite and the epoch of the record, as its answer tells them, and its four lines
abbrev pub satellite_of : Ask → ℕ
satellite_of a = n_at a.station a.channel

abbrev pub epoch_of : Ask → ℕ
epoch_of a = quarter_at a.station a.channel

abbrev pub lines_of : Ask → List ℕ
lines_of a = text_at a.station a.channel

-- the record is not refused: none of its tests fits
unfoldable pub is_answered : ℕ → Ask → Bool
is_answered card a = eqb (first_of (record_tests a.station card a.channel record_bytes)) 0

-- ---- which are written
-- the epoch last written for each satellite; 0, which is no epoch, where none is
abbrev pub none_written : List ℕ
none_written = replicate 25 0

-- the epoch is another than the one last written
abbrev pub is_other : ℕ → ℕ → Bool
is_other epoch last = not (eqb epoch last)

abbrev pub is_new : List ℕ → Ask → Bool
is_new written a = is_other (epoch_of a) (get_or written (satellite_of a) 0)

unfoldable pub is_due : ℕ → List ℕ → Ask → Bool
is_due card written a = is_answered card a && is_new written a

-- what is written is remembered for its satellite
abbrev pub kept_for : List ℕ → ℕ → ℕ → List ℕ
kept_for written n epoch = set written n epoch

abbrev pub noted : List ℕ → Ask → List ℕ
noted written a = kept_for written (satellite_of a) (epoch_of a)

abbrev pub noted_by : Bool → List ℕ → Ask → List ℕ
noted_by due written a = pick due (noted written a) written

-- of asks one after the other, those whose record is written
unfoldable pub due_of : ℕ → List ℕ → List Ask → List Ask
due_of card written [] = []
due_of card written (a ∷ asks) = pick (is_due card written a) (a ∷ []) [] ++ due_of card (noted_by (is_due card written a) written a) asks

-- and what is remembered after them
unfoldable pub written_after : ℕ → List ℕ → List Ask → List ℕ
written_after card written [] = written
written_after card written (a ∷ asks) = written_after card (noted_by (is_due card written a) written a) asks

-- ---- the file
unfoldable pub texts_of : List Ask → List ℕ
texts_of [] = []
texts_of (a ∷ asks) = lines_of a ++ texts_of asks

-- all that is asked along a capture, from a fresh station
unfoldable pub asks_of : ℕ → List ℕ → List Ask
asks_of card input = asks_in card fresh_station input ++ last_asks (station_in card fresh_station input)

-- the records of its file, in their order
unfoldable pub records_of : ℕ → List ℕ → List Ask
records_of card input = due_of card none_written (asks_of card input)

unfoldable pub file_of : ℕ → List ℕ → List ℕ
file_of card input = header ++ texts_of (records_of card input)
