-- What is written into a text of an office, piece by piece: of one ask, of one record, of a block of records, and at the end.
-- Assumes nothing.
use Rattle.std.specs.Prelude.{ℕ, ◌≤◌, List, [], ◌∷◌, ◌≡◌, length, get_or}
use Rattle.strings.specs.Pick.{pick}
use Rattle.digits.specs.Text.{Puts}
use Rattle.station.specs.Station.{fresh_station}
use Rattle.navfile.specs.declared.Office.{Office}
use Rattle.navfile.specs.declared.Told.{Told}
use Rattle.navfile.specs.File.{offered, station_in, Ask, ask_of, ask_before, asks_in, last_asks, none_written, is_other, kept_for, due_of, written_after, texts_of}

-- at the start
abbrev pub fresh_office : Office
fresh_office = record { station = fresh_station; written = none_written }

-- ---- asks: the text of those that are due, and the office that remembers them
abbrev pub text_for : ℕ → Office → List Ask → List ℕ
text_for card o asks = texts_of (due_of card o.written asks)

abbrev pub office_for : ℕ → Office → List Ask → Office
office_for card o asks = record { station = o.station; written = written_after card o.written asks }

-- ---- the asks of a block of records, whose strings the station hears, and those of the end
unfoldable pub text_in : ℕ → Office → List ℕ → List ℕ
text_in card o input = text_for card o (asks_in card o.station input)

unfoldable pub office_in : ℕ → Office → List ℕ → Office
office_in card o input =
    record { station = station_in card o.station input; written = written_after card o.written (asks_in card o.station input) }

unfoldable pub last_text : ℕ → Office → List ℕ
last_text card o = text_for card o (last_asks o.station)

-- a text written at a place, and the office after it
pub record Tells (text : List ℕ) (at : ℕ) (piece : List ℕ) (after : Office) (r : Told) (text' : List ℕ) : Type 0 where
  pub office : r.office ≡ after
  pub puts : Puts text at piece text' r.end

-- one channel asked
abbrev pub TellsAsk : ℕ → Office → ℕ → List ℕ → ℕ → Told → List ℕ → Type 0
TellsAsk card o c text at r text' =
    let asks = ask_of o.station c ∷ [] in
    Tells text at (text_for card o asks) (office_for card o asks) r text'

-- a record of a satellite and an epoch: its lines, where the epoch is another than the one last written, which is remembered
unfoldable pub TellsNew : Office → ℕ → ℕ → List ℕ → List ℕ → ℕ → Told → List ℕ → Type 0
TellsNew o n quarter lines text at r text' =
    let due = is_other quarter (get_or o.written n 0) in
    Tells text at (pick due lines []) (record { station = o.station; written = pick due (kept_for o.written n quarter) o.written }) r text'

-- a string offered, which the station hears
abbrev pub office_heard : ℕ → Office → List ℕ → Office
office_heard card o rec = record { station = offered card o.station rec; written = o.written }

-- a record: its channel asked, and then its string offered
abbrev pub TellsRecord : ℕ → Office → List ℕ → List ℕ → ℕ → Told → List ℕ → Type 0
TellsRecord card o rec text at r text' =
    let asks = ask_before card o.station rec ∷ [] in
    Tells text at (text_for card o asks) (office_heard card (office_for card o asks) rec) r text'

-- a block of records, and the end
pub record TellsBlock (card : ℕ) (o : Office) (input text : List ℕ) (r : Told) (text' : List ℕ) : Type 0 where
  pub told : Tells text 0 (text_in card o input) (office_in card o input) r text'
  pub within : r.end ≤ length text

pub record TellsEnd (card : ℕ) (o : Office) (text : List ℕ) (r : Told) (text' : List ℕ) : Type 0 where
  pub puts : Puts text 0 (last_text card o) text' r.end
  pub within : r.end ≤ length text
