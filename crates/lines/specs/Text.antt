-- What is printed of an input (the paper, the end of "Known strings and edges"): the bytes of the lines, in ASCII.
-- Assumes nothing.
use Rattle.std.specs.Prelude.{ℕ, zero, suc, ◌*◌, ◌/◌, ◌%◌, ◌≤◌, List, [], ◌∷◌, ◌++◌, ◌≡◌, eqb, length, take, drop}
use Rattle.std.proofs.lemmas.List.Edits.{sets}
use Rattle.strings.specs.Pick.{pick}
use Rattle.digits.specs.Text.{space, line_feed, cell, row, row_bytes}
use Rattle.fields.specs.Sixteen.{channel_in, epoch_in, symbols_in}
use Rattle.station.specs.declared.Station.{Station}
use Rattle.station.specs.Station.{station_after}
use Rattle.lines.specs.declared.Line.{Line}
use Rattle.lines.specs.declared.Printed.{Printed}
use Rattle.lines.specs.Line.{speaks_for, line_for}

-- ---- a line
-- "prints per record: channel, epoch, number .., repaired bit .., m", and the polarity
abbrev pub numbers_of : Line → List ℕ
numbers_of l = l.channel ∷ l.epoch ∷ l.number ∷ l.repaired ∷ l.m ∷ l.polarity ∷ []

unfoldable pub line_text : Line → List ℕ
line_text l = row (numbers_of l)

-- how many digits each of them has at most: a byte three, and an epoch ten
abbrev pub line_digits : List ℕ
line_digits = 3 ∷ 10 ∷ 3 ∷ 3 ∷ 3 ∷ 3 ∷ []

-- and how many bytes a line has at most
abbrev pub line_bytes : ℕ
line_bytes = row_bytes line_digits

-- "Bytes left over print `short` and their count"
abbrev pub short : List ℕ
short = 115 ∷ 104 ∷ 111 ∷ 114 ∷ 116 ∷ space ∷ []

unfoldable pub left_over : ℕ → List ℕ
left_over count = pick (eqb count 0) [] (short ++ cell count line_feed)

-- ---- an input: record k of it, counted from 0
abbrev pub record_at : List ℕ → ℕ → List ℕ
record_at input k = take 16 (drop (k * 16) input)

-- the station after its first k records
unfoldable pub station_at : Station → List ℕ → ℕ → Station
station_at st input zero = st
station_at st input (suc k) =
    let rec = record_at input k in
    station_after (station_at st input k) speaks_for (channel_in rec) (epoch_in rec) (symbols_in rec)

-- and their lines
unfoldable pub lines_at : Station → List ℕ → ℕ → List ℕ
lines_at st input zero = []
lines_at st input (suc k) = lines_at st input k ++ line_text (line_for (station_at st input k) (record_at input k))

-- what is printed of all of it
unfoldable pub listing : Station → List ℕ → List ℕ
listing st input = lines_at st input (length input / 16) ++ left_over (length input % 16)

-- an input offered to a station and printed into a text: the station after its records, and the text with the listing at its start
pub record Prints (st : Station) (input text : List ℕ) (r : Printed) (text' : List ℕ) : Type 0 where
  pub station : r.station ≡ station_at st input (length input / 16)
  pub past : r.end ≡ length (listing st input)
  pub written : text' ≡ sets text 0 (listing st input)
  pub within : r.end ≤ length text
