-- A record of the listing and its line (the paper, the end of "Known strings and edges"). For every station and any sixteen bytes.
-- Assumes nothing.
use Rattle.std.specs.Prelude.{ℕ, List, [], ◌∷◌, ◌≡◌, eqb}
use Rattle.strings.specs.Pick.{pick, is_one_of}
use Rattle.strings.specs.Number.{number_of}
use Rattle.strings.specs.Numbers.{first_of}
use Rattle.words.specs.Calls.{number_in}
use Rattle.relative.specs.Polarity.{first_symbol}
use Rattle.hearing.specs.Hears.{whole_of, verdict_in}
use Rattle.fields.specs.Sixteen.{channel_in, epoch_in, symbols_in}
use Rattle.seen.specs.Seen.{bit_in}
use Rattle.station.specs.declared.Station.{Station}
use Rattle.station.specs.Station.{station_tests, station_after}
use Rattle.lines.specs.declared.Line.{Line}
use Rattle.lines.specs.declared.Listed.{Listed}

-- ---- "the listing speaks for card one"
abbrev pub speaks_for : ℕ
speaks_for = 1

-- ---- "number (0 if taken)": that of the first test that fits
abbrev pub number_for : Station → List ℕ → ℕ
number_for st rec = first_of (station_tests st speaks_for (channel_in rec) (epoch_in rec) (symbols_in rec))

-- ---- "repaired bit (0 if none or number 1..4)", and "the listing's zeros treat each as 3" of 31 to 33
abbrev pub before_verdict : List ℕ
before_verdict = 16 ∷ 1 ∷ 15 ∷ 2 ∷ 31 ∷ 32 ∷ 33 ∷ 4 ∷ []

abbrev pub repaired_for : ℕ → List ℕ → ℕ
repaired_for number s = pick (is_one_of before_verdict number) 0 (bit_in (verdict_in s))

-- ---- "m (0 for 1..5)", of the string as the check leaves it
abbrev pub before_number : List ℕ
before_number = 16 ∷ 1 ∷ 15 ∷ 2 ∷ 31 ∷ 32 ∷ 33 ∷ 4 ∷ 5 ∷ []

abbrev pub m_for : ℕ → List ℕ → ℕ
m_for number s = pick (is_one_of before_number number) 0 (number_in (whole_of s))

-- ---- "the listing gets it as a sixth field, 0 or 1, and 0 for refused records": the first symbol of one that is taken
abbrev pub polarity_for : ℕ → List ℕ → ℕ
polarity_for number s = pick (eqb number 0) (first_symbol (number_of s)) 0

-- ---- the line of a record
unfoldable pub line_for : Station → List ℕ → Line
line_for st rec =
    record {
      channel = channel_in rec;
      epoch = epoch_in rec;
      number = number_for st rec;
      repaired = repaired_for (number_for st rec) (symbols_in rec);
      m = m_for (number_for st rec) (symbols_in rec);
      polarity = polarity_for (number_for st rec) (symbols_in rec);
    }

-- a record offered to a station: the six numbers, and the whole station after it
pub record Lists (st : Station) (rec : List ℕ) (r : Listed) : Type 0 where
  pub channel : r.line.channel ≡ channel_in rec
  pub epoch : r.line.epoch ≡ epoch_in rec
  pub number : r.line.number ≡ number_for st rec
  pub repaired : r.line.repaired ≡ repaired_for (number_for st rec) (symbols_in rec)
  pub m : r.line.m ≡ m_for (number_for st rec) (symbols_in rec)
  pub polarity : r.line.polarity ≡ polarity_for (number_for st rec) (symbols_in rec)
  pub station : r.station ≡ station_after st speaks_for (channel_in rec) (epoch_in rec) (symbols_in rec)
