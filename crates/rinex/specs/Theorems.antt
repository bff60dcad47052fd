-- What is proved of a record beside its text: the times by the clock, what the columns hold, and its four lines.
-- Assumes nothing.
use Rattle.std.specs.Prelude.{ℕ, ◌+◌, ◌-◌, ◌*◌, ◌%◌, ◌≤◌, ◌<◌, cond, List, [], ◌∷◌, ◌++◌, ◌≡◌, ltb, ℤ, length}
use Rattle.records.specs.declared.named.ImmediateWords.{ImmediateWords}
use Rattle.decimals.specs.Codes.{codes}
use Rattle.rinex.specs.declared.epoch.Epoch.{Epoch}
use Rattle.rinex.specs.Times.{InFourYears, day_of, moment_of, epoch_of, seconds_of, frame_time}
use Rattle.rinex.specs.Record.{record_text}

-- ---- "Moscow time less three hours gives the epoch"
-- from three o'clock on it is three hours earlier on day NT; before, 21 hours later on the day before. Proved as `from_three` and `before_three`
abbrev pub FromThree : Type 0
FromThree = (n4 nt tb : ℕ) → InFourYears n4 nt tb → 12 ≤ tb → moment_of (day_of n4 nt) (15 * tb - 3 * 60) ≡ epoch_of n4 nt tb

abbrev pub BeforeThree : Type 0
BeforeThree = (n4 nt tb : ℕ) → InFourYears n4 nt tb → tb < 12 → moment_of (day_of n4 nt - 1) (15 * tb + 21 * 60) ≡ epoch_of n4 nt tb

-- the message frame time in the same way, in seconds of its own day: proved as `time_from_three` and `time_before_three`
abbrev pub TimeFromThree : Type 0
TimeFromThree = (tk : ℕ) → 3 * 3600 ≤ seconds_of tk → seconds_of tk < 24 * 3600 → frame_time tk ≡ seconds_of tk - 3 * 3600

abbrev pub TimeBeforeThree : Type 0
TimeBeforeThree = (tk : ℕ) → seconds_of tk < 3 * 3600 → frame_time tk ≡ seconds_of tk + 21 * 3600

-- ---- the columns hold the epoch
-- of two digits, 80 to 99 are years of 1900, and 00 to 79 of 2000: "two-digit years end with 2079"
abbrev pub year_read : ℕ → ℕ
year_read yy = cond (ltb yy 80) (2000 + yy) (1900 + yy)

pub record Readable (e : Epoch) : Type 0 where
  pub year : year_read (e.year % 100) ≡ e.year
  pub month_least : 1 ≤ e.month
  pub month_most : e.month ≤ 12
  pub day_least : 1 ≤ e.day
  pub day_most : e.day ≤ 31
  pub hour : e.hour ≤ 23
  pub minute : e.minute ≤ 59

-- proved as `readable`
abbrev pub EveryEpoch : Type 0
EveryEpoch = (n4 nt tb : ℕ) → InFourYears n4 nt tb → Readable (epoch_of n4 nt tb)

-- ---- "four lines of 79 columns and a line feed"
-- characters that print, the blank among them
pub data Prints : List ℕ → Type 0 where
  none : Prints []
  more : {c : ℕ} {l : List ℕ} → 32 ≤ c → c ≤ 126 → Prints l → Prints (c ∷ l)

pub record IsLine (l : List ℕ) : Type 0 where
  pub columns : List ℕ
  pub long : length columns ≡ 79
  pub prints : Prints columns
  pub feed : l ≡ columns ++ codes "\n"

pub record FourLines (t : List ℕ) : Type 0 where
  pub one : List ℕ
  pub two : List ℕ
  pub three : List ℕ
  pub four : List ℕ
  pub is : t ≡ one ++ (two ++ (three ++ four))
  pub line_one : IsLine one
  pub line_two : IsLine two
  pub line_three : IsLine three
  pub line_four : IsLine four

-- of any words: proved as `four_lines`
abbrev pub EveryRecord : Type 0
EveryRecord = (w : ImmediateWords) (n4 carrier : ℤ) → FourLines (record_text w n4 carrier)
