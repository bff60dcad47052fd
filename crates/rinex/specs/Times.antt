-- The times of a record (request 11): "tk and tb are both of day NT. Moscow time less three hours gives the epoch, so a tb of 15 minutes falls on the day before at
-- 21:15." Days are counted from 31 December 1995, day 0; the day NT of the four years N4 is day 1461 (N4 - 1) + NT.
-- Assumes nothing.
use Rattle.std.specs.Prelude.{ℕ, ◌+◌, ◌-◌, ◌*◌, ◌/◌, ◌%◌, ◌≤◌}
use Rattle.calendar.specs.Calendar.{date_of}
use Rattle.rinex.specs.declared.epoch.Epoch.{Epoch}

abbrev pub day_of : ℕ → ℕ → ℕ
day_of n4 nt = 1461 * (n4 - 1) + nt

-- tb counts quarters of an hour; three hours are 180 minutes. In minutes from the beginning of day 0
abbrev pub minutes_of : ℕ → ℕ → ℕ → ℕ
minutes_of n4 nt tb = day_of n4 nt * 1440 + 15 * tb - 180

-- so many minutes of a day
abbrev pub moment_of : ℕ → ℕ → Epoch
moment_of day minutes =
    record { year = (date_of day).year; month = (date_of day).month; day = (date_of day).day; hour = minutes / 60; minute = minutes % 60 }

abbrev pub epoch_of : ℕ → ℕ → ℕ → Epoch
epoch_of n4 nt tb = moment_of (minutes_of n4 nt tb / 1440) (minutes_of n4 nt tb % 1440)

-- "10 when NT is not 1..1461 (place 26), then when N4 is not 1..21 (place 36; two-digit years end with 2079)"; tb is raw 1..95
pub record InFourYears (n4 nt tb : ℕ) : Type 0 where
  pub n4_least : 1 ≤ n4
  pub n4_most : n4 ≤ 21
  pub nt_least : 1 ≤ nt
  pub nt_most : nt ≤ 1461
  pub tb_most : tb ≤ 95

-- the message frame time: tk is hour x 128 + minute x 2 + half minute, in seconds
abbrev pub seconds_of : ℕ → ℕ
seconds_of tk = tk / 128 * 3600 + tk / 2 % 64 * 60 + tk % 2 * 30

-- less three hours, modulo the 86,400 seconds of a day
abbrev pub frame_time : ℕ → ℕ
frame_time tk = (seconds_of tk + (86400 - 3 * 3600)) % 86400
