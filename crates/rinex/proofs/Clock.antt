-- Three hours less: before three o'clock it is the day before. And the columns hold what comes of it. Assumes nothing.
use mathlib.Core.Path.{◌≡◌}
use mathlib.Core.Bool.{Bool, true, false, not}
use Prim.Native.Nat.{ℕ, ◌+◌, ◌-◌, ◌*◌, ◌/◌, ◌%◌, ◌≤◌, ◌<◌}
use native.Mathlib.Omega.{arith}
use lib.Dec.{T, leb, leb→le, nleb→lt}
use borrow.Author.Tests.{lt-ltb, le-ltb}
use Rattle.calendar.specs.Calendar.{date_of}
use Rattle.calendar.proofs.Months.{real}
use Rattle.rinex.specs.Times.{day_of, minutes_of, seconds_of}
use Rattle.rinex.specs.Theorems.{FromThree, BeforeThree, TimeFromThree, TimeBeforeThree, year_read, EveryEpoch}

pub before_three : BeforeThree
before_three n4 nt tb h l =
    let d : day_of n4 nt - 1 ≡ minutes_of n4 nt tb / 1440 = omega (arith, h.nt_least) in
    let m : 15 * tb + 1260 ≡ minutes_of n4 nt tb % 1440 = omega (arith, h.nt_least) in
    cc

pub from_three : FromThree
from_three n4 nt tb h l =
    let d : day_of n4 nt ≡ minutes_of n4 nt tb / 1440 = omega (arith, h.tb_most) in
    let m : 15 * tb - 180 ≡ minutes_of n4 nt tb % 1440 = omega (arith, h.tb_most) in
    cc

pub time_from_three : TimeFromThree
time_from_three tk l h = later (seconds_of tk) l h
  where
    later : (s : ℕ) → 10800 ≤ s → s < 86400 → (s + 75600) % 86400 ≡ s - 10800
    later s l h = omega arith

pub time_before_three : TimeBeforeThree
time_before_three tk h = omega arith

-- ---- two digits of the year
year_read_lem : (y : ℕ) → 1995 ≤ y → y ≤ 2079 → year_read (y % 100) ≡ y
year_read_lem y l h = go (leb 2000 y) (leb→le 2000 y) (nleb→lt 2000 y)
  where
    go : (b : Bool) → (T b → 2000 ≤ y) → (T (not b) → y < 2000) → year_read (y % 100) ≡ y
    go true p q = rw (lt-ltb (y % 100) 80 (omega (arith, p tt))) (omega (arith, p tt))
    go false p q = rw (le-ltb (y % 100) 80 (omega (arith, q tt))) (omega (arith, q tt))

pub readable : EveryEpoch
readable n4 nt tb h =
    let n = minutes_of n4 nt tb / 1440 in
    let r = real n (omega arith) in
    record {
      year = year_read_lem (date_of n).year r.from_1995 r.to_2079;
      month_least = r.month_least;
      month_most = r.month_most;
      day_least = r.day_least;
      day_most = r.at_most_31;
      hour = omega arith;
      minute = omega arith;
    }
