-- The calendar. A date is what so many next days after 31 December 1995 is: day 1 of the four years with N4 1 is 1 January 1996.
-- Assumes nothing.
use Rattle.std.specs.Prelude.{ℕ, zero, suc, ◌+◌, ◌-◌, ◌%◌, ◌≤◌, Bool, cond, not, ◌&&◌, ◌||◌, List, [], ◌∷◌, ◌≡◌, eqb, ltb, get_or}
use Rattle.calendar.specs.declared.Date.{Date}

-- every fourth year, but not the hundredth, unless it is the four hundredth
abbrev pub is_leap : ℕ → Bool
is_leap y = eqb (y % 4) 0 && (not (eqb (y % 100) 0) || eqb (y % 400) 0)

-- January, February, March ..
abbrev pub lengths : ℕ → List ℕ
lengths y = 31 ∷ cond (is_leap y) 29 28 ∷ 31 ∷ 30 ∷ 31 ∷ 30 ∷ 31 ∷ 31 ∷ 30 ∷ 31 ∷ 30 ∷ 31 ∷ []

abbrev pub length_of : ℕ → ℕ → ℕ
length_of y m = get_or (lengths y) (m - 1) 0

abbrev pub date : ℕ → ℕ → ℕ → Date
date y m d = record { year = y; month = m; day = d }

abbrev pub first_of_next : ℕ → ℕ → Date
first_of_next y m = cond (ltb m 12) (date y (m + 1) 1) (date (y + 1) 1 1)

abbrev pub next_day : Date → Date
next_day t = cond (ltb t.day (length_of t.year t.month)) (date t.year t.month (t.day + 1)) (first_of_next t.year t.month)

-- so many next days after a date
abbrev pub after : ℕ → Date → Date
after zero t = t
after (suc n) t = next_day (after n t)

unfoldable pub date_of : ℕ → Date
date_of n = after n (date 1995 12 31)

-- a day of a month of the years 1995 to 2079
pub record Real (t : Date) : Type 0 where
  pub from_1995 : 1995 ≤ t.year
  pub to_2079 : t.year ≤ 2079
  pub month_least : 1 ≤ t.month
  pub month_most : t.month ≤ 12
  pub day_least : 1 ≤ t.day
  pub day_most : t.day ≤ length_of t.year t.month
  pub at_most_31 : t.day ≤ 31

-- 21 times four years are 30,681 days. Proved as `real`
abbrev pub EveryDay : Type 0
EveryDay = (n : ℕ) → n ≤ 30681 → Real (date_of n)

-- later days, which are found by the table: proved as `later`
pub record Later : Type 0 where
  pub in_2016 : date_of 7409 ≡ date 2016 4 13
  pub leap_day : date_of 29280 ≡ date 2076 2 29
  pub last : date_of 30681 ≡ date 2079 12 31
