-- Dates, computed: the last day of each month of a leap year and of a common one, and the ends of four years.
-- Assumes nothing.
use Rattle.std.specs.Prelude.{◌≡◌, refl}
use Rattle.calendar.specs.Calendar.{date, date_of}

pub record Known : Type 0 where
  -- the day before N4 1, and its first day
  pub before : date_of 0 ≡ date 1995 12 31
  pub first : date_of 1 ≡ date 1996 1 1
  -- the months' last days in 1996: a leap year
  pub january_1996 : date_of 31 ≡ date 1996 1 31
  pub february_1996 : date_of 60 ≡ date 1996 2 29
  pub march_1996 : date_of 91 ≡ date 1996 3 31
  pub april_1996 : date_of 121 ≡ date 1996 4 30
  pub may_1996 : date_of 152 ≡ date 1996 5 31
  pub june_1996 : date_of 182 ≡ date 1996 6 30
  pub july_1996 : date_of 213 ≡ date 1996 7 31
  pub august_1996 : date_of 244 ≡ date 1996 8 31
  pub september_1996 : date_of 274 ≡ date 1996 9 30
  pub october_1996 : date_of 305 ≡ date 1996 10 31
  pub november_1996 : date_of 335 ≡ date 1996 11 30
  pub december_1996 : date_of 366 ≡ date 1996 12 31
  -- the months' last days in 1997: not one
  pub january_1997 : date_of 397 ≡ date 1997 1 31
  pub february_1997 : date_of 425 ≡ date 1997 2 28
  pub march_1997 : date_of 456 ≡ date 1997 3 31
  pub april_1997 : date_of 486 ≡ date 1997 4 30
  pub may_1997 : date_of 517 ≡ date 1997 5 31
  pub june_1997 : date_of 547 ≡ date 1997 6 30
  pub july_1997 : date_of 578 ≡ date 1997 7 31
  pub august_1997 : date_of 609 ≡ date 1997 8 31
  pub september_1997 : date_of 639 ≡ date 1997 9 30
  pub october_1997 : date_of 670 ≡ date 1997 10 31
  pub november_1997 : date_of 700 ≡ date 1997 11 30
  pub december_1997 : date_of 731 ≡ date 1997 12 31
  -- the last day of N4 1, and the first of N4 2: 2000 is a leap year
  pub last_of_N4_1 : date_of 1461 ≡ date 1999 12 31
  pub first_of_N4_2 : date_of 1462 ≡ date 2000 1 1
  pub leap_day_2000 : date_of 1521 ≡ date 2000 2 29
  pub march_2000 : date_of 1522 ≡ date 2000 3 1

pub known : Known
unfolding date_of
known =
    record {
      before = refl;
      first = refl;
      january_1996 = refl;
      february_1996 = refl;
      march_1996 = refl;
      april_1996 = refl;
      may_1996 = refl;
      june_1996 = refl;
      july_1996 = refl;
      august_1996 = refl;
      september_1996 = refl;
      october_1996 = refl;
      november_1996 = refl;
      december_1996 = refl;
      january_1997 = refl;
      february_1997 = refl;
      march_1997 = refl;
      april_1997 = refl;
      may_1997 = refl;
      june_1997 = refl;
      july_1997 = refl;
      august_1997 = refl;
      september_1997 = refl;
      october_1997 = refl;
      november_1997 = refl;
      december_1997 = refl;
      last_of_N4_1 = refl;
      first_of_N4_2 = refl;
      leap_day_2000 = refl;
      march_2000 = refl;
    }
