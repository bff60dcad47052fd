-- The known records are what the definitions say. Assumes nothing.
use mathlib.Core.Path.{◌≡◌, refl}
use lib.Dec.{lit<, lit≤}
use Rattle.calendar.specs.Calendar.{date, date_of}
use Rattle.calendar.specs.FourYears.{starts}
use Rattle.calendar.proofs.Months.{by_table}
use Rattle.decimals.specs.Decimal.{text_of, scale_of, figures_of, signed_of}
use Rattle.rinex.specs.Lines.{epoch_text, first_line, other_line}
use Rattle.rinex.specs.Record.{head_of, record_text}
use Rattle.rinex.specs.Known.{Known}

day_example : date_of 777 ≡ date 1998 2 15
unfolding starts
day_example = by_table 777 25 (lit≤ tt) (record { one_of_48 = lit< tt; from = lit≤ tt; before_next = lit< tt })

day_received : date_of 7409 ≡ date 2016 4 13
unfolding starts
day_received = by_table 7409 3 (lit≤ tt) (record { one_of_48 = lit< tt; from = lit≤ tt; before_next = lit< tt })

day_new_year : date_of 0 ≡ date 1995 12 31
unfolding starts
day_new_year = by_table 0 47 (lit≤ tt) (record { one_of_48 = lit< tt; from = lit≤ tt; before_next = lit< tt })

day_last : date_of 30681 ≡ date 2079 12 31
unfolding starts
day_last = by_table 30681 47 (lit≤ tt) (record { one_of_48 = lit< tt; from = lit≤ tt; before_next = lit< tt })

pub known : Known
unfolding text_of scale_of figures_of signed_of epoch_text first_line other_line head_of record_text
known =
    record {
      example_text = rw day_example refl;
      received_text = rw day_received refl;
      new_year_text = rw day_new_year refl;
      last_text = rw day_last refl;
      at_midnight = refl;
      at_three = refl;
      before_midnight = refl;
    }
