-- `date_of` meets its contract. Assumes nothing.
use mathlib.Core.Path.{sym}
use Rattle.calendar.specs.FourYears.{starts}
use Rattle.calendar.proofs.Months.{by_table}
use Rattle.calendar.proofs.date_of.Goals as goal

pub overflow_sub-result : goal.overflow_sub-result
unfolding starts
overflow_sub-result c = c.month_of-i.ensures.from

pub returns : goal.returns
unfolding starts
returns c = let a = c.args in sym (by_table a.n c.month_of-i.result c.requires c.month_of-i.ensures)
