-- The health of a satellite by its record and one entry of the book: what `health_by` asks of the book, at the record's slot. Assumes nothing.
use Rattle.std.specs.Prelude.{ℕ, ◌&&◌, eqb, leb}
use Rattle.strings.specs.Pick.{pick}
use Rattle.book.specs.declared.Entry.{Entry}
use Rattle.book.specs.Entry.{meaning}
use Rattle.book.specs.Book.{slots}
use Rattle.immediate.specs.declared.Immediate.{Immediate}
use Rattle.immediate.specs.Kept.{has_record}
use Rattle.station.specs.declared.Health.{Health}
use Rattle.station.specs.declared.Health.TheVariants.{Unknown}
use Rattle.station.specs.Queries.{top_of_b, satellite_of, l_of, model_of, l_counted, status_of, judged}

-- the slot of a record's n; 0 where there is no record, or n is no slot
unfoldable pub slot_of : Immediate → ℕ
slot_of i = pick (has_record i && leb (satellite_of i) slots) (satellite_of i) 0

-- the health where the record's slot has the entry e
unfoldable pub health_at : Immediate → Entry → Health
health_at i e = pick (eqb e.day 0) Unknown (judged (top_of_b i) (l_counted (model_of i) (l_of i)) (status_of (meaning e)))
