-- `offering::fresh` meets its contract: empty rows, an empty book and its summary. Assumes nothing.
use mathlib.Core.Path.{ap₂}
use lib.ListN.{replicate}
use Rattle.book.specs.declared.Book.{Book}
use Rattle.summary.specs.Walk.{none_filled}
use Rattle.channel.specs.declared.Row.{Row}
use Rattle.station.specs.Station.{channels, fresh_station}
use Rattle.station.proofs.offering.fresh.Goals as goal

pub returns : goal.returns
unfolding fresh_station none_filled
returns c =
    ap₂ (λ (x : Row) (b : Book). record { rows = replicate channels x; book = b; summary = none_filled }) c.empty_row-row.ensures c.empty_book.ensures
