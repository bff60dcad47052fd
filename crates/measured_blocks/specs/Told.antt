-- What a fresh station that is handed a block by card one answers in one byte.
-- Assumes nothing.
use Rattle.std.specs.Prelude.{ℕ, List, ◌≡◌}
use Rattle.book.specs.Book.{in_slot}
use Rattle.fields.specs.Block.{calls_in}
use Rattle.station.specs.Station.{fresh_station}
use Rattle.blocks.specs.Taking.{after_calls}

-- the highest byte of the even half of slot 1
abbrev pub TellsBlock : List ℕ → ℕ → Type 0
TellsBlock block r = r ≡ (in_slot (after_calls fresh_station 1 (calls_in block)).book 1).etop
