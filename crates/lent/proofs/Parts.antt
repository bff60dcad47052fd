-- How many bytes a row and an entry have, where in a station its book begins, and a station with a row put in its row c.
-- Assumes nothing.
use Prim.Native.Nat.{ℕ, ◌*◌}
use lib.ListN.{set}
use Rattle.channel.specs.declared.Row.{Row}
use Rattle.station.specs.declared.Station.{Station}
use Rattle.station.specs.Station.{channels}

-- ---- how many bytes a row and an entry have, and where in a station its book begins
abbrev pub row_bytes : ℕ
row_bytes = 280

abbrev pub entry_bytes : ℕ
entry_bytes = 24

abbrev pub book_at : ℕ
book_at = channels * row_bytes

-- ---- a row put in a station's row c
abbrev pub with_row : Station → ℕ → Row → Station
with_row st c r = record { rows = set st.rows c r; book = st.book; summary = st.summary }
