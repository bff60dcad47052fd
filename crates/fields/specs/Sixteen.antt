-- An offer's sixteen bytes, as the listing reads them (the paper, the end of "Known strings and edges").
-- Assumes nothing.
use Rattle.std.specs.Prelude.{ℕ, List, get_or, take, drop}
use Rattle.strings.specs.Number.{value_of}

-- "16-byte records (channel, epoch big-endian in four bytes, relative string)"
abbrev pub channel_in : List ℕ → ℕ
channel_in rec = get_or rec 0 0

abbrev pub epoch_in : List ℕ → ℕ
epoch_in rec = value_of (take 4 (drop 1 rec))

abbrev pub symbols_in : List ℕ → List ℕ
symbols_in rec = take 11 (drop 5 rec)
