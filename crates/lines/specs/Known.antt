-- The paper's example of the listing, with the polarity as its sixth field, computed from the definitions.
-- Assumes nothing.
use Rattle.std.specs.Prelude.{◌≡◌, refl, List, [], ◌∷◌, ◌++◌, ℕ}
use Rattle.strings.specs.Number.{number_of, padding_of, misshapen, word_of, flip}
use Rattle.relative.specs.Relative.{read_relative}
use Rattle.relative.specs.Polarity.{first_symbol}
use Rattle.strings.specs.Hamming.{position, sum_c, sum_all, syndrome, sums_set, highest, placed, judge, ruling, mended}
use Rattle.strings.specs.Calls.{sound_tests}
use Rattle.relative.specs.Known.{B, inverse_b}
use Rattle.channel.specs.Row.{empty_row, holds_frame}
use Rattle.station.specs.Station.{fresh_station}
use Rattle.lines.specs.Line.{line_for}
use Rattle.digits.specs.Text.{decimal, space, line_feed}
use Rattle.lines.specs.Text.{line_text, short, left_over, station_at, lines_at, listing}

-- "`00 00000064` + B inverted, `18 00000007` + B, then three bytes"
abbrev pub example : List ℕ
example = 0x00 ∷ 0x00 ∷ 0x00 ∷ 0x00 ∷ 0x64 ∷ (inverse_b ++ (0x18 ∷ 0x00 ∷ 0x00 ∷ 0x00 ∷ 0x07 ∷ (B ++ (1 ∷ 2 ∷ 3 ∷ []))))

-- 0 100 0 0 1 1
abbrev pub first : List ℕ
first = 48 ∷ space ∷ 49 ∷ 48 ∷ 48 ∷ space ∷ 48 ∷ space ∷ 48 ∷ space ∷ 49 ∷ space ∷ 49 ∷ line_feed ∷ []

-- 24 7 15 0 0 0: "its channel 24 now prints 15 and then zeros"
abbrev pub second : List ℕ
second = 50 ∷ 52 ∷ space ∷ 55 ∷ space ∷ 49 ∷ 53 ∷ space ∷ 48 ∷ space ∷ 48 ∷ space ∷ 48 ∷ line_feed ∷ []

pub known : listing fresh_station example ≡ first ++ (second ++ (short ++ (51 ∷ line_feed ∷ [])))
unfolding sound_tests number_of misshapen padding_of word_of flip read_relative first_symbol position sum_c sum_all syndrome sums_set highest placed judge ruling mended empty_row holds_frame fresh_station line_for decimal line_text left_over station_at lines_at listing
known = refl
