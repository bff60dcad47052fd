-- The header of a navigation file as RINEX 2.11 has it (request 11): lines of 80 columns and a line feed, the label of each from column 61 on.
-- Assumes nothing.
use Rattle.std.specs.Prelude.{ℕ, ◌-◌, List, [], ◌++◌, length, replicate}
use Rattle.decimals.specs.Codes.{codes}

-- a text and the blanks up to so many columns
abbrev pub in_columns : ℕ → List ℕ → List ℕ
in_columns width s = s ++ replicate (width - length s) 32

abbrev pub header_line : List ℕ → List ℕ → List ℕ
header_line value label = in_columns 60 value ++ (in_columns 20 label ++ codes "\n")

-- the version, and what kind of file it is
unfoldable pub version_line : List ℕ
version_line = header_line (codes "     2.11           G: GLONASS NAV DATA") (codes "RINEX VERSION / TYPE")

-- the program; nobody who ran it, and no date: there is no clock
unfoldable pub program_line : List ℕ
program_line = header_line (codes "Spineyarrow") (codes "PGM / RUN BY / DATE")

unfoldable pub end_line : List ℕ
end_line = header_line [] (codes "END OF HEADER")

unfoldable pub header : List ℕ
header = version_line ++ (program_line ++ end_line)

-- how many bytes each line has, and all three
abbrev pub line_bytes : ℕ
line_bytes = 81

abbrev pub header_bytes : ℕ
header_bytes = 243
