-- String 5 beside a record (request 11): "the four-year number of string 5 of the same frame"; "the immediate record now keeps its frame's start, and once
-- the row holds another frame its string 5 counts as missing." Of every station.
-- Assumes nothing.
use Rattle.std.specs.Prelude.{ℕ, Bool, not, ◌&&◌, List, [], ◌∷◌, ◌++◌, ◌≡◌, Result, Ok, Err}
use Rattle.strings.specs.declared.Refusal.{Refusal}
use Rattle.strings.specs.Numbers.{refusal_paper, Test, test, answer_of}
use Rattle.records.specs.declared.kinds.Kind.TheVariants.{Five}
use Rattle.records.specs.declared.named.String5.{String5}
use Rattle.records.specs.Records.{string5_of}
use Rattle.layout.specs.Layout.{layout}
use Rattle.words.specs.Values.{values_of}
use Rattle.channel.specs.declared.Row.{Row}
use Rattle.channel.specs.Row.{frame_of, still_holds}
use Rattle.station.specs.declared.Station.{Station}
use Rattle.station.specs.Station.{row_at, held_at, gate_tests}

-- a row has a record, still holds the frame that it was read from, by its start, and has string 5 of it
unfoldable pub has_five : Row → Bool
has_five row = still_holds row && (frame_of row).has 5

-- the words of string 5: NA, tau c, N4, tau GPS, l
unfoldable pub five_of : ℕ → String5
five_of n = string5_of (values_of n (layout Five))

-- the words of string 5 in the frame that a channel holds
abbrev pub five_at : Station → ℕ → String5
five_at st c = five_of ((held_at st c).text 5)

-- whether it counts: not missing
abbrev pub is_five_at : Station → ℕ → Bool
is_five_at st c = has_five (row_at st c)

-- ---- the query: the gate, 13. Its NA may be out of range: it is there
abbrev pub five_tests : Station → ℕ → ℕ → List Test
five_tests st card c = gate_tests card c ++ (test 13 (not (is_five_at st c)) ∷ [])

abbrev pub five_paper : Result String5 Refusal → List ℕ
five_paper (Ok w) = 0 ∷ []
five_paper (Err q) = refusal_paper q

-- and where it is there, its words
pub record FindsFive (st : Station) (card c : ℕ) (r : Result String5 Refusal) : Type 0 where
  pub answer : five_paper r ≡ answer_of (five_tests st card c) []
  pub words : (w : String5) → r ≡ Ok w → w ≡ five_at st c
