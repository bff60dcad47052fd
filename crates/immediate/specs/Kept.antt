-- The immediate record (the paper, "Frames and the book"): "When strings 1..4 of the held frame are all present and their words are in range, they become
-- the channel's immediate record". It is kept as the four strings that it was read from, and request 11: "the immediate record now keeps its frame's start".
-- Assumes nothing.
use Rattle.std.specs.Prelude.{ℕ, Bool, ◌&&◌, List, [], ◌∷◌, take}
use Rattle.strings.specs.Pick.{pick}
use Rattle.records.specs.declared.kinds.Kind.TheVariants.{One, Two, Three, Four}
use Rattle.words.specs.Immediate.{string_at}
use Rattle.words.specs.Good.{is_good}
use Rattle.immediate.specs.declared.Immediate.{Immediate}

-- "their words are in range"
abbrev pub four_good : ℕ → ℕ → ℕ → ℕ → Bool
four_good one two three four = is_good One one && (is_good Two two && (is_good Three three && is_good Four four))

-- of the first four strings in bytes, eleven each
abbrev pub are_good : List ℕ → Bool
are_good s = four_good (string_at s 0) (string_at s 1) (string_at s 2) (string_at s 3)

-- the four strings of a record
abbrev pub kept_four : Immediate → List ℕ
kept_four i = string_at i.strings 0 ∷ string_at i.strings 1 ∷ string_at i.strings 2 ∷ string_at i.strings 3 ∷ []

-- there is none where their words are not in range, as they are not in a reset row
unfoldable pub has_record : Immediate → Bool
has_record i = are_good i.strings

unfoldable pub record_in : Immediate → List ℕ
record_in i = pick (has_record i) (kept_four i) []

-- the record that a frame's strings become, in bytes, with "its frame's start"
abbrev pub built_from : ℕ → List ℕ → Immediate
built_from start bytes = record { strings = take 44 bytes; start = start }

-- "they become the channel's immediate record": where they do
abbrev pub record_by : Bool → ℕ → List ℕ → Immediate → Immediate
record_by built start bytes i = pick built (built_from start bytes) i
