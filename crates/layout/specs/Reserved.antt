-- Table 4.12 of the ICD: the reserved bits of each string. That they are exactly the bits 9..80 in no word of the kind holds the layout against
-- the ICD from outside.
-- Assumes nothing.
use Rattle.std.specs.Prelude.{ℕ, Bool, true, false, not, ◌&&◌, ◌||◌, List, [], ◌∷◌, ◌++◌, T, leb}
use Rattle.std.specs.Bool.{beq}
use Rattle.strings.specs.Pick.{is_one_of}
use Rattle.strings.specs.Table413.{◌to◌}
use Rattle.layout.specs.declared.table.Word.{Word}
use Rattle.records.specs.declared.kinds.Kind.{Kind}
use Rattle.records.specs.declared.kinds.Kind.TheVariants.{One, Two, Three, Four, Five, Even, Odd, Fourteen}
use Rattle.layout.specs.Layout.{layout}

-- the printed lists; the almanac's strings have none. (The table also has string 15 of frame 5, bits 10 to 80: that string is none of the kinds)
abbrev pub reserved : Kind → List ℕ
reserved One = 79 to 80
reserved Two = 65 to 69
reserved Three = 68 to 68
reserved Four = (27 to 29) ++ (35 to 48)
reserved Five = 37 to 37
reserved Even = []
reserved Odd = []
reserved Fourteen = 9 to 57

-- bit i lies in one of the words
abbrev pub in_words : List Word → ℕ → Bool
in_words [] i = false
in_words (w ∷ ws) i = (leb w.low i && leb i w.top) || in_words ws i

abbrev agree : List ℕ → Kind → Bool
agree [] k = true
agree (i ∷ is) k = beq (is_one_of (reserved k) i) (not (in_words (layout k) i)) && agree is k

-- Table 4.12: a bit 9..80 is reserved exactly where it is in no word
pub table_4_12 : (k : Kind) → T (agree (9 to 80) k)
unfolding layout
table_4_12 One = tt
table_4_12 Two = tt
table_4_12 Three = tt
table_4_12 Four = tt
table_4_12 Five = tt
table_4_12 Even = tt
table_4_12 Odd = tt
table_4_12 Fourteen = tt
