-- The words of an immediate record: those of strings 1 to 4, each read where it stands in 44 bytes.
-- Assumes nothing.
use Rattle.std.specs.Prelude.{ℕ, ◌*◌, List, take, drop}
use Rattle.strings.specs.Number.{number_of}
use Rattle.records.specs.declared.kinds.Kind.TheVariants.{One, Two, Three, Four}
use Rattle.records.specs.declared.named.ImmediateWords.{ImmediateWords}
use Rattle.records.specs.Records.{string1_of, string2_of, string3_of, string4_of}
use Rattle.layout.specs.Layout.{layout}
use Rattle.words.specs.Values.{values_of}

abbrev pub string_at : List ℕ → ℕ → ℕ
string_at s j = number_of (take 11 (drop (11 * j) s))

unfoldable pub immediate_of : List ℕ → ImmediateWords
immediate_of s =
    record {
      one = string1_of (values_of (string_at s 0) (layout One));
      two = string2_of (values_of (string_at s 1) (layout Two));
      three = string3_of (values_of (string_at s 2) (layout Three));
      four = string4_of (values_of (string_at s 3) (layout Four));
    }
