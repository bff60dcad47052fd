-- All words of a string are in range (the paper, "Words").
-- Assumes nothing.
use Rattle.std.specs.Prelude.{ℕ, Bool, eqb}
use Rattle.records.specs.declared.kinds.Kind.{Kind}
use Rattle.layout.specs.Layout.{layout}
use Rattle.words.specs.Values.{values_of, first_bad}

-- no word of the string n, read as a kind, is the first that fails
unfoldable pub is_good : Kind → ℕ → Bool
is_good k n = eqb (first_bad (layout k) (values_of n (layout k))) 0
