-- When four strings can be a record, in the bits of strings 1 and 2 ("Only these ranges refuse: hour 0..23; minute 0..59; tb raw 1..95"): no other word
-- of strings 1..4 can be out of range.
-- Assumes nothing.
use Rattle.std.specs.Prelude.{ℕ, ◌≤◌, true, List, ◌↔◌, ◌≡◌, take, drop}
use Rattle.strings.specs.Number.{number_of, word_of}
use Rattle.immediate.specs.Kept.{are_good}

-- of the bytes of a frame's first strings, eleven each: the hour is bits 76-72 of string 1, the minute bits 71-66; tb is bits 76-70 of string 2
pub record InRange (strings : List ℕ) : Type 0 where
  pub hour : word_of (number_of (take 11 strings)) 76 72 ≤ 23
  pub minute : word_of (number_of (take 11 strings)) 71 66 ≤ 59
  pub tb_least : 1 ≤ word_of (number_of (take 11 (drop 11 strings))) 76 70
  pub tb_most : word_of (number_of (take 11 (drop 11 strings))) 76 70 ≤ 95

-- of any bytes: proved as `good_exactly`
abbrev pub GoodExactly : Type 0
GoodExactly = (strings : List ℕ) → (are_good strings ≡ true) ↔ InRange strings
