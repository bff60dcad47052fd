-- The words of an entry, in the bits of the strings that showed it (the paper, "Words"; ICD Table 4.11). The proof stands in
-- `proofs/EntryWords.antt`.
-- Assumes nothing.
use Rattle.std.specs.Prelude.{ℕ, ◌-◌, ◌≤◌, ◌≡◌, pos, neg_ℤ, Some}
use Rattle.strings.specs.Number.{word_of}
use Rattle.words.specs.Names.{signed_in}
use Rattle.records.specs.declared.named.EvenString.{EvenString}
use Rattle.records.specs.declared.named.OddString.{OddString}
use Rattle.book.specs.declared.Entry.{Entry}
use Rattle.book.specs.Entry.{meaning, even_words, odd_words}
use Rattle.book.specs.Shows.{shown_by}

-- C, MA, nA, tau A, lambda, delta i, epsilon
pub record EvenBits (n : ℕ) (w : EvenString) : Type 0 where
  pub c : w.c ≡ pos (word_of n 80 80)
  pub ma : w.ma ≡ pos (word_of n 79 78)
  pub na : w.na ≡ pos (word_of n 77 73)
  pub taua : w.taua ≡ signed_in n 72 63
  pub lambda : w.lambda ≡ signed_in n 62 42
  pub di : w.di ≡ signed_in n 41 24
  pub epsilon : w.epsilon ≡ pos (word_of n 23 9)

-- omega, t lambda, delta T, its rate, H, l
pub record OddBits (n : ℕ) (w : OddString) : Type 0 where
  pub omega : w.omega ≡ signed_in n 80 65
  pub tlambda : w.tlambda ≡ pos (word_of n 64 44)
  pub dt : w.dt ≡ signed_in n 43 22
  pub dtrate : w.dtrate ≡ signed_in n 21 15
  -- "H 0..13, or 25..31 meaning -7..-1"
  pub h : word_of n 14 10 ≤ 13 → w.h ≡ pos (word_of n 14 10)
  pub h_minus : 25 ≤ word_of n 14 10 → w.h ≡ neg_ℤ (pos (32 - word_of n 14 10))
  -- "the odd string's l belongs to the sender", and is no part of an entry
  pub l : w.l ≡ pos 0

pub record EntryWords (even odd : ℕ) (e : Entry) : Type 0 where
  pub of_even : EvenBits even (even_words (meaning e))
  pub of_odd : OddBits odd (odd_words (meaning e))

-- whatever three strings show an entry
abbrev pub EveryEntrysWords : Type 0
EveryEntrysWords = (five even odd slot : ℕ) (e : Entry) → shown_by five even odd ≡ Some (slot, e) → EntryWords even odd e
