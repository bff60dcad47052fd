-- What a station that is lent answers where a navigation record is asked for (request 11): the tests of `write_record`, which asks a station by value, in
-- their order, and the same text. The answer is in one number, and of what is told only n goes into it, as the quarter of an hour is above 255: the text
-- has the epoch. The station is only read. For every station value, whichever card asks.
-- Assumes nothing.
use Rattle.std.specs.Prelude.{ℕ, Bool, not, ◌&&◌, List, [], ◌∷◌, ◌≡◌, eqb, ℤ, nat_abs, length}
use Rattle.strings.specs.Numbers.{Test, test, answer_of}
use Rattle.records.specs.declared.named.ImmediateWords.{ImmediateWords}
use Rattle.words.specs.Immediate.{immediate_of}
use Rattle.book.specs.declared.Entry.{Entry}
use Rattle.book.specs.Entry.{meaning, odd_words}
use Rattle.channel.specs.declared.Row.{Row}
use Rattle.channel.specs.Row.{string_in}
use Rattle.rinex.specs.Record.{record_text}
use Rattle.station.specs.declared.Station.{Station}
use Rattle.navigation_queries.specs.Five.{has_five, five_of}
use Rattle.navigation.specs.Writes.{n_at, record_tests, text_at}
use Rattle.navigation.specs.Gathers.{all_tests}
use Rattle.told.specs.Told.{packed}
use Rattle.lent_queries.specs.Lent.{left_in}

-- a call that tries these tests in this order, with an output: in one number the test that fits and its place, or 0 and what is told; and what is made in
-- the output, or it is as it was
pub record TellsAll (tests : List Test) (told made out out' : List ℕ) (r : ℕ) : Type 0 where
  pub answer : r ≡ packed (answer_of tests told)
  pub output : out' ≡ left_in tests made out

-- ---- by a row that has a record, and the entry of its satellite: 13, 10, 17
abbrev pub words_in : Row → ImmediateWords
words_in row = immediate_of row.immediate.strings

abbrev pub n4_in : Row → ℤ
n4_in row = (five_of (string_in row.strings 5)).n4

abbrev pub is_there_in : Row → Entry → Bool
is_there_in row e = has_five row && not (eqb e.day 0)

abbrev pub part_tests : Row → Entry → ℕ → List Test
part_tests row e room = test 13 (not (is_there_in row e)) ∷ all_tests (words_in row) (n4_in row) room

-- the four lines, with the carrier number of the entry
abbrev pub text_by : ImmediateWords → ℤ → Entry → List ℕ
text_by w n4 e = record_text w n4 (odd_words (meaning e)).h

abbrev pub PutsNavigation : Row → Entry → List ℕ → List ℕ → ℕ → Type 0
PutsNavigation row e out out' r = TellsAll (part_tests row e (length out)) (nat_abs (words_in row).four.n ∷ []) (text_by (words_in row) (n4_in row) e) out out' r

-- ---- of a channel: 16, 1, 15, and then these; n, and the four lines
abbrev pub TellsNavigation : Station → ℕ → ℕ → List ℕ → List ℕ → ℕ → Type 0
TellsNavigation st card c out out' r = TellsAll (record_tests st card c (length out)) (n_at st c ∷ []) (text_at st c) out out' r
