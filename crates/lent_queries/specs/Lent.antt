-- What a station that is lent answers when it is asked (the paper: "Queries: 1 or 14, then 13", and "Refusals leave outputs untouched"): the tests of
-- the same query on a station by value, and before 13 ROOM of an output. The station is only read. For every station value, whichever card asks.
-- Assumes nothing.
use Rattle.std.specs.Prelude.{ℕ, not, List, [], ◌∷◌, ◌++◌, ◌≡◌, eqb, ℤ, pos, length, get_or, take}
use Rattle.strings.specs.Pick.{pick}
use Rattle.strings.specs.Numbers.{Test, test, first_of, answer_of}
use Rattle.records.specs.declared.named.EvenString.{EvenString}
use Rattle.records.specs.declared.named.OddString.{OddString}
use Rattle.records.specs.declared.named.ImmediateWords.{ImmediateWords}
use Rattle.records.specs.Records.{string1_list, string2_list, string3_list, string4_list, even_list, odd_list}
use Rattle.words.specs.Immediate.{immediate_of}
use Rattle.book.specs.declared.Entry.{Entry}
use Rattle.book.specs.Entry.{blank, meaning, even_words, odd_words}
use Rattle.book.specs.Book.{in_slot}
use Rattle.immediate.specs.declared.Immediate.{Immediate}
use Rattle.immediate.specs.Kept.{has_record}
use Rattle.station.specs.declared.Station.{Station}
use Rattle.station.specs.Station.{row_at, card_test, gate_tests}
use Rattle.station.specs.Queries.{kept_at, is_slot, is_empty, all_counts, summary_numbers, health_by, health_number}
use Rattle.told.specs.Told.{packed}

-- the entry that a book has at a place: that of the slot after it, as slots are numbered from 1
abbrev pub entry_at : Station → ℕ → Entry
entry_at st i = get_or st.book.entries i blank

-- ROOM: the output has not the wanted number of elements
abbrev pub room_test : {X : Type 0} → ℕ → List X → Test
room_test n out = test 12 (not (eqb (length out) n))

-- "Refusals leave outputs untouched"
abbrev pub left_in : {X : Type 0} → List Test → X → X → X
left_in tests made out = pick (eqb (first_of tests) 0) made out

-- a call that tries these tests in this order, with an output: the answer in one number, and what is made in the output, or it is as it was
pub record Tells {X : Type 0} (tests : List Test) (made out out' : X) (r : ℕ) : Type 0 where
  pub answer : r ≡ packed (answer_of tests [])
  pub output : out' ≡ left_in tests made out

-- n numbers made in an output
abbrev pub PutsOut : ℕ → List ℕ → List ℕ → List ℕ → ℕ → Type 0
PutsOut n made out out' r = Tells (room_test n out ∷ []) made out out' r

-- ---- the summary: 16, 12
abbrev pub summary_tests : ℕ → List ℕ → List Test
summary_tests card out = card_test card ∷ room_test 3 out ∷ []

abbrev pub TellsSummary : Station → ℕ → List ℕ → List ℕ → ℕ → Type 0
TellsSummary st card out out' r = Tells (summary_tests card out) (summary_numbers st.summary) out out' r

-- ---- the tallies: the gate, 12
abbrev pub tallies_tests : ℕ → ℕ → List ℕ → List Test
tallies_tests card c out = gate_tests card c ++ (room_test 14 out ∷ [])

abbrev pub TellsTallies : Station → ℕ → ℕ → List ℕ → List ℕ → ℕ → Type 0
TellsTallies st card c out out' r = Tells (tallies_tests card c out) (all_counts (row_at st c).tallies) out out' r

-- ---- an entry: 16, 14, 12, 13. Its day, and the words of its halves; the sender's l is no part of an entry
abbrev pub entry_list : ℕ → EvenString → OddString → List ℤ
entry_list day a b = pos day ∷ (take 7 (even_list a) ++ take 5 (odd_list b))

abbrev pub entry_numbers : Entry → List ℤ
entry_numbers e = entry_list e.day (even_words (meaning e)) (odd_words (meaning e))

abbrev pub slot_tests : ℕ → ℕ → List Test
slot_tests card k = card_test card ∷ test 14 (not (is_slot k)) ∷ []

-- of an entry alone: 12, 13
abbrev pub PutsEntry : Entry → List ℤ → List ℤ → ℕ → Type 0
PutsEntry e out out' r = Tells (room_test 13 out ∷ test 13 (eqb e.day 0) ∷ []) (entry_numbers e) out out' r

abbrev pub TellsEntry : Station → ℕ → ℕ → List ℤ → List ℤ → ℕ → Type 0
TellsEntry st card k out out' r = Tells (slot_tests card k ++ (room_test 13 out ∷ test 13 (is_empty st.book k) ∷ [])) (entry_numbers (in_slot st.book k)) out out' r

-- ---- the immediate record: the gate, 12, 13. Its 26 words in the order of the strings, and "its frame's start"
abbrev pub words_list : ImmediateWords → List ℤ
words_list w = take 5 (string1_list w.one) ++ (take 6 (string2_list w.two) ++ (take 7 (string3_list w.three) ++ take 8 (string4_list w.four)))

abbrev pub kept_tests : Immediate → List ℤ → List Test
kept_tests i words = room_test 26 words ∷ test 13 (not (has_record i)) ∷ []

pub record PutsRecord (i : Immediate) (words : List ℤ) (start : ℕ) (words' : List ℤ) (start' r : ℕ) : Type 0 where
  pub raw : Tells (kept_tests i words) (words_list (immediate_of i.strings)) words words' r
  pub begins : Tells (kept_tests i words) i.start start start' r

pub record TellsRecord (st : Station) (card c : ℕ) (words : List ℤ) (start : ℕ) (words' : List ℤ) (start' r : ℕ) : Type 0 where
  pub raw : Tells (gate_tests card c ++ kept_tests (kept_at st c) words) (words_list (immediate_of (kept_at st c).strings)) words words' r
  pub begins : Tells (gate_tests card c ++ kept_tests (kept_at st c) words) (kept_at st c).start start start' r

-- ---- health: the gate
unfoldable pub TellsHealth : Station → ℕ → ℕ → ℕ → Type 0
TellsHealth st card c r = r ≡ packed (answer_of (gate_tests card c) (health_number (health_by (kept_at st c) st.book) ∷ []))
