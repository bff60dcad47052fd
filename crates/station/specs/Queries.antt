-- What a station answers when it is asked (the paper: "Queries: 1 or 14, then 13", and "Health"; requests 5 and 10): "Every
-- offer, reset, query and block names the asking card".
-- Assumes nothing.
use Rattle.std.specs.Prelude.{ℕ, ◌*◌, ◌^◌, Bool, not, ◌&&◌, List, [], ◌∷◌, ◌++◌, map, ◌≡◌, eqb, leb, Result, Ok, Err}
use Rattle.strings.specs.declared.Refusal.{Refusal}
use Rattle.strings.specs.Pick.{pick}
use Rattle.strings.specs.Number.{word_of}
use Rattle.strings.specs.Numbers.{refusal_paper, Test, test, answer_of}
use Rattle.records.specs.declared.named.ImmediateWords.{ImmediateWords}
use Rattle.words.specs.Immediate.{string_at, immediate_of}
use Rattle.book.specs.declared.Entry.{Entry}
use Rattle.book.specs.declared.Book.{Book}
use Rattle.book.specs.Entry.{Three, meaning}
use Rattle.book.specs.Book.{slots, in_slot}
use Rattle.summary.specs.declared.Summary.{Summary}
use Rattle.immediate.specs.declared.Immediate.{Immediate}
use Rattle.tallies.specs.declared.Tallies.{Tallies}
use Rattle.tallies.specs.Tallies.{causes, cause_of}
use Rattle.immediate.specs.Kept.{has_record}
use Rattle.station.specs.declared.Station.{Station}
use Rattle.station.specs.declared.Health.{Health}
use Rattle.station.specs.declared.Health.TheVariants.{Unknown, Usable, NotUsable}
use Rattle.station.specs.Station.{row_at, card_test, gate_tests}

-- ---- the immediate record: the gate, 13
abbrev pub kept_at : Station → ℕ → Immediate
kept_at st c = (row_at st c).immediate

-- NOTHING: "record or entry asked for is absent"
abbrev pub record_tests : Station → ℕ → ℕ → List Test
record_tests st card c = gate_tests card c ++ (test 13 (not (has_record (kept_at st c))) ∷ [])

abbrev pub record_paper : Result (ImmediateWords × ℕ) Refusal → List ℕ
record_paper (Ok (w, start)) = 0 ∷ []
record_paper (Err q) = refusal_paper q

-- and where it is there, its words and "its frame's start"
pub record FindsRecord (st : Station) (card c : ℕ) (r : Result (ImmediateWords × ℕ) Refusal) : Type 0 where
  pub answer : record_paper r ≡ answer_of (record_tests st card c) []
  pub words : (w : ImmediateWords) (start : ℕ) → r ≡ Ok (w, start) → (w ≡ immediate_of (kept_at st c).strings) × (start ≡ (kept_at st c).start)

-- ---- an entry: 16, 14, 13. A card reaches "the book with its summary", whichever card brought the entry
-- SLOT: "slot not 1..24"
abbrev pub is_slot : ℕ → Bool
is_slot k = leb 1 k && leb k slots

-- a slot is empty where its day is 0
abbrev pub is_empty : Book → ℕ → Bool
is_empty b k = eqb (in_slot b k).day 0

abbrev pub entry_tests : Station → ℕ → ℕ → List Test
entry_tests st card k = card_test card ∷ test 14 (not (is_slot k)) ∷ test 13 (is_empty st.book k) ∷ []

-- an entry in three numbers: its day, the even string's bits 80..9 and the odd string's bits 80..10
abbrev pub three_numbers : Three → List ℕ
three_numbers t = t.day ∷ t.even ∷ t.odd ∷ []

abbrev pub entry_paper : Result Entry Refusal → List ℕ
entry_paper (Ok e) = 0 ∷ three_numbers (meaning e)
entry_paper (Err q) = refusal_paper q

pub record FindsEntry (st : Station) (card k : ℕ) (r : Result Entry Refusal) : Type 0 where
  pub answer : entry_paper r ≡ answer_of (entry_tests st card k) (three_numbers (meaning (in_slot st.book k)))
  pub entry : (e : Entry) → r ≡ Ok e → e ≡ in_slot st.book k

-- ---- the tallies: the gate
-- the four, and those of the causes in the order of the tests
abbrev pub all_counts : Tallies → List ℕ
all_counts t = t.offered ∷ t.clean ∷ t.repaired ∷ t.refused ∷ map (cause_of t) causes

abbrev pub tallies_paper : Result Tallies Refusal → List ℕ
tallies_paper (Ok t) = 0 ∷ all_counts t
tallies_paper (Err q) = refusal_paper q

unfoldable pub FindsTallies : Station → ℕ → ℕ → Result Tallies Refusal → Type 0
FindsTallies st card c r = tallies_paper r ≡ answer_of (gate_tests card c) (all_counts (row_at st c).tallies)

-- ---- the summary: 16. "how many slots are filled, the oldest day and the newest", as the station keeps it
abbrev pub summary_numbers : Summary → List ℕ
summary_numbers s = s.count ∷ s.oldest ∷ s.newest ∷ []

abbrev pub summary_paper : Result Summary Refusal → List ℕ
summary_paper (Ok s) = 0 ∷ summary_numbers s
summary_paper (Err q) = refusal_paper q

unfoldable pub FindsSummary : Station → ℕ → Result Summary Refusal → Type 0
FindsSummary st card r = summary_paper r ≡ answer_of (card_test card ∷ []) (summary_numbers st.summary)

-- ---- health: the gate
-- "the top bit of B": bit 80 of string 2
abbrev pub top_of_b : Immediate → ℕ
top_of_b i = word_of (string_at i.strings 1) 80 80

-- "its n": string 4, bits 11-15
abbrev pub satellite_of : Immediate → ℕ
satellite_of i = word_of (string_at i.strings 3) 15 11

-- "l of string 3": bit 65
abbrev pub l_of : Immediate → ℕ
l_of i = word_of (string_at i.strings 2) 65 65

-- M, the satellite's modification: string 4, bits 9-10
abbrev pub model_of : Immediate → ℕ
model_of i = word_of (string_at i.strings 3) 10 9

-- "With M = 00, bit 65 of string 3 is a reserved bit and plays no part in health"; "Other codes of M are read as 01.": l counts unless M is 00
abbrev pub l_counted : ℕ → ℕ → ℕ
l_counted model l = pick (eqb model 0) 0 l

-- C of an entry: bit 80 of its even string
abbrev pub status_of : Three → ℕ
status_of t = word_of (t.even * 2 ^ 8) 80 80

-- "usable only if the top bit of B is 0, l of string 3 is 0 and the book has C = 1", and not usable if one of them fails
unfoldable pub judged : ℕ → ℕ → ℕ → Health
judged b l c = pick (eqb b 0 && (eqb l 0 && eqb c 1)) Usable NotUsable

-- "Without a record, or without a book entry for its n, a channel's satellite is unknown"
abbrev pub is_known : Immediate → Book → Bool
is_known i b = has_record i && (is_slot (satellite_of i) && not (is_empty b (satellite_of i)))

-- C in the book for the record's n
abbrev pub status_in : Immediate → Book → ℕ
status_in i b = status_of (meaning (in_slot b (satellite_of i)))

unfoldable pub health_by : Immediate → Book → Health
health_by i b = pick (is_known i b) (judged (top_of_b i) (l_counted (model_of i) (l_of i)) (status_in i b)) Unknown

-- 0 unknown, 1 usable, 2 not usable
abbrev pub health_number : Health → ℕ
health_number Unknown = 0
health_number Usable = 1
health_number NotUsable = 2

abbrev pub health_paper : Result Health Refusal → List ℕ
health_paper (Ok h) = 0 ∷ health_number h ∷ []
health_paper (Err q) = refusal_paper q

unfoldable pub FindsHealth : Station → ℕ → ℕ → Result Health Refusal → Type 0
FindsHealth st card c r = health_paper r ≡ answer_of (gate_tests card c) (health_number (health_by (kept_at st c) st.book) ∷ [])
