-- The client's first demand: of every call, every input and any station.
-- Assumes nothing.
use Rattle.std.specs.Prelude.{ℕ, ◌<◌, List, [], ◌∷◌, ◌≡◌, length, Result, Err, ⊤}
use Rattle.station.specs.declared.Health.{Health}
use Rattle.summary.specs.declared.Summary.{Summary}
use Rattle.tallies.specs.declared.Tallies.{Tallies}
use Rattle.book.specs.declared.Entry.{Entry}
use Rattle.records.specs.declared.named.ImmediateWords.{ImmediateWords}
use Rattle.relative.specs.declared.Polarity.{Polarity}
use Rattle.strings.specs.declared.Verdict.{Verdict}
use Rattle.strings.specs.declared.Refusal.{Refusal}
use Rattle.strings.specs.Numbers.{Exactly}
use Rattle.strings.specs.Calls.{written_paper, checked_paper, check_tests, Checks}
use Rattle.relative.specs.Calls.{decoded_paper, reading_tests, ReadsRelative, writing_tests, WritesRelative}
use Rattle.records.specs.declared.kinds.Kind.{Kind}
use Rattle.records.specs.declared.named.Record.{Record}
use Rattle.words.specs.Calls.{read_tests, reading_paper, Reads, write_tests, Writes}
use Rattle.book.specs.Book.{slots}
use Rattle.channel.specs.Offers.{answer_paper, OnlyCounted}
use Rattle.station.specs.declared.Station.{Station}
use Rattle.station.specs.declared.Stepped.{Stepped}
use Rattle.station.specs.declared.Emptied.{Emptied}
use Rattle.station.specs.Station.{channels, row_at, card_test, gate_tests, station_tests, OffersTo, Resets}
use Rattle.station.specs.Queries.{record_tests, record_paper, FindsRecord, entry_tests, entry_paper, FindsEntry, tallies_paper, FindsTallies, summary_paper, FindsSummary, health_paper, FindsHealth}

-- ---- "Every call answers, for every input and every station it is handed"
-- a call's relation holds of one answer, and of no second
pub record OneAnswer (A : Type 0) (Fits : A → Type 0) : Type 0 where
  pub answer : A
  pub fits : Fits answer
  pub only : (other : A) → Fits other → other ≡ answer

-- the calls on a station, whatever its fields say; an answer has the whole station after it
pub record StationAnswers (st : Station) : Type 0 where
  pub offer : (card c epoch : ℕ) (s : List ℕ) → OneAnswer Stepped (OffersTo st card c epoch s)
  pub reset : (card c : ℕ) → OneAnswer Emptied (Resets st card c)
  pub immediate_of_lem : (card c : ℕ) → OneAnswer (Result (ImmediateWords × ℕ) Refusal) (FindsRecord st card c)
  pub entry_of : (card slot : ℕ) → OneAnswer (Result Entry Refusal) (FindsEntry st card slot)
  pub tallies_of : (card c : ℕ) → OneAnswer (Result Tallies Refusal) (FindsTallies st card c)
  pub summary_of : (card : ℕ) → OneAnswer (Result Summary Refusal) (FindsSummary st card)
  pub health_of : (card c : ℕ) → OneAnswer (Result Health Refusal) (FindsHealth st card c)

-- the calls on strings and records: the answer, and the bytes that are left in an output
pub record StringsAnswer : Type 0 where
  pub check : (s out : List ℕ) → OneAnswer (Result Verdict Refusal × List ℕ) (λ r. Checks s out r.0 r.1)
  pub from_relative : (s out : List ℕ) → OneAnswer (Result Polarity Refusal × List ℕ) (λ r. ReadsRelative s out r.0 r.1)
  pub to_relative : (s out : List ℕ) → OneAnswer (Result ⊤ Refusal × List ℕ) (λ r. WritesRelative s out r.0 r.1)
  pub read : (s : List ℕ) (k : Kind) → OneAnswer (Result (ℕ × Record) Refusal) (Reads s k)
  pub write : (m : ℕ) (w : Record) (out : List ℕ) → OneAnswer (Result ⊤ Refusal × List ℕ) (λ r. Writes m w out r.0 r.1)

-- ---- "Bad input is refused with the number in our paper": "The first that fits is given, and given only then"
pub record StationNumbers (st : Station) : Type 0 where
  pub offer : (card c epoch : ℕ) (s : List ℕ) (r : Stepped) → OffersTo st card c epoch s r → Exactly (station_tests st card c epoch s) (answer_paper r.answer)
  pub reset : (card c : ℕ) (r : Emptied) → Resets st card c r → Exactly (gate_tests card c) (written_paper r.answer)
  pub immediate_of_lem : (card c : ℕ) (r : Result (ImmediateWords × ℕ) Refusal) → FindsRecord st card c r → Exactly (record_tests st card c) (record_paper r)
  pub entry_of : (card slot : ℕ) (r : Result Entry Refusal) → FindsEntry st card slot r → Exactly (entry_tests st card slot) (entry_paper r)
  pub tallies_of : (card c : ℕ) (r : Result Tallies Refusal) → FindsTallies st card c r → Exactly (gate_tests card c) (tallies_paper r)
  pub summary_of : (card : ℕ) (r : Result Summary Refusal) → FindsSummary st card r → Exactly (card_test card ∷ []) (summary_paper r)
  pub health_of : (card c : ℕ) (r : Result Health Refusal) → FindsHealth st card c r → Exactly (gate_tests card c) (health_paper r)

pub record StringNumbers : Type 0 where
  pub check : (s out : List ℕ) (r : Result Verdict Refusal) (out' : List ℕ) → Checks s out r out' → Exactly (check_tests s out) (checked_paper r)
  pub from_relative : (s out : List ℕ) (r : Result Polarity Refusal) (out' : List ℕ) → ReadsRelative s out r out' → Exactly (reading_tests s out) (decoded_paper r)
  pub to_relative : (s out : List ℕ) (r : Result ⊤ Refusal) (out' : List ℕ) → WritesRelative s out r out' → Exactly (writing_tests s out) (written_paper r)
  pub read : (s : List ℕ) (k : Kind) (r : Result (ℕ × Record) Refusal) → Reads s k r → Exactly (read_tests s k) (reading_paper r)
  pub write : (m : ℕ) (w : Record) (out : List ℕ) (r : Result ⊤ Refusal) (out' : List ℕ) → Writes m w out r out' → Exactly (write_tests m w out) (written_paper r)

-- ---- "a refused string changes nothing but its channel's tallies of strings offered and refused", and request 9 "lets a refused string move its own cause's
-- tally too": that of the number which it was answered. Each is one more, or stays at the limit; clean, repaired and the nine other causes stay
-- what the types say of a station: a row of fifteen strings for each channel and an entry for each slot. "For every station" supposes no more
pub record WellMade (st : Station) : Type 0 where
  pub rows : length st.rows ≡ channels
  pub strings : (c : ℕ) → c < channels → length (row_at st c).strings ≡ 165
  pub entries : length st.book.entries ≡ slots

pub record RefusalLeaves (st : Station) (c number : ℕ) (st' : Station) : Type 0 where
  pub book : st'.book ≡ st.book
  pub summary : st'.summary ≡ st.summary
  pub others : (k : ℕ) → (k ≡ c → ⊥) → row_at st' k ≡ row_at st k
  pub own : OnlyCounted number (row_at st c) (row_at st' c)

-- "CHANNEL changes nothing at all", nor do OWNER and CARD: rows, book and summary
pub record ShutLeaves (st : Station) (card c : ℕ) : Type 0 where
  pub offers : (epoch : ℕ) (s : List ℕ) (r : Stepped) → OffersTo st card c epoch s r → r.station ≡ st
  pub resets : (r : Emptied) → Resets st card c r → r.station ≡ st

-- ---- "and no output byte": whatever the number, the output is as it was handed over
pub record NoOutputByte : Type 0 where
  pub check : (s out : List ℕ) (why : Refusal) (out' : List ℕ) → Checks s out (Err why) out' → out' ≡ out
  pub from_relative : (s out : List ℕ) (why : Refusal) (out' : List ℕ) → ReadsRelative s out (Err why) out' → out' ≡ out
  pub to_relative : (s out : List ℕ) (why : Refusal) (out' : List ℕ) → WritesRelative s out (Err why) out' → out' ≡ out
  pub write : (m : ℕ) (w : Record) (out : List ℕ) (why : Refusal) (out' : List ℕ) → Writes m w out (Err why) out' → out' ≡ out
