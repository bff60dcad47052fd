-- Packed answers tell any two answers of a call apart: of two answers by value, to whatever stations and whichever cards, the host is told the same only where
-- they are the same. An output has room. Proved as `told_apart` in `proofs/Apart.antt`.
-- Assumes nothing.
use Rattle.std.specs.Prelude.{ℕ, List, ◌≡◌, ℤ, length, Result, Ok, Err}
use Rattle.navigation.specs.declared.Unwritten.{Unwritten}
use Rattle.station.specs.declared.Health.{Health}
use Rattle.summary.specs.declared.Summary.{Summary}
use Rattle.tallies.specs.declared.Tallies.{Tallies}
use Rattle.records.specs.declared.named.ImmediateWords.{ImmediateWords}
use Rattle.strings.specs.declared.Refusal.{Refusal}
use Rattle.strings.specs.Calls.{written_paper}
use Rattle.book.specs.declared.Entry.{Entry}
use Rattle.book.specs.declared.Book.{Book}
use Rattle.book.specs.Book.{IsBook}
use Rattle.wire.specs.Bytes.{book_bytes}
use Rattle.channel.specs.Offers.{answer_paper}
use Rattle.station.specs.declared.Station.{Station}
use Rattle.station.specs.declared.Stepped.{Stepped}
use Rattle.station.specs.declared.Emptied.{Emptied}
use Rattle.station.specs.Station.{OffersTo, Resets}
use Rattle.station.specs.Queries.{FindsRecord, FindsEntry, FindsTallies, FindsSummary, FindsHealth}
use Rattle.blocks.specs.declared.Taken.{Taken}
use Rattle.blocks.specs.Taking.{Takes}
use Rattle.navigation.specs.Writes.{Writes}
use Rattle.told.specs.Told.{packed}
use Rattle.lent_queries.specs.Lent.{entry_numbers}
use Rattle.lent_life.specs.ByValue.{summary_back, tallies_back, entry_back, record_back, health_back, field_back, navigation_back}

-- an entry is told in its words, of which a minus zero is read as a zero: two answers are the same refusal, or entries with the same words
pub data SameWords : Result Entry Refusal → Result Entry Refusal → Type 0 where
  found : (e f : Entry) → entry_numbers e ≡ entry_numbers f → SameWords (Ok e) (Ok f)
  refused : (why : Refusal) → SameWords (Err why) (Err why)

pub record ToldApart : Type 0 where
  pub offer : (st st' : Station) (card card' c c' epoch epoch' : ℕ) (s s' : List ℕ) (r r' : Stepped) → OffersTo st card c epoch s r → OffersTo st' card' c' epoch' s' r'
      → packed (answer_paper r.answer) ≡ packed (answer_paper r'.answer) → r.answer ≡ r'.answer
  pub reset : (st st' : Station) (card card' c c' : ℕ) (r r' : Emptied) → Resets st card c r → Resets st' card' c' r'
      → packed (written_paper r.answer) ≡ packed (written_paper r'.answer) → r.answer ≡ r'.answer
  -- of fields at one place, which the host has
  pub field : (st st' : Station) (card card' : ℕ) (block block' : List ℕ) (at : ℕ) (r r' : Taken) → Takes st card block at r → Takes st' card' block' at r'
      → field_back r ≡ field_back r' → r.told ≡ r'.told
  pub health : (st st' : Station) (card card' c c' : ℕ) (x y : Result Health Refusal) → FindsHealth st card c x → FindsHealth st' card' c' y → health_back x ≡ health_back y → x ≡ y
  pub summary : (st st' : Station) (card card' : ℕ) (out out' : List ℕ) (x y : Result Summary Refusal) → length out ≡ 3 → length out' ≡ 3
      → FindsSummary st card x → FindsSummary st' card' y → summary_back x out ≡ summary_back y out' → x ≡ y
  pub tallies : (st st' : Station) (card card' c c' : ℕ) (out out' : List ℕ) (x y : Result Tallies Refusal) → length out ≡ 14 → length out' ≡ 14 → FindsTallies st card c x
      → FindsTallies st' card' c' y → tallies_back x out ≡ tallies_back y out' → x ≡ y
  pub immediate : (st st' : Station) (card card' c c' : ℕ) (words words' : List ℤ) (start start' : ℕ) (x y : Result (ImmediateWords × ℕ) Refusal) → length words ≡ 26 → length words' ≡ 26
      → FindsRecord st card c x → FindsRecord st' card' c' y → record_back x words start ≡ record_back y words' start' → x ≡ y
  pub entry : (st st' : Station) (card card' k k' : ℕ) (out out' : List ℤ) (x y : Result Entry Refusal) → length out ≡ 13 → length out' ≡ 13 → FindsEntry st card k x
      → FindsEntry st' card' k' y → entry_back x out ≡ entry_back y out' → SameWords x y
  -- a navigation record's quarter of an hour is told by its text
  pub navigation : (st st' : Station) (card card' c c' : ℕ) (out out' text text' : List ℕ) (x y : Result (ℕ × ℕ) Unwritten) → Writes st card c out x text → Writes st' card' c' out' y text'
      → navigation_back x text ≡ navigation_back y text' → x ≡ y
  -- and of the bytes of books that the types allow
  pub book : (a b : Book) → IsBook a → IsBook b → book_bytes a ≡ book_bytes b → a ≡ b
