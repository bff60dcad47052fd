-- What a host in C is told of a lent station is what the same query on that station by value answers, where its output has room: the numbers (summary, tallies,
-- health), and for a record and an entry, which it gets in words, the number and the words.
-- Proved as `laws` in `proofs/Laws.antt`.
-- Assumes nothing.
use Rattle.std.specs.Prelude.{ℕ, List, [], ◌∷◌, ◌≡◌, eqb, ℤ, length, get_or, Result, Ok}
use Rattle.summary.specs.declared.Summary.{Summary}
use Rattle.station.specs.declared.Health.{Health}
use Rattle.tallies.specs.declared.Tallies.{Tallies}
use Rattle.strings.specs.declared.Refusal.{Refusal}
use Rattle.strings.specs.Pick.{pick}
use Rattle.records.specs.declared.named.ImmediateWords.{ImmediateWords}
use Rattle.book.specs.declared.Entry.{Entry}
use Rattle.station.specs.declared.Station.{Station}
use Rattle.station.specs.Queries.{FindsRecord, record_paper, FindsEntry, entry_paper, FindsTallies, tallies_paper, FindsSummary, summary_paper, FindsHealth, health_paper}
use Rattle.told.specs.Told.{packed}
use Rattle.lent_queries.specs.Lent.{TellsSummary, TellsTallies, TellsHealth, entry_numbers, TellsEntry, words_list, TellsRecord}

-- the number, and where it is 0 what the output then holds
abbrev pub told : ℕ → List ℕ → List ℕ
told r out = r ∷ pick (eqb r 0) out []

pub record Laws : Type 0 where
  pub summary : (st : Station) (card : ℕ) (out out' : List ℕ) (r : ℕ) (x : Result Summary Refusal) → length out ≡ 3 → FindsSummary st card x → TellsSummary st card out out' r → summary_paper x ≡ told r out'
  pub tallies : (st : Station) (card c : ℕ) (out out' : List ℕ) (r : ℕ) (x : Result Tallies Refusal) → length out ≡ 14 → FindsTallies st card c x → TellsTallies st card c out out' r
      → tallies_paper x ≡ told r out'
  pub health : (st : Station) (card c r : ℕ) (x : Result Health Refusal) → FindsHealth st card c x → TellsHealth st card c r → packed (health_paper x) ≡ r
  -- an entry: the same number, and its words where it is found
  pub entry : (st : Station) (card k : ℕ) (out out' : List ℤ) (r : ℕ) (x : Result Entry Refusal) → length out ≡ 13 → FindsEntry st card k x → TellsEntry st card k out out' r
      → (get_or (entry_paper x) 0 0 ≡ r) × ((e : Entry) → x ≡ Ok e → out' ≡ entry_numbers e)
  -- a record: in the same way, and its start
  pub immediate : (st : Station) (card c : ℕ) (words : List ℤ) (start : ℕ) (words' : List ℤ) (start' r : ℕ) (x : Result (ImmediateWords × ℕ) Refusal) → length words ≡ 26 → FindsRecord st card c x
      → TellsRecord st card c words start words' start' r
      → (get_or (record_paper x) 0 0 ≡ r) × ((w : ImmediateWords) (s : ℕ) → x ≡ Ok (w, s) → (words' ≡ words_list w) × (start' ≡ s))
