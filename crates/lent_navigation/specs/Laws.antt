-- What a host in C is told of a lent station's navigation record is what `write_record` answers of the same station by value: the same output, and the
-- first two of its numbers. Proved as `laws` in `proofs/Laws.antt`.
-- Assumes nothing.
use Rattle.std.specs.Prelude.{ℕ, ◌%◌, List, [], ◌∷◌, ◌≡◌, length, get_or, take, Result, Ok}
use Rattle.navigation.specs.declared.Unwritten.{Unwritten}
use Rattle.strings.specs.Numbers.{Exactly}
use Rattle.station.specs.declared.Station.{Station}
use Rattle.navigation.specs.Writes.{record_tests, answer_paper, Writes}
use Rattle.told.specs.Told.{packed}
use Rattle.lent_navigation.specs.Lent.{TellsNavigation}

pub record Laws : Type 0 where
  -- the same output, and the numbers but for the quarter of an hour
  pub same : (st : Station) (card c : ℕ) (out out' out'' : List ℕ) (r : ℕ) (x : Result (ℕ × ℕ) Unwritten) → Writes st card c out x out'' → TellsNavigation st card c out out' r
      → (out' ≡ out'') × (r ≡ packed (take 2 (answer_paper x)))
  -- the lowest byte is the paper's number: "The first that fits is given, and given only then"
  pub number : (st : Station) (card c : ℕ) (out out' out'' : List ℕ) (r : ℕ) (x : Result (ℕ × ℕ) Unwritten) → Writes st card c out x out'' → TellsNavigation st card c out out' r
      → r % 256 ≡ get_or (answer_paper x) 0 0
  pub exactly : (st : Station) (card c : ℕ) (out out' : List ℕ) (r : ℕ) → TellsNavigation st card c out out' r → Exactly (record_tests st card c (length out)) (r % 256 ∷ [])
  -- "Refusals leave outputs untouched"
  pub untouched : (st : Station) (card c : ℕ) (out out' : List ℕ) (r : ℕ) → TellsNavigation st card c out out' r → (r % 256 ≡ 0 → ⊥) → out' ≡ out
  -- a record's answer tells its satellite, whichever stations were asked
  pub satellite : (st st' : Station) (card c card' c' n n' quarter quarter' : ℕ) (out text left out' text' left' : List ℕ) (r : ℕ)
      → Writes st card c out (Ok (n, quarter)) text → TellsNavigation st card c out left r
      → Writes st' card' c' out' (Ok (n', quarter')) text' → TellsNavigation st' card' c' out' left' r
      → n ≡ n'
