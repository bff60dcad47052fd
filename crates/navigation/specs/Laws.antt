-- What is proved of a navigation record beside its text: one record, `laws` in `proofs/Laws.antt`. Of every station.
-- Assumes nothing.
use Rattle.std.specs.Prelude.{ℕ, ◌≤◌, true, false, List, [], ◌∷◌, ◌≡◌, length, get_or, Result, Ok}
use Rattle.navigation.specs.declared.Unwritten.{Unwritten}
use Rattle.strings.specs.Numbers.{numbers_of, Exactly}
use Rattle.book.specs.Book.{slots}
use Rattle.rinex.specs.Times.{InFourYears}
use Rattle.rinex.specs.Theorems.{FourLines}
use Rattle.station.specs.declared.Station.{Station}
use Rattle.station.specs.Station.{is_served}
use Rattle.station.specs.Demand1.{OneAnswer}
use Rattle.navigation.specs.Writes.{n_at, nt_at, tb_at, n4_at, is_there, is_day, is_four_years, record_tests, quarter_of, quarter_at, text_at, answer_paper, Writes}

-- a record that is written: of a satellite that has a slot, in a quarter of an hour of one of the 21 four years, in four lines
pub record IsWritten (st : Station) (c n quarter : ℕ) (out' : List ℕ) : Type 0 where
  pub satellite : n ≡ n_at st c
  pub least : 1 ≤ n
  pub most : n ≤ slots
  pub epoch : quarter ≡ quarter_at st c
  pub in_time : InFourYears (n4_at st c) (nt_at st c) (tb_at st c)
  pub text : out' ≡ text_at st c
  pub lines : FourLines out'

-- one number tells the epoch: N4, NT and tb
pub record SameEpoch (n4 nt tb n4' nt' tb' : ℕ) : Type 0 where
  pub four_years : n4 ≡ n4'
  pub day : nt ≡ nt'
  pub interval : tb ≡ tb'

pub record AllLaws : Type 0 where
  -- "Every call answers, for every input and every station it is handed", and no second answer and no second output fits
  pub answers : (st : Station) (card c : ℕ) (out : List ℕ) → OneAnswer (Result (ℕ × ℕ) Unwritten × List ℕ) (λ r. Writes st card c out r.0 r.1)
  -- "The first that fits is given, and given only then": "Refusals, in this order: the queries' own; 13 ..; 10 ..; 17"
  pub exactly : (st : Station) (card c : ℕ) (out : List ℕ) (r : Result (ℕ × ℕ) Unwritten) (out' : List ℕ) → Writes st card c out r out'
      → Exactly (record_tests st card c (length out)) (answer_paper r)
  pub order : (st : Station) (card c room : ℕ) → numbers_of (record_tests st card c room) ≡ 16 ∷ 1 ∷ 15 ∷ 13 ∷ 10 ∷ 17 ∷ []
  -- "10 when NT is not 1..1461 (place 26), then when N4 is not 1..21 (place 36"
  pub day_out : (st : Station) (card c : ℕ) (out : List ℕ) (r : Result (ℕ × ℕ) Unwritten) (out' : List ℕ) → Writes st card c out r out'
      → is_served card c ≡ true → is_there st c ≡ true → is_day st c ≡ false → answer_paper r ≡ 10 ∷ 26 ∷ []
  pub years_out : (st : Station) (card c : ℕ) (out : List ℕ) (r : Result (ℕ × ℕ) Unwritten) (out' : List ℕ) → Writes st card c out r out'
      → is_served card c ≡ true → is_there st c ≡ true → is_day st c ≡ true → is_four_years st c ≡ false → answer_paper r ≡ 10 ∷ 36 ∷ []
  -- "Refusals leave outputs untouched"
  pub untouched : (st : Station) (card c : ℕ) (out : List ℕ) (r : Result (ℕ × ℕ) Unwritten) (out' : List ℕ) → Writes st card c out r out'
      → (get_or (answer_paper r) 0 0 ≡ 0 → ⊥) → out' ≡ out
  pub written : (st : Station) (card c : ℕ) (out : List ℕ) (n quarter : ℕ) (out' : List ℕ) → Writes st card c out (Ok (n, quarter)) out'
      → IsWritten st c n quarter out'
  pub one_epoch : (n4 nt tb n4' nt' tb' : ℕ) → InFourYears n4 nt tb → InFourYears n4' nt' tb' → quarter_of n4 nt tb ≡ quarter_of n4' nt' tb'
      → SameEpoch n4 nt tb n4' nt' tb'
