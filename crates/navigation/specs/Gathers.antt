-- What a record is written from, and how it is written from that: the two steps of `write_record`.
-- Assumes nothing.
use Rattle.std.specs.Prelude.{ℕ, not, ◌&&◌, List, [], ◌∷◌, ◌++◌, ◌≡◌, eqb, ℤ, nat_abs, length, Result, Ok, Err}
use Rattle.strings.specs.declared.Refusal.{Refusal}
use Rattle.navigation.specs.declared.Unwritten.{Unwritten}
use Rattle.strings.specs.Pick.{pick}
use Rattle.strings.specs.Numbers.{refusal_paper, Test, test, test_at, answer_of, Answers}
use Rattle.records.specs.declared.named.ImmediateWords.{ImmediateWords}
use Rattle.rinex.specs.Record.{From, record_text}
use Rattle.station.specs.declared.Station.{Station}
use Rattle.station.specs.Station.{gate_tests}
use Rattle.navigation_queries.specs.Five.{five_at}
use Rattle.navigation_queries.specs.Carrier.{carrier_at}
use Rattle.navigation.specs.Writes.{words_at, n_at, is_there, is_within, record_bytes, quarter_of, answer_paper}

-- ---- "the queries' own; 13 when record, string 5 or entry is missing"
abbrev pub gather_tests : Station → ℕ → ℕ → List Test
gather_tests st card c = gate_tests card c ++ (test 13 (not (is_there st c)) ∷ [])

abbrev pub gathered_paper : Result (ImmediateWords × ℤ × ℤ) Refusal → List ℕ
gathered_paper (Ok (w, n4, h)) = 0 ∷ []
gathered_paper (Err q) = refusal_paper q

pub record Gathers (st : Station) (card c : ℕ) (r : Result (ImmediateWords × ℤ × ℤ) Refusal) : Type 0 where
  pub answer : gathered_paper r ≡ answer_of (gather_tests st card c) []
  pub parts : (w : ImmediateWords) (n4 h : ℤ) → r ≡ Ok (w, n4, h) → (w ≡ words_at st c) × ((n4 ≡ (five_at st c).n4) × (h ≡ carrier_at st (n_at st c)))

-- ---- and then 10 and 17, by the words alone
abbrev pub all_tests : ImmediateWords → ℤ → ℕ → List Test
all_tests w n4 room =
    test_at 10 (pick (is_within 1 1461 (nat_abs w.four.nt)) 36 26) (not (is_within 1 1461 (nat_abs w.four.nt) && is_within 1 21 (nat_abs n4)))
    ∷ test 17 (not (eqb room record_bytes))
    ∷ []

abbrev pub told_of : ImmediateWords → ℤ → List ℕ
told_of w n4 = nat_abs w.four.n ∷ quarter_of (nat_abs n4) (nat_abs w.four.nt) (nat_abs w.two.tb) ∷ []

unfoldable pub WritesAll : ImmediateWords → ℤ → ℤ → List ℕ → Result (ℕ × ℕ) Unwritten → List ℕ → Type 0
WritesAll w n4 h out r out' = Answers (all_tests w n4 (length out)) (told_of w n4) (record_text w n4 h) out (answer_paper r) out'

-- words as a record's bits give them: NT has eleven, N4 and n five, tk twelve; tb is one of a record
pub record AsRead (w : ImmediateWords) (n4 : ℤ) : Type 0 where
  pub four_years : From 0 31 n4
  pub day : From 0 2047 w.four.nt
  pub interval : From 0 95 w.two.tb
  pub time : From 0 4095 w.one.tk
  pub satellite : From 0 31 w.four.n
