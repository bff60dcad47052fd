-- The client's second demand, as far as it is about a station: "The four tallies are the true counts since the channel's reset", to which request 9 added ten,
-- and "Demand 2 reads the new limit in place of 65,535". They are counted from the answers that the calls gave (`Tallied`), and from the calls alone
-- (`Counted`).
-- Assumes nothing.
use Rattle.std.specs.Prelude.{ℕ, ◌+◌, min, Bool, true, not, ◌&&◌, List, [], ◌∷◌, ◌≡◌, eqb, length, get_or, Ok}
use Rattle.strings.specs.Pick.{pick, is_one_of}
use Rattle.tallies.specs.Tallies.{is_offer, is_clean, is_repaired, is_refused, causes, is_refused_by, cause_of, limit, how_many}
use Rattle.tallies.specs.Counts.{AddUp}
use Rattle.records.specs.declared.named.ImmediateWords.{ImmediateWords}
use Rattle.immediate.specs.Kept.{record_in}
use Rattle.channel.specs.History.{held_after, outcomes, record_after, record_start}
use Rattle.station.specs.declared.Station.{Station}
use Rattle.station.specs.Station.{row_at, held_at}
use Rattle.station.specs.Queries.{kept_at, FindsRecord}
use Rattle.station.specs.History.{Call, Offer, Reset, is_on, calls_on}
use Rattle.station.specs.Said.{Said}

-- ---- from the answers
-- what the offers to a channel since its reset were answered, the latest first
abbrev pub since_reset : ℕ → Call → List ℕ → List (List ℕ) → List (List ℕ)
since_reset c (Offer card k epoch s) answer before = pick (is_on c (Offer card k epoch s)) (answer ∷ before) before
since_reset c (Reset card k) answer before = pick (is_on c (Reset card k)) [] before

unfoldable pub answers_since : ℕ → List Said → List (List ℕ)
answers_since c [] = []
answers_since c (x ∷ before) = since_reset c x.call x.answer (answers_since c before)

-- an answer is the number that says no; or 0, m, the verdict's case, 0 where it is clean, its bit, the news and the polarity
abbrev pub says_no : List ℕ → Bool
says_no answer = not (eqb (get_or answer 0 0) 0)

-- the number that it says
abbrev pub says_number : ℕ → List ℕ → Bool
says_number k answer = eqb (get_or answer 0 0) k

abbrev pub says_clean : List ℕ → Bool
says_clean answer = not (says_no answer) && eqb (get_or answer 2 0) 0

abbrev pub says_repaired : List ℕ → Bool
says_repaired answer = not (says_no answer) && not (eqb (get_or answer 2 0) 0)

abbrev pub count : (List ℕ → Bool) → List (List ℕ) → ℕ
count says [] = 0
count says (answer ∷ before) = pick (says answer) (count says before + 1) (count says before)

pub record Tallied (all : List Said) (st : Station) (c : ℕ) : Type 0 where
  pub offered : (row_at st c).tallies.offered ≡ min 4294967295 (length (answers_since c all))
  pub clean : (row_at st c).tallies.clean ≡ min 4294967295 (count says_clean (answers_since c all))
  pub repaired : (row_at st c).tallies.repaired ≡ min 4294967295 (count says_repaired (answers_since c all))
  pub refused : (row_at st c).tallies.refused ≡ min 4294967295 (count says_no (answers_since c all))
  pub cause : (k : ℕ) → is_one_of causes k ≡ true → cause_of (row_at st c).tallies k ≡ min 4294967295 (count (says_number k) (answers_since c all))

-- ---- from the calls alone; and the frame and the record of the row, with the start that is answered with its words
pub record Counted (cs : List Call) (st : Station) (c : ℕ) : Type 0 where
  pub frame : held_at st c ≡ held_after (calls_on c cs)
  pub kept : record_in (kept_at st c) ≡ record_after (calls_on c cs)
  pub kept_start : (kept_at st c).start ≡ record_start (calls_on c cs)
  pub told_start : (card : ℕ) (w : ImmediateWords) (start : ℕ) → FindsRecord st card c (Ok (w, start)) → start ≡ record_start (calls_on c cs)
  pub offered : (row_at st c).tallies.offered ≡ min limit (how_many is_offer (outcomes (calls_on c cs)))
  pub clean : (row_at st c).tallies.clean ≡ min limit (how_many is_clean (outcomes (calls_on c cs)))
  pub repaired : (row_at st c).tallies.repaired ≡ min limit (how_many is_repaired (outcomes (calls_on c cs)))
  pub refused : (row_at st c).tallies.refused ≡ min limit (how_many is_refused (outcomes (calls_on c cs)))
  pub cause : (k : ℕ) → is_one_of causes k ≡ true → cause_of (row_at st c).tallies k ≡ min limit (how_many (is_refused_by k) (outcomes (calls_on c cs)))
  -- "three sorts" and ten causes: what adds up to offered, and to refused
  pub adds_up : AddUp (outcomes (calls_on c cs)) (row_at st c).tallies
