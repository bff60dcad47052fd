-- The navigation record of a channel (request 11): "It writes one record from an immediate record, the four-year number of string 5 of the same frame, and
-- the book's carrier number for n". Of every station, in the words of the station's queries alone.
-- Assumes nothing.
use Rattle.std.specs.Prelude.{ℕ, ◌+◌, ◌*◌, Bool, not, ◌&&◌, List, [], ◌∷◌, ◌++◌, eqb, leb, nat_abs, length, Result, Ok, Err}
use Rattle.navigation.specs.declared.Unwritten.{Unwritten}
use Rattle.strings.specs.Pick.{pick}
use Rattle.strings.specs.Numbers.{refusal_paper, Test, test, test_at, Answers}
use Rattle.records.specs.declared.named.ImmediateWords.{ImmediateWords}
use Rattle.words.specs.Immediate.{immediate_of}
use Rattle.immediate.specs.Kept.{has_record}
use Rattle.rinex.specs.Times.{day_of}
use Rattle.rinex.specs.Record.{record_text}
use Rattle.station.specs.declared.Station.{Station}
use Rattle.station.specs.Station.{gate_tests}
use Rattle.station.specs.Queries.{kept_at}
use Rattle.navigation_queries.specs.Five.{is_five_at, five_at}
use Rattle.navigation_queries.specs.Carrier.{has_entry, carrier_at}
use Rattle.navigation.specs.declared.Unwritten.TheVariants.{Refused, Lines}

-- ---- what it is written from
-- "an immediate record": its words; among them n, NT and tb
abbrev pub words_at : Station → ℕ → ImmediateWords
words_at st c = immediate_of (kept_at st c).strings

abbrev pub n_at : Station → ℕ → ℕ
n_at st c = nat_abs (words_at st c).four.n

abbrev pub nt_at : Station → ℕ → ℕ
nt_at st c = nat_abs (words_at st c).four.nt

abbrev pub tb_at : Station → ℕ → ℕ
tb_at st c = nat_abs (words_at st c).two.tb

-- "the four-year number of string 5 of the same frame"
abbrev pub n4_at : Station → ℕ → ℕ
n4_at st c = nat_abs (five_at st c).n4

-- ---- the tests
-- "13 when record, string 5 or entry is missing"
abbrev pub is_there : Station → ℕ → Bool
is_there st c = has_record (kept_at st c) && (is_five_at st c && has_entry st (n_at st c))

-- "10 when NT is not 1..1461 (place 26), then when N4 is not 1..21 (place 36; two-digit years end with 2079)"
abbrev pub is_within : ℕ → ℕ → ℕ → Bool
is_within least most k = leb least k && leb k most

abbrev pub is_day : Station → ℕ → Bool
is_day st c = is_within 1 1461 (nt_at st c)

abbrev pub is_four_years : Station → ℕ → Bool
is_four_years st c = is_within 1 21 (n4_at st c)

abbrev pub place_out : Station → ℕ → ℕ
place_out st c = pick (is_day st c) 36 26

-- "17 when the output is not 320 bytes (four lines of 79 columns and a line feed)"
abbrev pub record_bytes : ℕ
record_bytes = 320

-- "Refusals, in this order: the queries' own;" and these
abbrev pub record_tests : Station → ℕ → ℕ → ℕ → List Test
record_tests st card c room =
    gate_tests card c
    ++ (test 13 (not (is_there st c))
    ∷ test_at 10 (place_out st c) (not (is_day st c && is_four_years st c))
    ∷ test 17 (not (eqb room record_bytes))
    ∷ [])

-- ---- the answer
-- the epoch of a record as one number: quarters of an hour, which tb counts, since 31 December 1995, midnight in Moscow
abbrev pub quarter_of : ℕ → ℕ → ℕ → ℕ
quarter_of n4 nt tb = day_of n4 nt * 96 + tb

abbrev pub quarter_at : Station → ℕ → ℕ
quarter_at st c = quarter_of (n4_at st c) (nt_at st c) (tb_at st c)

abbrev pub answer_paper : Result (ℕ × ℕ) Unwritten → List ℕ
answer_paper (Ok (n, quarter)) = 0 ∷ n ∷ quarter ∷ []
answer_paper (Err (Refused r)) = refusal_paper r
answer_paper (Err Lines) = 17 ∷ []

-- the four lines
unfoldable pub text_at : Station → ℕ → List ℕ
text_at st c = record_text (words_at st c) (five_at st c).n4 (carrier_at st (n_at st c))

-- a record asked for by a card: what it is answered, and the output after it; "Refusals leave outputs untouched"
unfoldable pub Writes : Station → ℕ → ℕ → List ℕ → Result (ℕ × ℕ) Unwritten → List ℕ → Type 0
Writes st card c out r out' = Answers (record_tests st card c (length out)) (n_at st c ∷ quarter_at st c ∷ []) (text_at st c) out (answer_paper r) out'
