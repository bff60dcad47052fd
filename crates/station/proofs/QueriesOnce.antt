-- A station that is asked has one answer (records-once, entries-once, tallies-once, summaries-once, health-once), and each number is given exactly where its test
-- is the first to fit (records-exactly, entries-exactly, tallies-exactly, summaries-exactly, health-exactly).
-- Assumes nothing.
use mathlib.Core.Path.{◌≡◌, refl, sym, ap, ap₂, ◌∙◌}
use mathlib.Core.List.{List, [], ◌∷◌}
use Prim.Native.Nat.{ℕ}
use lib.Dec.{eqb}
use lib.ListN.{get_or}
use Rattle.strings.specs.Pick.{pick}
use Rattle.book.specs.declared.Entry.{Entry}
use Rattle.strings.specs.declared.Refusal.{Refusal}
use Rattle.records.specs.declared.named.ImmediateWords.{ImmediateWords}
use Rattle.std.specs.Prelude.{Result, Ok, Err}
use Rattle.strings.specs.Numbers.{first_of, left_by, Exactly}
use Rattle.strings.proofs.Answer.{refusal_same, not_taken, exactly}
use Rattle.summary.specs.declared.Summary.{Summary}
use Rattle.tallies.specs.declared.Tallies.{Tallies}
use Rattle.station.specs.declared.Station.{Station}
use Rattle.station.specs.declared.Health.{Health}
use Rattle.station.specs.declared.Health.TheVariants.{Unknown, Usable, NotUsable}
use Rattle.station.specs.Station.{card_test, gate_tests}
use Rattle.station.specs.Queries.{record_tests, record_paper, FindsRecord, entry_tests, entry_paper, FindsEntry, all_counts, tallies_paper, FindsTallies, summary_numbers, summary_paper, FindsSummary, health_number, health_paper, FindsHealth}

-- ---- the immediate record
-- NO SECOND ANSWER FITS
pub records_once : (st : Station) (card c : ℕ) (r q : Result (ImmediateWords × ℕ) Refusal) → FindsRecord st card c r → FindsRecord st card c q → r ≡ q
records_once st card c (Ok (w, p)) (Ok (v, q)) a b =
    let x = a.words w p refl in let y = b.words v q refl in ap₂ (λ (u : ImmediateWords) (z : ℕ). Ok (u, z)) (x.0 ∙ sym y.0) (x.1 ∙ sym y.1)
records_once st card c (Ok (w, s)) (Err q) a b = absurd (not_taken q [] (b.answer ∙ sym a.answer))
records_once st card c (Err p) (Ok (v, s)) a b = absurd (not_taken p [] (a.answer ∙ sym b.answer))
records_once st card c (Err p) (Err q) a b = ap Err (refusal_same p q (a.answer ∙ sym b.answer))

-- "The first that fits is given, and given only then"
pub records_exactly : (st : Station) (card c : ℕ) (r : Result (ImmediateWords × ℕ) Refusal) → FindsRecord st card c r → Exactly (record_tests st card c) (record_paper r)
records_exactly st card c r a = exactly tt (record { answer = a.answer; output = refl {a = left_by (first_of (record_tests st card c)) [] []} })

-- ---- an entry
-- NO SECOND ANSWER FITS
pub entries_once : (st : Station) (card k : ℕ) (r q : Result Entry Refusal) → FindsEntry st card k r → FindsEntry st card k q → r ≡ q
entries_once st card k (Ok e) (Ok f) a b = ap Ok (a.entry e refl ∙ sym (b.entry f refl))
entries_once st card k (Ok e) (Err q) a b = absurd (not_taken q _ (b.answer ∙ sym a.answer))
entries_once st card k (Err p) (Ok f) a b = absurd (not_taken p _ (a.answer ∙ sym b.answer))
entries_once st card k (Err p) (Err q) a b = ap Err (refusal_same p q (a.answer ∙ sym b.answer))

-- "The first that fits is given, and given only then"
pub entries_exactly : (st : Station) (card k : ℕ) (r : Result Entry Refusal) → FindsEntry st card k r → Exactly (entry_tests st card k) (entry_paper r)
entries_exactly st card k r a = exactly tt (record { answer = a.answer; output = refl {a = left_by (first_of (entry_tests st card k)) [] []} })

-- ---- the tallies
-- tallies, told by the numbers after the 0
abbrev tallies_by : List ℕ → Tallies
tallies_by l =
    record {
      offered = get_or l 1 0;
      clean = get_or l 2 0;
      repaired = get_or l 3 0;
      refused = get_or l 4 0;
      causes =
          record {
            shape = get_or l 5 0;
            unplaced = get_or l 6 0;
            even = get_or l 7 0;
            outside = get_or l 8 0;
            idle = get_or l 9 0;
            number = get_or l 10 0;
            early = get_or l 11 0;
            stale = get_or l 12 0;
            offbeat = get_or l 13 0;
            conflict = get_or l 14 0;
          };
    }

-- an answer is known by its numbers
pub tallies_same : (r q : Result Tallies Refusal) → tallies_paper r ≡ tallies_paper q → r ≡ q
tallies_same (Ok t) (Ok u) e = ap (λ (l : List ℕ). Ok (tallies_by l)) e
tallies_same (Ok t) (Err q) e = absurd (not_taken q (all_counts t) (sym e))
tallies_same (Err p) (Ok u) e = absurd (not_taken p (all_counts u) e)
tallies_same (Err p) (Err q) e = ap Err (refusal_same p q e)

-- NO SECOND ANSWER FITS
pub tallies_once : (st : Station) (card c : ℕ) (r q : Result Tallies Refusal) → FindsTallies st card c r → FindsTallies st card c q → r ≡ q
unfolding FindsTallies
tallies_once st card c r q a b = tallies_same r q (a ∙ sym b)

-- "The first that fits is given, and given only then"
pub tallies_exactly : (st : Station) (card c : ℕ) (r : Result Tallies Refusal) → FindsTallies st card c r → Exactly (gate_tests card c) (tallies_paper r)
unfolding FindsTallies
tallies_exactly st card c r a = exactly tt (record { answer = a; output = refl {a = left_by (first_of (gate_tests card c)) [] []} })

-- ---- the summary
-- an answer is known by its numbers
abbrev summary_by : List ℕ → Summary
summary_by l = record { count = get_or l 1 0; oldest = get_or l 2 0; newest = get_or l 3 0 }

summary_same : (r q : Result Summary Refusal) → summary_paper r ≡ summary_paper q → r ≡ q
summary_same (Ok s) (Ok t) e = ap (λ (l : List ℕ). Ok (summary_by l)) e
summary_same (Ok s) (Err q) e = absurd (not_taken q (summary_numbers s) (sym e))
summary_same (Err p) (Ok t) e = absurd (not_taken p (summary_numbers t) e)
summary_same (Err p) (Err q) e = ap Err (refusal_same p q e)

-- NO SECOND ANSWER FITS
pub summaries_once : (st : Station) (card : ℕ) (r q : Result Summary Refusal) → FindsSummary st card r → FindsSummary st card q → r ≡ q
unfolding FindsSummary
summaries_once st card r q a b = summary_same r q (a ∙ sym b)

-- "The first that fits is given, and given only then"
pub summaries_exactly : (st : Station) (card : ℕ) (r : Result Summary Refusal) → FindsSummary st card r → Exactly (card_test card ∷ []) (summary_paper r)
unfolding FindsSummary
summaries_exactly st card r a = exactly tt (record { answer = a; output = refl {a = left_by (first_of (card_test card ∷ [])) [] []} })

-- ---- health
-- the health of a number
abbrev health_of : ℕ → Health
health_of k = pick (eqb k 0) Unknown (pick (eqb k 1) Usable NotUsable)

health_back_lem : (h : Health) → health_of (health_number h) ≡ h
health_back_lem Unknown = refl
health_back_lem Usable = refl
health_back_lem NotUsable = refl

-- an answer is known by its numbers
pub health_same : (r q : Result Health Refusal) → health_paper r ≡ health_paper q → r ≡ q
health_same (Ok h) (Ok g) e =
    ap Ok (sym (health_back_lem h) ∙ ap (λ (l : List ℕ). health_of (get_or l 1 0)) e ∙ health_back_lem g)
health_same (Ok h) (Err q) e = absurd (not_taken q (health_number h ∷ []) (sym e))
health_same (Err p) (Ok g) e = absurd (not_taken p (health_number g ∷ []) e)
health_same (Err p) (Err q) e = ap Err (refusal_same p q e)

-- NO SECOND ANSWER FITS
pub health_once : (st : Station) (card c : ℕ) (r q : Result Health Refusal) → FindsHealth st card c r → FindsHealth st card c q → r ≡ q
unfolding FindsHealth
health_once st card c r q a b = health_same r q (a ∙ sym b)

-- "The first that fits is given, and given only then"
pub health_exactly : (st : Station) (card c : ℕ) (r : Result Health Refusal) → FindsHealth st card c r → Exactly (gate_tests card c) (health_paper r)
unfolding FindsHealth
health_exactly st card c r a = exactly tt (record { answer = a; output = refl {a = left_by (first_of (gate_tests card c)) [] []} })
