-- An offer and a reset have one answer and leave one station (offers-to-once, resets-once), and each number is given exactly where its test is the
-- first to fit (offers-to-exactly, resets-exactly).
-- Assumes nothing.
use mathlib.Core.Path.{◌≡◌, refl, sym, ap₂, ◌∙◌}
use mathlib.Core.List.{List, []}
use Prim.Native.Nat.{ℕ}
use Rattle.strings.specs.Numbers.{first_of, left_by, Exactly}
use Rattle.channel.specs.declared.TakenString.{TakenString}
use Rattle.strings.specs.declared.Refusal.{Refusal}
use Rattle.std.specs.Prelude.{Result, ⊤}
use Rattle.strings.specs.Calls.{written_paper, sound_tests}
use Rattle.strings.proofs.Answer.{written_same, exactly}
use Rattle.channel.specs.Offers.{answer_paper}
use Rattle.channel.proofs.Answers.{answer_same}
use Rattle.station.specs.declared.Station.{Station}
use Rattle.station.specs.declared.Stepped.{Stepped}
use Rattle.station.specs.declared.Emptied.{Emptied}
use Rattle.station.specs.Station.{gate_tests, station_tests, OffersTo, Resets}

-- NO SECOND ANSWER FITS, and no second station
pub offers_to_once : (st : Station) (card c epoch : ℕ) (s : List ℕ) (r q : Stepped) → OffersTo st card c epoch s r → OffersTo st card c epoch s q → r ≡ q
offers_to_once st card c epoch s r q a b =
    ap₂ (λ (x : Station) (y : Result TakenString Refusal). record { station = x; answer = y }) (a.station ∙ sym b.station)
    (answer_same r.answer q.answer (a.answer ∙ sym b.answer))

pub resets_once : (st : Station) (card c : ℕ) (r q : Emptied) → Resets st card c r → Resets st card c q → r ≡ q
resets_once st card c r q a b =
    ap₂ (λ (x : Station) (y : Result ⊤ Refusal). record { station = x; answer = y }) (a.station ∙ sym b.station)
    (written_same r.answer q.answer (a.answer ∙ sym b.answer))

-- "The first that fits is given, and given only then"
pub offers_to_exactly : (st : Station) (card c epoch : ℕ) (s : List ℕ) (r : Stepped) → OffersTo st card c epoch s r
    → Exactly (station_tests st card c epoch s) (answer_paper r.answer)
unfolding sound_tests
offers_to_exactly st card c epoch s r a =
    exactly tt (record { answer = a.answer; output = refl {a = left_by (first_of (station_tests st card c epoch s)) [] []} })

pub resets_exactly : (st : Station) (card c : ℕ) (r : Emptied) → Resets st card c r → Exactly (gate_tests card c) (written_paper r.answer)
resets_exactly st card c r a = exactly tt (record { answer = a.answer; output = refl {a = left_by (first_of (gate_tests card c)) [] []} })
