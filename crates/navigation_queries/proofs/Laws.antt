-- The laws of the two queries, whole. Assumes nothing.
use Prim.Native.Nat.{ℕ}
use mathlib.Core.List.{[]}
use mathlib.Core.Logic.{⊎_elim}
use mathlib.Core.Path.{◌≡◌, refl, sym}
use Rattle.strings.specs.Numbers.{first_of, left_by}
use Rattle.strings.specs.declared.Refusal.{Refusal}
use Rattle.records.specs.declared.named.String5.{String5}
use Rattle.std.specs.Prelude.{Result, Ok, Err, ℤ}
use Rattle.strings.proofs.Answer.{exactly}
use Rattle.station.specs.declared.Station.{Station}
use Rattle.station.specs.Queries.{entry_tests}
use Rattle.station.specs.Demand1.{OneAnswer}
use Rattle.station.proofs.EveryCall.{one}
use Rattle.station.proofs.Refusals.{Fitting, settles, taken_says}
use Rattle.navigation_queries.specs.Five.{five_at, five_tests, FindsFive}
use Rattle.navigation_queries.specs.Carrier.{carrier_at, FindsCarrier}
use Rattle.navigation_queries.specs.Laws.{AllLaws}
use Rattle.navigation_queries.proofs.Five.{one_five, no_five, fives_once, fives_alike, five_after}
use Rattle.navigation_queries.proofs.Carrier.{one_carrier, no_carrier, carriers_once}

five_one : (st : Station) (card c : ℕ) → OneAnswer (Result String5 Refusal) (FindsFive st card c)
five_one st card c =
    let ts = five_tests st card c in
    ⊎_elim
    (λ (z : first_of ts ≡ 0). one (Result String5 Refusal) (FindsFive st card c) (fives_once st card c) (Ok (five_at st c)) (record { answer = taken_says ts [] z; words = λ w q. sym (one_five q) }))
    (λ (f : Fitting ts). one (Result String5 Refusal) (FindsFive st card c) (fives_once st card c) (Err f.refusal) (record { answer = f.says []; words = λ w q. no_five q }))
    (settles ts tt)

carrier_one : (st : Station) (card k : ℕ) → OneAnswer (Result ℤ Refusal) (FindsCarrier st card k)
carrier_one st card k =
    let ts = entry_tests st card k in
    ⊎_elim
    (λ (z : first_of ts ≡ 0). one (Result ℤ Refusal) (FindsCarrier st card k) (carriers_once st card k) (Ok (carrier_at st k)) (record { answer = taken_says ts [] z; carrier = λ h q. sym (one_carrier q) }))
    (λ (f : Fitting ts). one (Result ℤ Refusal) (FindsCarrier st card k) (carriers_once st card k) (Err f.refusal) (record { answer = f.says []; carrier = λ h q. no_carrier q }))
    (settles ts tt)

pub laws : AllLaws
laws =
    record {
      five_answers = five_one;
      carrier_answers = carrier_one;
      five_exactly = λ st card c r a. exactly tt (record { answer = a.answer; output = refl {a = left_by (first_of (five_tests st card c)) [] []} });
      carrier_exactly = λ st card k r a. exactly tt (record { answer = a.answer; output = refl {a = left_by (first_of (entry_tests st card k)) [] []} });
      five_order = λ st card c. refl;
      carrier_order = λ st card k. refl;
      five_after = five_after;
      fives_alike = fives_alike;
    }
