-- Every history can be run (every-history): whatever the calls, there is an answer to each that its contract fits, so the laws of runs are of all
-- histories.
-- Assumes nothing.
use mathlib.Core.Path.{◌≡◌, refl, sym, ap, ◌∙◌}
use mathlib.Core.List.{List, [], ◌∷◌, ◌++◌}
use mathlib.Core.Logic.{⊎_elim}
use Prim.Native.Nat.{ℕ}
use lib.Dec.{T}
use Rattle.strings.specs.declared.Verdict.{Verdict}
use Rattle.channel.specs.declared.TakenString.{TakenString}
use Rattle.strings.specs.declared.Refusal.{Refusal}
use Rattle.std.specs.Prelude.{Result, Ok, Err, ⊤}
use Rattle.strings.specs.Numbers.{Test, first_of, answer_of}
use Rattle.strings.specs.Calls.{written_paper, sound_tests}
use Rattle.words.specs.Calls.{number_in}
use Rattle.strings.specs.Number.{number_of}
use Rattle.relative.specs.declared.Polarity.{Polarity}
use Rattle.relative.specs.Polarity.{polarity_of, polarity_number}
use Rattle.channel.specs.declared.News.{News}
use Rattle.channel.specs.Frame.{news_of}
use Rattle.hearing.specs.Hears.{whole_of, verdict_in}
use Rattle.channel.specs.Offers.{answer_paper, told_as, took}
use Rattle.channel.proofs.EitherWay.{polarity_in}
use Rattle.station.specs.declared.Station.{Station}
use Rattle.station.specs.Station.{held_at, gate_tests, station_tests, told_in, station_after, OffersTo, station_reset, Resets}
use Rattle.station.specs.History.{Call, Offer, Reset, Runs, fresh, offering, resetting, station_of}
use Rattle.station.proofs.Refusals.{named, Fitting, settles, taken_says}

-- an answer that such tests give
pub record Told (ts : List Test) (told : List ℕ) : Type 0 where
  pub answer : Result TakenString Refusal
  pub is : answer_paper answer ≡ answer_of ts told

told_by_lem : (m : ℕ) (v : Verdict) (w : News) (p : Polarity) (told : List ℕ) → told ≡ told_as m v w ++ (polarity_number p ∷ [])
    → (ts : List Test) → T (named ts) → Told ts told
told_by_lem m v w p told e ts a =
    ⊎_elim (λ (z : first_of ts ≡ 0). record { answer = took m v w p; is = ap (λ (l : List ℕ). 0 ∷ l) (sym e) ∙ taken_says ts told z })
    (λ (f : Fitting ts). record { answer = Err f.refusal; is = f.says told }) (settles ts a)

-- ---- an offer has an answer, and so has a reset
pub some_answer : (st : Station) (card c epoch : ℕ) (s : List ℕ) → Told (station_tests st card c epoch s) (told_in st c epoch s)
unfolding sound_tests
some_answer st card c epoch s =
    told_by_lem (number_in (whole_of s)) (verdict_in s) (news_of (held_at st c) epoch (whole_of s)) (polarity_of (number_of s)) (told_in st c epoch s)
    (polarity_in (held_at st c) epoch s) (station_tests st card c epoch s) tt

pub offer_answers : (st : Station) (card c epoch : ℕ) (s : List ℕ)
    → OffersTo st card c epoch s (record { station = station_after st card c epoch s; answer = (some_answer st card c epoch s).answer })
offer_answers st card c epoch s = record { answer = (some_answer st card c epoch s).is; station = refl }

written_by : (ts : List Test) → T (named ts) → (w : Result ⊤ Refusal) × (written_paper w ≡ answer_of ts [])
written_by ts a =
    ⊎_elim (λ (z : first_of ts ≡ 0). (Ok tt, taken_says ts [] z)) (λ (f : Fitting ts). (Err f.refusal, f.says [])) (settles ts a)

pub reset_answer : ℕ → ℕ → Result ⊤ Refusal
reset_answer card c = (written_by (gate_tests card c) tt).0

pub reset_answers : (st : Station) (card c : ℕ) → Resets st card c (record { station = station_reset st card c; answer = reset_answer card c })
unfolding reset_answer
reset_answers st card c = record { answer = (written_by (gate_tests card c) tt).1; station = refl }

-- EVERY HISTORY HAS ITS RUN
pub every_history : (cs : List Call) → Runs cs (station_of cs)
unfolding station_of
every_history [] = fresh
every_history (Offer card c epoch s ∷ cs) =
    offering card c epoch s cs (station_of cs) (record { station = station_after (station_of cs) card c epoch s; answer = (some_answer (station_of cs) card c epoch s).answer })
    (every_history cs) (offer_answers (station_of cs) card c epoch s)
every_history (Reset card c ∷ cs) =
    resetting card c cs (station_of cs) (record { station = station_reset (station_of cs) card c; answer = reset_answer card c }) (every_history cs) (reset_answers (station_of cs) card c)
