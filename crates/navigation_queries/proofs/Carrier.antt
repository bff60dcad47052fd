-- The carrier number of an entry: what `carrier_of` finds, from what `entry_of` does (carrier-refused, carrier-there), once (carriers-once).
-- Assumes nothing.
use Prim.Native.Nat.{ℕ, zero, suc}
use mathlib.Core.List.{List, []}
use mathlib.Core.Path.{◌≡◌, refl, sym, ap, ◌∙◌}
use lib.IntN.{ℤ}
use Rattle.strings.specs.declared.Refusal.{Refusal}
use Rattle.std.specs.Prelude.{Result, Ok, Err}
use Rattle.strings.specs.Numbers.{refusal_paper, first_of, place_of, said_by}
use Rattle.strings.proofs.Answer.{refusal_same, not_taken, first_given}
use Rattle.records.specs.declared.named.OddString.{OddString}
use Rattle.book.specs.declared.Entry.{Entry}
use Rattle.book.specs.Entry.{meaning, odd_words}
use Rattle.station.specs.declared.Station.{Station}
use Rattle.station.specs.Queries.{entry_tests, FindsEntry}
use Rattle.navigation_queries.specs.Carrier.{FindsCarrier}

pub one_carrier : {h k : ℤ} → ◌≡◌ {A = Result ℤ Refusal} (Ok h) (Ok k) → h ≡ k
one_carrier q = cc

pub no_carrier : {r : Refusal} {h k : ℤ} → Err r ≡ Ok h → h ≡ k
no_carrier q = cc

-- what a call tells that is refused does not matter
refused_alike : (n : ℕ) (place told : List ℕ) (why : Refusal) → refusal_paper why ≡ said_by n place told → refusal_paper why ≡ said_by n place []
refused_alike zero place told why e = absurd (not_taken why told e)
refused_alike (suc n) place told why e = e

module _ (st : Station) (card k : ℕ) where
  pub carrier_refused : (why : Refusal) → FindsEntry st card k (Err why) → FindsCarrier st card k (Err why)
  carrier_refused why a = record { answer = refused_alike (first_of (entry_tests st card k)) (place_of (entry_tests st card k)) _ why a.answer; carrier = λ h q. no_carrier q }

  pub carrier_there : (e : Entry) (w : OddString) → FindsEntry st card k (Ok e) → w ≡ odd_words (meaning e) → FindsCarrier st card k (Ok w.h)
  carrier_there e w a q =
      let z = first_given (entry_tests st card k) _ a.answer in
      record {
        answer = rw z;
        carrier = λ h p. sym (one_carrier p) ∙ ap (λ (x : OddString). x.h) q ∙ ap (λ (x : Entry). (odd_words (meaning x)).h) (a.entry e refl);
      }

-- NO SECOND ANSWER FITS
pub carriers_once : (st : Station) (card k : ℕ) (r q : Result ℤ Refusal) → FindsCarrier st card k r → FindsCarrier st card k q → r ≡ q
carriers_once st card k (Ok h) (Ok i) a b = ap Ok (a.carrier h refl ∙ sym (b.carrier i refl))
carriers_once st card k (Ok h) (Err q) a b = absurd (not_taken q [] (b.answer ∙ sym a.answer))
carriers_once st card k (Err p) (Ok i) a b = absurd (not_taken p [] (a.answer ∙ sym b.answer))
carriers_once st card k (Err p) (Err q) a b = ap Err (refusal_same p q (a.answer ∙ sym b.answer))
