-- The records of an input, offered one after the other to a fresh station, and their answers added up (one_more, all_told).
-- Assumes nothing.
use Prim.Native.Nat.{ℕ, ◌+◌, ◌*◌, ◌/◌}
use native.Mathlib.Numerals.{add-one}
use mathlib.Core.List.{List, []}
use mathlib.Core.Path.{◌≡◌, refl, sym, ap, ap₂, subst, ◌∙◌}
use lib.Bits.{bit_xor}
use lib.ListN.{length, take, drop}
use Rattle.book.specs.Book.{in_slot}
use Rattle.channel.specs.Offers.{answer_paper}
use Rattle.station.specs.declared.Station.{Station}
use Rattle.station.specs.declared.Stepped.{Stepped}
use Rattle.station.specs.Station.{fresh_station, OffersTo}
use Rattle.station.specs.History.{Runs, fresh, offering, station_of}
use Rattle.station.proofs.Demands.{runs_is}
use Rattle.station.proofs.Reorder.{offer_said}
use Rattle.fields.specs.Sixteen.{channel_in, epoch_in, symbols_in}
use Rattle.measured.specs.Whole.{calls_in, byte_of, sum_of, SumsUp}

-- ---- the first i records are offered
pub record SoFar (input : List ℕ) (st : Station) (sum i : ℕ) : Type 0 where
  pub run : Runs (calls_in input i) st
  pub summed : sum ≡ sum_of input i

abbrev OfferedOf : Station → List ℕ → Stepped → Type 0
OfferedOf st rec r = OffersTo st 1 (channel_in rec) (epoch_in rec) (symbols_in rec) r

pub offered_of : {st : Station} {card c d epoch time : ℕ} {s t : List ℕ} {r : Stepped} → c ≡ d → epoch ≡ time → s ≡ t → OffersTo st card c epoch s r
    → OffersTo st card d time t r
offered_of e f g o = rw (← e, ← f, ← g) o

pub none_yet : (input : List ℕ) (st : Station) → st ≡ fresh_station → SoFar input st 0 0
unfolding calls_in sum_of
none_yet input st e = record { run = subst (Runs []) (sym e) fresh; summed = refl }

-- one record more
pub one_more_lem : {input rec : List ℕ} {st : Station} {sum i byte : ℕ} {r : Stepped} → SoFar input st sum i → rec ≡ take 16 (drop (i * 16) input)
    → OfferedOf st rec r → byte ≡ byte_of (answer_paper r.answer) → SoFar input r.station (bit_xor sum byte) (i + 1)
unfolding calls_in sum_of
one_more_lem {input} {rec} {st} {sum} {i} {byte} {r} s e o b =
    let p : OfferedOf st (take 16 (drop (i * 16) input)) r = subst (λ (l : List ℕ). OfferedOf st l r) e o in
    rw add-one
    (record {
      run = offering _ _ _ _ (calls_in input i) st r s.run p;
      summed = ap₂ bit_xor s.summed (b ∙ ap byte_of (offer_said (calls_in input i) st s.run _ _ _ _ r p));
    })

-- all of them, and a byte of the book
pub all_told : {input : List ℕ} {st : Station} {sum i top : ℕ} → SoFar input st sum i → i ≡ length input / 16 → top ≡ (in_slot st.book 1).etop
    → SumsUp input (bit_xor sum top)
all_told {input} {st} {sum} {i} {top} s e t =
    let r = runs_is (calls_in input i) st s.run in
    ap₂ bit_xor (s.summed ∙ ap (sum_of input) e) (t ∙ ap (λ (x : Station). (in_slot x.book 1).etop) r ∙ ap (λ (k : ℕ). (in_slot (station_of (calls_in input k)).book 1).etop) e)
