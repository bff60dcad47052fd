-- A field done on a lent station, from what it asks: an offer's (lent-offer), a reset's (lent-reset), or no call (lent_none).
-- Assumes nothing.
use Prim.Native.Nat.{ℕ, ◌+◌, ◌*◌}
use native.Mathlib.Omega.{arith}
use mathlib.Core.List.{List, [], ◌∷◌}
use mathlib.Core.Path.{◌≡◌, sym, ap, ◌∙◌}
use Rattle.fields.specs.Block.{Call, Offer as OfferCall, Reset as ResetCall}
use Rattle.told.specs.Told.{packed}
use Rattle.station.specs.declared.Station.{Station}
use Rattle.blocks.specs.Taking.{answer_in, after_call, after_calls, answer_among, field_says, calls_at}
use Rattle.lent.specs.Lent.{OffersLent, ResetsLent}
use Rattle.lent_blocks.specs.declared.asking.Asked.TheVariants.{Offer, Reset, No}
use Rattle.lent_blocks.specs.Taking.{numbers_in, TakesLent}
use Rattle.lent_blocks.specs.Asking.{symbols_at, Asks}

module _ {st : Station} {card : ℕ} {block : List ℕ} {at : ℕ} where
  one_call : (call : Call) (tag : ℕ) {k : ℕ} {st' : Station} → calls_at block at ≡ call ∷ []
      → numbers_in (field_says st card block at) ≡ tag ∷ answer_among st card (calls_at block at)
      → k ≡ packed (answer_in st card call) → st' ≡ after_call st card call → TakesLent st card block at st' (tag + 256 * k)
  unfolding after_calls
  one_call call tag {k} c n p q =
      record {
        answer = sym (ap packed (n ∙ ap (λ (cs : List Call). tag ∷ answer_among st card cs) c) ∙ ap (λ (j : ℕ). tag + 256 * j) (sym p));
        station = q ∙ sym (ap (after_calls st card) c);
      }

  pub lent_offer : {channel epoch k : ℕ} {s : List ℕ} {st' : Station} → Asks block at (Offer channel epoch) → s ≡ symbols_at block at
      → OffersLent st card channel epoch s st' k → TakesLent st card block at st' (1 + 256 * k)
  unfolding answer_in after_call
  lent_offer {channel} {epoch} {s = s} a w o =
      one_call (OfferCall channel epoch s) 1 (rw w a.calls) (a.numbers st card) o.answer o.station

  pub lent_reset : {channel k : ℕ} {st' : Station} → Asks block at (Reset channel) → ResetsLent st card channel st' k
      → TakesLent st card block at st' (2 + 256 * k)
  unfolding answer_in after_call
  lent_reset {channel} a o =
      one_call (ResetCall channel) 2 a.calls (a.numbers st card) o.answer o.station

  pub lent_none : {told : ℕ} → Asks block at (No told) → TakesLent st card block at st told
  unfolding after_calls
  lent_none {told} a =
      let w : packed (told ∷ []) ≡ told = omega arith in
      record {
        answer = sym (ap packed (a.numbers st card ∙ ap (λ (cs : List Call). told ∷ answer_among st card cs) a.calls) ∙ w);
        station = sym (ap (after_calls st card) a.calls);
      }
