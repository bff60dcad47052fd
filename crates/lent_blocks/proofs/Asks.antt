-- What a field that was found asks of a station, by what it leads to (asks-offer, asks-reset, asks-end, asks-remark, asks-refused).
-- Assumes nothing.
use Prim.Native.Nat.{ℕ, ◌+◌, ◌-◌}
use native.Mathlib.Omega.{arith}
use mathlib.Core.List.{List, [], ◌∷◌}
use mathlib.Core.Path.{◌≡◌, refl, sym, ap, ap₂, ◌∙◌}
use lib.ListN.{get_or, take, drop}
use Rattle.fields.specs.declared.Why.{Why}
use Rattle.fields.specs.declared.Why.TheVariants.{Tag, Length, Cut}
use Rattle.fields.specs.declared.Field.{Field}
use Rattle.fields.specs.declared.Field.TheVariants.{End, Offer as OfferAt, Reset as ResetAt, Remark, Refused}
use Rattle.fields.specs.Sixteen.{channel_in, epoch_in, symbols_in}
use Rattle.fields.specs.Fields.{why_number, Finds}
use Rattle.fields.specs.Block.{Call, Offer as OfferCall}
use Rattle.station.specs.declared.Station.{Station}
use Rattle.blocks.specs.Taking.{answer_among, field_says, calls_at}
use Rattle.blocks.proofs.Found.{offer_place, offer_room, leads_offer, leads_reset, leads_end, leads_remark, says_refused, none_refused_lem}
use Rattle.lent_blocks.specs.declared.asking.Asked.TheVariants.{Offer, Reset, No}
use Rattle.lent_blocks.specs.Taking.{numbers_in}
use Rattle.lent_blocks.specs.Asking.{symbols_at, Asks}

module _ {block : List ℕ} {at after : ℕ} {f : Field} (found : Finds block at f after) where
  pub asks_offer : (body : ℕ) → f ≡ OfferAt body
      → Asks block at (Offer (channel_in (take (body + 16 - body) (drop body block))) (epoch_in (take (body + 16 - body) (drop body block))))
  asks_offer body e =
      let part = take (body + 16 - body) (drop body block) in
      let n : body + 16 - body ≡ 16 = omega arith in
      let s : symbols_in part ≡ symbols_at block at = ap₂ (λ (k j : ℕ). symbols_in (take k (drop j block))) n (offer_place found body e) in
      let l = leads_offer found body e in
      record {
        calls = l.calls ∙ ap (λ (x : List ℕ). OfferCall (channel_in part) (epoch_in part) x ∷ []) s;
        numbers = λ st card. ap numbers_in (l.says st card) ∙ ap (λ (cs : List Call). 1 ∷ answer_among st card cs) (sym l.calls);
        whole = λ _ _ _. omega (arith, offer_place found body e, offer_room found body e);
      }

  pub asks_reset : (body : ℕ) → f ≡ ResetAt body → Asks block at (Reset (get_or block body 0))
  asks_reset body e =
      let l = leads_reset found body e in
      record {
        calls = l.calls;
        numbers = λ st card. ap numbers_in (l.says st card) ∙ ap (λ (cs : List Call). 2 ∷ answer_among st card cs) (sym l.calls);
        whole = λ _ _ q. absurd (cc q);
      }

  -- no call, under this number
  asks_none : (k : ℕ) → calls_at block at ≡ [] → ((st : Station) (card : ℕ) → numbers_in (field_says st card block at) ≡ k ∷ []) → Asks block at (No k)
  asks_none k n says =
      record {
        calls = n;
        numbers = λ st card. says st card ∙ ap (λ (cs : List Call). k ∷ answer_among st card cs) (sym n);
        whole = λ _ _ q. absurd (cc q);
      }

  pub asks_end : f ≡ End → Asks block at (No 0)
  asks_end e = let l = leads_end found e in asks_none 0 l.calls (λ st card. ap numbers_in (l.says st card))

  pub asks_remark : f ≡ Remark → Asks block at (No 3)
  asks_remark e = let l = leads_remark found e in asks_none 3 l.calls (λ st card. ap numbers_in (l.says st card))

  pub asks_refused : (why : Why) (place : ℕ) → f ≡ Refused why place → Asks block at (No (why_number why))
  asks_refused why place e =
      asks_none (why_number why) (none_refused_lem found why place e) (λ st card. ap numbers_in (says_refused found why place e st card) ∙ first why)
    where
      first : (why : Why) → numbers_in (why_number why ∷ place ∷ []) ≡ why_number why ∷ []
      first Tag = refl
      first Length = refl
      first Cut = refl
