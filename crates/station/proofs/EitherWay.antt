-- A station cannot tell a string from its inverse but by the polarity that it answers: one offer (either_way), and calls one after the other
-- (histories-alike).
-- Assumes nothing.
use mathlib.Core.Path.{◌≡◌, refl, sym, ap, ap₂, subst, ◌∙◌}
use mathlib.Core.Bool.{Bool, true, false, true≢false}
use mathlib.Core.List.{List, [], ◌∷◌}
use mathlib.Core.Logic.{◌⊎◌, inl, inr, ⊎_elim}
use Prim.Native.Nat.{ℕ}
use Rattle.strings.specs.Number.{number_of, bytes_of_string}
use Rattle.strings.specs.Numbers.{first_of, place_of, answer_of}
use Rattle.strings.specs.Calls.{written_paper}
use Rattle.words.specs.Calls.{number_in}
use Rattle.relative.specs.Relative.{inverse}
use Rattle.relative.specs.Polarity.{polarity_of}
use Rattle.hearing.specs.Hears.{whole_of, verdict_in}
use Rattle.channel.specs.Frame.{news_of}
use Rattle.channel.specs.Offers.{answer_paper, offer_tests}
use Rattle.channel.proofs.EitherWay.{Turned, inverse_turned, other_way_lem, polarity_in}
use Rattle.station.specs.declared.Station.{Station}
use Rattle.station.specs.declared.Stepped.{Stepped}
use Rattle.station.specs.declared.Emptied.{Emptied}
use Rattle.station.specs.Station.{held_at, station_tests, told_in, station_after, OffersTo, Resets}
use Rattle.station.proofs.Served.{open_says}
use Rattle.station.specs.History.{Call, Offer, Reset, channel_of, card_of}
use Rattle.station.specs.Said.{Said, said, none, offers, resets}
use Rattle.station.specs.EitherWay.{AlikeStepped, EitherWay, InverseOffered, ButPolarity, AlikeRuns, EveryHistoryAlike}
use Rattle.station.proofs.OnceOnly.{offers_to_once, resets_once}

-- ---- an offer looks at its bytes by their shape, by the plain string that they are read as, and by their first symbol
module _ (st : Station) (card c epoch : ℕ) (s t : List ℕ) (e : Turned s t) where
  station_turned : station_after st card c epoch t ≡ station_after st card c epoch s
  unfolding station_after
  station_turned = rw (e.shape, e.plain)

  module _ (r q : Stepped) (o : OffersTo st card c epoch s r) (p : OffersTo st card c epoch t q) where
    pub turned_way : AlikeStepped r q
    turned_way =
        let f = held_at st c in
        let ts = station_tests st card c epoch s in
        record {
          answer = other_way_lem (first_of ts) (place_of ts) (number_in (whole_of s)) (verdict_in s) (news_of f epoch (whole_of s)) (polarity_of (number_of s))
              (polarity_of (number_of t)) r.answer q.answer e.polarity (o.answer ∙ ap (answer_of ts) (polarity_in f epoch s))
              (rw (e.shape, e.plain) at (p.answer ∙ ap (answer_of (station_tests st card c epoch t)) (polarity_in f epoch t)));
          station = p.station ∙ station_turned ∙ sym o.station;
        }

-- OFFERED UPRIGHT OR INVERTED, to any station
pub either_way : (st : Station) (card c epoch : ℕ) → EitherWay st card c epoch
either_way st card c epoch =
    record {
      alike = λ x r q h o p. turned_way st card c epoch (bytes_of_string x) (bytes_of_string (inverse x)) (inverse_turned x h) r q o p;
      other_shape = λ s r l m o. o.answer ∙ open_says card c (offer_tests (held_at st c) epoch s) (told_in st c epoch s) l ∙ rw m;
    }

-- ---- one call after the other
-- a call by its parts; a reset has none but its channel
abbrev epoch_of : Call → ℕ
epoch_of (Offer card c epoch s) = epoch
epoch_of (Reset card c) = 0

abbrev bytes_of : Call → List ℕ
bytes_of (Offer card c epoch s) = s
bytes_of (Reset card c) = []

abbrev is_offer : Call → Bool
is_offer (Offer card c epoch s) = true
is_offer (Reset card c) = false

-- two calls that are alike, each with its answer, are told alike and leave one station
module _ (st : Station) where
  record Both (x y : Said) (left left' : Station) : Type 0 where
    station : left' ≡ left
    answers : (y ≡ x) ⊎ (InverseOffered x.call y.call × ButPolarity x.answer y.answer)

  offered_again : (card c epoch : ℕ) (s : List ℕ) (r : Stepped) (asker k e : ℕ) (t : List ℕ) (q : Stepped) → OffersTo st card c epoch s r → OffersTo st asker k e t q
      → Offer asker k e t ≡ Offer card c epoch s
      → Both (said (Offer card c epoch s) (answer_paper r.answer)) (said (Offer asker k e t) (answer_paper q.answer)) r.station q.station
  offered_again card c epoch s r asker k e t q o p same =
      let here : OffersTo st card c epoch s q =
      subst (λ (b : List ℕ). OffersTo st card c epoch b q) (ap bytes_of same)
      (subst (λ (n : ℕ). OffersTo st card c n t q) (ap epoch_of same)
      (subst (λ (n : ℕ). OffersTo st card n e t q) (ap channel_of same) (subst (λ (n : ℕ). OffersTo st n k e t q) (ap card_of same) p)))
      in
      let one = offers_to_once st card c epoch s q r here o in
      record {
        station = ap (λ (x : Stepped). x.station) one;
        answers = inl (ap₂ (λ (a : Call) (x : Stepped). said a (answer_paper x.answer)) same one);
      }

  offered_inverted : (card c epoch : ℕ) (s : List ℕ) (r : Stepped) (asker k e : ℕ) (t : List ℕ) (q : Stepped) → OffersTo st card c epoch s r → OffersTo st asker k e t q
      → InverseOffered (Offer card c epoch s) (Offer asker k e t)
      → Both (said (Offer card c epoch s) (answer_paper r.answer)) (said (Offer asker k e t) (answer_paper q.answer)) r.station q.station
  offered_inverted card c epoch s r asker k e t q o p i =
      let turned : Turned s t =
      subst (λ (b : List ℕ). Turned s b) (sym (ap bytes_of i.is))
      (subst (λ (b : List ℕ). Turned b (bytes_of_string (inverse i.string))) (sym (ap bytes_of i.was)) (inverse_turned i.string i.small))
      in
      let here : OffersTo st card c epoch t q =
      subst (λ (n : ℕ). OffersTo st card c n t q) (ap epoch_of i.is ∙ sym (ap epoch_of i.was))
      (subst (λ (n : ℕ). OffersTo st card n e t q) (ap channel_of i.is ∙ sym (ap channel_of i.was))
      (subst (λ (n : ℕ). OffersTo st n k e t q) (ap card_of i.is ∙ sym (ap card_of i.was)) p))
      in
      let w = turned_way st card c epoch s t turned r q o here in
      record { station = w.station; answers = inr (i, record { answer = r.answer; was = refl; is = ap answer_paper w.answer }) }

  offered : (card c epoch : ℕ) (s : List ℕ) (r : Stepped) (asker k e : ℕ) (t : List ℕ) (q : Stepped) → OffersTo st card c epoch s r → OffersTo st asker k e t q
      → (Offer asker k e t ≡ Offer card c epoch s) ⊎ InverseOffered (Offer card c epoch s) (Offer asker k e t)
      → Both (said (Offer card c epoch s) (answer_paper r.answer)) (said (Offer asker k e t) (answer_paper q.answer)) r.station q.station
  offered card c epoch s r asker k e t q o p = ⊎_elim (offered_again card c epoch s r asker k e t q o p) (offered_inverted card c epoch s r asker k e t q o p)

  emptied : (card c : ℕ) (r : Emptied) (asker k : ℕ) (q : Emptied) → Resets st card c r → Resets st asker k q → (Reset asker k ≡ Reset card c) ⊎ InverseOffered (Reset card c) (Reset asker k)
      → Both (said (Reset card c) (written_paper r.answer)) (said (Reset asker k) (written_paper q.answer)) r.station q.station
  emptied card c r asker k q o p =
      ⊎_elim
      (λ same.
      let one = resets_once st card c q r (subst (λ (n : ℕ). Resets st card n q) (ap channel_of same) (subst (λ (n : ℕ). Resets st n k q) (ap card_of same) p)) o in
      record {
        station = ap (λ (x : Emptied). x.station) one;
        answers = inl (ap₂ (λ (a : Call) (x : Emptied). said a (written_paper x.answer)) same one);
      })
      (λ i. absurd (true≢false (sym (ap is_offer i.was))))

-- the runs
joined : {from : Station} {x y : Said} {all other : List Said} {st before left left' : Station} → Both st x y left left' → AlikeRuns from all other st before
    → AlikeRuns from (x ∷ all) (y ∷ other) left left'
joined b w = record { station = b.station; answers = (b.answers, w.answers) }

not_both : (card c epoch asker k : ℕ) (s : List ℕ) → (Reset asker k ≡ Offer card c epoch s) ⊎ InverseOffered (Offer card c epoch s) (Reset asker k) → ⊥
not_both card c epoch asker k s = ⊎_elim (λ e. true≢false (sym (ap is_offer e))) (λ i. true≢false (sym (ap is_offer i.is)))

not_both' : (card c epoch asker k : ℕ) (s : List ℕ) → (Offer card c epoch s ≡ Reset asker k) ⊎ InverseOffered (Reset asker k) (Offer card c epoch s) → ⊥
not_both' card c epoch asker k s = ⊎_elim (λ e. true≢false (ap is_offer e)) (λ i. true≢false (sym (ap is_offer i.was)))

-- TWO HISTORIES THAT ARE ALIKE BUT FOR INVERTED STRINGS
pub histories_alike : EveryHistoryAlike
histories_alike from all other st st' none none e = record { station = refl; answers = tt }
histories_alike from all other st st' none (offers asker k f t before' old' q run' p) e = absurd e
histories_alike from all other st st' none (resets asker k before' old' q run' p) e = absurd e
histories_alike from all other st st' (offers card c epoch s before old r run o) none e = absurd e
histories_alike from all other st st' (resets card c before old r run o) none e = absurd e
histories_alike from all other st st' (offers card c epoch s before old r run o) (offers asker k f t before' old' q run' p) e =
    let w = histories_alike from before before' old old' run run' e.1 in
    joined (offered old card c epoch s r asker k f t q o (subst (λ (x : Station). OffersTo x asker k f t q) w.station p) e.0) w
histories_alike from all other st st' (resets card c before old r run o) (resets asker k before' old' q run' p) e =
    let w = histories_alike from before before' old old' run run' e.1 in
    joined (emptied old card c r asker k q o (subst (λ (x : Station). Resets x asker k q) w.station p) e.0) w
histories_alike from all other st st' (offers card c epoch s before old r run o) (resets asker k before' old' q run' p) e = absurd (not_both card c epoch asker k s e.0)
histories_alike from all other st st' (resets asker k before old r run o) (offers card c epoch s before' old' q run' p) e = absurd (not_both' card c epoch asker k s e.0)
