-- `offering::spineyarrow_offer` meets its contract: where the gate lets the call in the channel's row is offered to and put back, and what is then newly shown
-- is brought to the book, which makes the book and the summary that `AfterOffer` speaks of; `told_in` gives the answer.
-- Assumes nothing.
use mathlib.Core.Path.{◌≡◌, refl, sym, ◌∙◌, ap, subst}
use mathlib.Core.Bool.{true}
use mathlib.Core.List.{List, [], ◌∷◌}
use Prim.Native.Nat.{ℕ, ◌<◌}
use native.Mathlib.Omega.{arith}
use lib.ListN.{get_or}
use Rattle.strings.specs.Numbers.{first_of}
use Rattle.strings.specs.declared.Refusal.{Refusal}
use Rattle.channel.specs.declared.TakenString.{TakenString}
use Rattle.book.specs.declared.Entry.{Entry}
use Rattle.std.specs.Prelude.{Result, Option}
use Rattle.channel.specs.declared.Offered.{Offered}
use Rattle.channel.specs.Row.{framed}
use Rattle.channel.specs.Offers.{offer_tests, Offers, answer_paper, is_stored}
use Rattle.shows.specs.Shows.{newly_shown, brought, changes}
use Rattle.shows.specs.Changes.{AllInBook}
use Rattle.shows.proofs.Turns.{newly_brought, newly_changed}
use Rattle.station.specs.declared.Station.{Station}
use Rattle.station.specs.declared.Stepped.{Stepped}
use Rattle.station.specs.Station.{no_row, gate_tests, is_served, held_at, told_in, corrected, OffersTo}
use Rattle.station.proofs.AfterOffer.{after_offer_lem}
use Rattle.station.proofs.ChannelRuns.{after_none}
use Rattle.station.proofs.Served.{shut_says_lem}
use Rattle.told.specs.Told.{packed}
use Rattle.lent.specs.Lent.{OffersLent, BringsAll}
use Rattle.lent.proofs.Gate.{shut_out, let_in_lem}
use Rattle.lent.proofs.Parts.{with_row}
use Rattle.lent.proofs.Turns.{newly_in}
use Rattle.lent.proofs.offering.spineyarrow_offer.Goals as goal

-- ---- the contract, from what `AfterOffer` says
abbrev stepped : Station → Result TakenString Refusal → Stepped
stepped st a = record { station = st; answer = a }

-- what `newly_shown` gives
abbrev newly_of : Offered → List (Option (ℕ × Entry))
newly_of p = newly_shown (is_stored p.answer) (framed 0 p.row.present p.row.strings)

lent_of : (st : Station) (card c e : ℕ) (s : List ℕ) (st' : Station) (a : Result TakenString Refusal) (r : ℕ) → r ≡ packed (answer_paper a) → OffersTo st card c e s (stepped st' a) → OffersLent st card c e s st' r
lent_of st card c e s st' a r er o = record { answer = er ∙ ap packed o.answer; station = o.station }

refused_lent : (st : Station) (card c e : ℕ) (s : List ℕ) (r : ℕ) → r ≡ first_of (gate_tests card c) → 0 < r → OffersLent st card c e s st r
refused_lent st card c e s r er t =
    let p = shut_out card c r er t in
    let alone : r ≡ packed (r ∷ []) = omega arith in
    record {
      answer = alone ∙ ap packed (sym (shut_says_lem card c (offer_tests (held_at st c) e s) (told_in st c e s) p.0 ∙ p.1));
      station = sym (after_none st card c e s p.0);
    }

-- a row offered to and put back, and what is then newly shown brought to the book
offered_lent : (st : Station) (card c e : ℕ) (s : List ℕ) (p : Offered) (r : ℕ) (st' : Station) → is_served card c ≡ true → Offers (get_or st.rows c no_row) e s p
    → r ≡ packed (answer_paper p.answer)
    → BringsAll (with_row st c p.row) (newly_of p) st' → OffersLent st card c e s st' r
offered_lent st card c e s p r st' n ep er br =
    let book = brought st.book (newly_of p) in
    let changed = changes st.book (newly_of p) in
    let frame = framed 0 p.row.present p.row.strings in
    let stored = is_stored p.answer in
    lent_of st card c e s st' p.answer r er
    (subst (λ (x : Station). OffersTo st card c e s (stepped x p.answer)) (sym br)
    (after_offer_lem st card c e s p book changed (corrected changed book st.summary) n ep (newly_brought st.book stored frame) (newly_changed st.book stored frame) refl))

pub returns-then-shut-gt0 : goal.returns-then-shut-gt0
returns-then-shut-gt0 c =
    let a = c.args in
    refused_lent a.st.now a.card a.channel a.epoch a.s.now c.gate_number-shut.result c.gate_number-shut.ensures c.if-shut-gt0.true

pub bring_all-requires : goal.bring_all-requires
bring_all-requires c =
    let p = c.offer-offered.result in
    subst AllInBook (sym c.newly_shown-shown.ensures) (newly_in (is_stored p.answer) (framed 0 p.row.present p.row.strings))

pub returns : goal.returns
unfolding no_row
returns c =
    let a = c.args in
    offered_lent a.st.now a.card a.channel a.epoch a.s.now c.offer-offered.result c.told_in-told.result c.bring_all.new.st
    (let_in_lem a.card a.channel c.gate_number-shut.result c.gate_number-shut.ensures c.if-shut-gt0.false)
    c.offer-offered.ensures
    c.told_in-told.ensures
    (subst (λ (xs : List (Option (ℕ × Entry))). BringsAll (with_row a.st.now a.channel c.offer-offered.result.row) xs c.bring_all.new.st) c.newly_shown-shown.ensures c.bring_all.ensures)
