-- A lent life is the life by value (same), and calls can always be made, with one outcome (one-life). Each call is computed (backOf, leftBy), and so are many
-- (seenAll, leftAll; lives-are).
-- Assumes nothing.
use Prim.Native.Nat.{ℕ}
use mathlib.Core.Bool.{Bool, true, false}
use mathlib.Core.List.{List, [], ◌∷◌}
use mathlib.Core.Logic.{◌↔◌}
use mathlib.Core.Path.{◌≡◌, refl, sym, ap, ap₂, subst, ◌∙◌}
use borrow.Author.Tests.{eq-eqb, ne_eqb, eqb-true, eqb-false}
use lib.Dec.{eqb}
use lib.ListN.{length}
use Rattle.strings.specs.Pick.{pick}
use Rattle.strings.specs.Numbers.{answer_of}
use Rattle.wire.specs.Bytes.{book_from}
use Rattle.station.specs.declared.Station.{Station}
use Rattle.station.specs.Station.{fresh_station, station_tests, shut_says, told_in, station_after, station_reset}
use Rattle.station.specs.Demand1.{OneAnswer}
use Rattle.sites.specs.Joining.{site_joined}
use Rattle.blocks.specs.Taking.{after_calls, field_says, calls_at}
use Rattle.told.specs.Told.{packed}
use Rattle.lent.proofs.Laws.{laws as lent-laws}
use Rattle.lent_blocks.specs.Taking.{numbers_in}
use Rattle.lent_blocks.proofs.Laws.{laws as block-laws}
use Rattle.lent_sites.specs.Lent.{book_length}
use Rattle.lent_life.specs.Life.{LentCall, Fresh, Offer, Reset, Field, Join, Ask, Back, Nothing, Number, Seen, seen, calls_of, Steps, Lives, none, then, Does, fresh, offer, reset, field, join, ask, LivesLent}
use Rattle.lent_life.specs.ByValue.{DoesByValue, fresh as fresh', offer as offer', reset as reset', field as field', join as join', no_book, ask as ask', LivesByValue}
use Rattle.lent_life.proofs.Told.{told_to, tells_are, tells, value_are, value}

-- ---- a call: what comes back, and the station that it leaves
abbrev is_book : List ℕ → Bool
is_book s = eqb (length s) book_length

abbrev pub back_of : Station → LentCall → Back
back_of st Fresh = Nothing
back_of st (Offer card c epoch s) = Number (packed (answer_of (station_tests st card c epoch s) (told_in st c epoch s)))
back_of st (Reset card c) = Number (packed (shut_says card c))
back_of st (Field card block at) = Number (packed (numbers_in (field_says st card block at)))
back_of st (Join s) = Number (pick (is_book s) 0 2)
back_of st (Ask q) = told_to st q

abbrev pub left_by : Station → LentCall → Station
left_by st Fresh = fresh_station
left_by st (Offer card c epoch s) = station_after st card c epoch s
left_by st (Reset card c) = station_reset st card c
left_by st (Field card block at) = after_calls st card (calls_at block at)
left_by st (Join s) = pick (is_book s) (site_joined st (book_from s)) st
left_by st (Ask q) = st

-- as the contracts say, and as by value
abbrev Are : Steps → Type 0
Are Step = (st : Station) (call : LentCall) (back : Back) (st' : Station) → Step st call back st' → (back ≡ back_of st call) × (st' ≡ left_by st call)

abbrev Can : Steps → Type 0
Can Step = (st : Station) (call : LentCall) → Step st call (back_of st call) (left_by st call)

pub does_are : Are Does
does_are st call back st' (fresh s s' g) = (refl, g.station)
does_are st call back st' (offer s card c epoch b s' r g) = (ap Number g.answer, g.station)
does_are st call back st' (reset s card c s' r g) = (ap Number g.answer, g.station)
does_are st call back st' (field s card block at s' r g) = (ap Number g.answer, g.station)
does_are st call back st' (join s b s' r g) = (ap Number g.answer, g.station)
does_are st call back st' (ask s q k g) = (tells_are s q k g, refl)

pub does : Can Does
does st Fresh = fresh st fresh_station (record { station = refl })
does st (Offer card c epoch s) = offer st card c epoch s _ _ (record { answer = refl; station = refl })
does st (Reset card c) = reset st card c _ _ (record { answer = refl; station = refl })
does st (Field card block at) = field st card block at _ _ (record { answer = refl; station = refl })
does st (Join s) = join st s _ _ (record { answer = refl; station = refl })
does st (Ask q) = ask st q (told_to st q) (tells st q)

value_does_are : Are DoesByValue
value_does_are st call back st' (fresh' s) = (refl, refl)
value_does_are st call back st' (offer' s card c epoch b r o) = (ap (λ (l : List ℕ). Number (packed l)) o.answer, o.station)
value_does_are st call back st' (reset' s card c r o) = (ap (λ (l : List ℕ). Number (packed l)) o.answer, o.station)
value_does_are st call back st' (field' s card block at r t) = (ap (λ (l : List ℕ). Number (packed (numbers_in l))) t.answer, t.station)
value_does_are st call back st' (join' s b e) =
    let q = sym (eq-eqb (length b) book_length e) in
    (ap (λ (t : Bool). Number (pick t 0 2)) q, ap (λ (t : Bool). pick t (site_joined s (book_from b)) s) q)
value_does_are st call back st' (no_book s b n) =
    let q = sym (ne_eqb (length b) book_length n) in
    (ap (λ (t : Bool). Number (pick t 0 2)) q, ap (λ (t : Bool). pick t (site_joined s (book_from b)) s) q)
value_does_are st call back st' (ask' s q k t) = (value_are s q k t, refl)

-- a step that is known by what comes back and by what it leaves
carry : (Step : Steps) (st : Station) (call : LentCall) {back : Back} {st' : Station} → Step st call back st' → (back ≡ back_of st call) × (st' ≡ left_by st call)
    → Step st call (back_of st call) (left_by st call)
carry Step st call {back} {st'} s e = subst (λ (b : Back). Step st call b (left_by st call)) e.0 (subst (Step st call back) e.1 s)

value_does : Can DoesByValue
value_does st Fresh = fresh' st
value_does st (Offer card c epoch s) =
    let a = (lent-laws.as_offered st card c epoch s _ _).0 (record { answer = refl; station = refl }) in
    let w = offer' st card c epoch s a.step a.offers in carry DoesByValue st (Offer card c epoch s) w (value_does_are st _ _ _ w)
value_does st (Reset card c) =
    let a = (lent-laws.as_reset st card c _ _).0 (record { answer = refl; station = refl }) in
    let w = reset' st card c a.step a.resets in carry DoesByValue st (Reset card c) w (value_does_are st _ _ _ w)
value_does st (Field card block at) =
    let a = (block-laws.as_taken st card block at _ _).0 (record { answer = refl; station = refl }) in
    let w = field' st card block at a.taken a.takes in carry DoesByValue st (Field card block at) w (value_does_are st _ _ _ w)
value_does st (Join s) = by (is_book s) refl
  where
    by : (t : Bool) → is_book s ≡ t → DoesByValue st (Join s) (Number (pick t 0 2)) (pick t (site_joined st (book_from s)) st)
    by true e = join' st s (eqb-true (length s) book_length e)
    by false e = no_book st s (eqb-false (length s) book_length e)
value_does st (Ask q) = ask' st q (told_to st q) (value st q)

-- ---- a step by one is a step by the other
abbrev Into : Steps → Steps → Type 0
Into S R = (st : Station) (call : LentCall) (back : Back) (st' : Station) → S st call back st' → R st call back st'

into : (S R : Steps) → Are S → Can R → Into S R
into S R are can st call back st' s =
    let e = are st call back st' s in
    subst (R st call back) (sym e.1) (subst (λ (b : Back). R st call b (left_by st call)) (sym e.0) (can st call))

lives_into : (S R : Steps) → Into S R → (from : Station) (all : List Seen) (st : Station) → Lives S from all st → Lives R from all st
lives_into S R f from all st none = none
lives_into S R f from all st (then before s call back s' lives step) = then before s call back s' (lives_into S R f from before s lives) (f s call back s' step)

-- A LENT LIFE IS THE LIFE BY VALUE
pub same : (from : Station) (all : List Seen) (st : Station) → LivesLent from all st ↔ LivesByValue from all st
same from all st = (
  lives_into Does DoesByValue (into Does DoesByValue does_are value_does) from all st,
  lives_into DoesByValue Does (into DoesByValue Does value_does_are does) from all st,
)

-- ---- many calls
abbrev pub left_all : Station → List LentCall → Station
left_all from [] = from
left_all from (call ∷ calls) = left_by (left_all from calls) call

abbrev pub seen_all : Station → List LentCall → List Seen
seen_all from [] = []
seen_all from (call ∷ calls) = seen call (back_of (left_all from calls) call) ∷ seen_all from calls

can_live : (from : Station) (calls : List LentCall) → LivesLent from (seen_all from calls) (left_all from calls)
can_live from [] = none
can_live from (call ∷ calls) = then (seen_all from calls) (left_all from calls) call _ _ (can_live from calls) (does (left_all from calls) call)

calls_seen : (from : Station) (calls : List LentCall) → calls_of (seen_all from calls) ≡ calls
calls_seen from [] = refl
calls_seen from (call ∷ calls) = ap (λ (l : List LentCall). call ∷ l) (calls_seen from calls)

pub lives_are : (from : Station) (all : List Seen) (st : Station) → LivesLent from all st → (all ≡ seen_all from (calls_of all)) × (st ≡ left_all from (calls_of all))
lives_are from all st none = (refl, refl)
lives_are from all st (then before s call back s' lives step) =
    let w = lives_are from before s lives in
    let d = does_are s call back s' step in (
      ap₂ (λ (b : Back) (l : List Seen). seen call b ∷ l) (d.0 ∙ ap (λ (x : Station). back_of x call) w.1) w.0,
      d.1 ∙ ap (λ (x : Station). left_by x call) w.1,
    )

-- WHATEVER THE CALLS, THEY CAN BE MADE, AND HAVE ONE OUTCOME
pub one_life : (from : Station) (calls : List LentCall) → OneAnswer (List Seen × Station) (λ r. (calls_of r.0 ≡ calls) × LivesLent from r.0 r.1)
one_life from calls =
    record {
      answer = (seen_all from calls, left_all from calls);
      fits = (calls_seen from calls, can_live from calls);
      only = λ other f. let w = lives_are from other.0 other.1 f.1 in
          ap₂ (λ (l : List Seen) (x : Station). (l, x)) (w.0 ∙ ap (seen_all from) f.0) (w.1 ∙ ap (left_all from) f.0);
    }
