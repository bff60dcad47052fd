-- A lent life that is begun with `spineyarrow_fresh` is a life of `sites` (lived), and every life is one (every-lent); so what the host
-- sees of a slot is what was shown (slot_seen), and of the summary what a walk gives (summary-seen).
-- Assumes nothing.
use Prim.Native.Nat.{ℕ, ◌≤◌}
use mathlib.Core.Bool.{Bool, true, false, not, true≢false}
use mathlib.Core.List.{List, [], ◌∷◌}
use mathlib.Core.Path.{◌≡◌, refl, sym, ap, subst, ◌∙◌}
use borrow.Author.Tests.{le-leb, eq-eqb, eqb-true, eqb-false}
use lib.Dec.{eqb}
use lib.IntN.{ℤ}
use lib.ListN.{length, replicate}
use Rattle.strings.specs.Pick.{pick}
use Rattle.strings.specs.Numbers.{test, answer_of}
use Rattle.book.specs.Entry.{meaning}
use Rattle.book.specs.Book.{slots, in_slot}
use Rattle.fields.specs.Block.{Call as InField, Offer as InOffer, Reset as InReset}
use Rattle.wire.specs.Bytes.{book_bytes}
use Rattle.summary.specs.declared.Summary.{Summary as TheSummary}
use Rattle.summary.specs.Walk.{walk_of}
use Rattle.station.specs.declared.Station.{Station}
use Rattle.station.specs.Station.{fresh_station, is_card}
use Rattle.station.specs.History.{Offer as MadeOffer, Reset as MadeReset}
use Rattle.station.specs.Queries.{is_slot, is_empty, summary_numbers}
use Rattle.sites.specs.Lives.{Life, Fresh as Begun, Then, Joined, Lived, LifeRule}
use Rattle.sites.proofs.Lives.{every_life}
use Rattle.blocks.specs.Taking.{after_call, after_calls, calls_at}
use Rattle.told.specs.Told.{packed}
use Rattle.lent_queries.specs.Lent.{left_in, entry_numbers}
use Rattle.lent_sites.specs.Lent.{SendsLent}
use Rattle.lent_sites.proofs.Laws.{laws as site_laws}
use Rattle.lent_life.specs.Life.{Summary, Entry, Book, LentCall, Fresh, Offer, Reset, Join, Ask, Back, Nothing, Numbers, Words, Seen, seen, none, then, Tells, Does, LivesLent}
use Rattle.lent_life.specs.Histories.{then_calls, IsLife, fresh, offer, reset, field, ask, join, no_book, LivedOn, SlotSeen, greatest, empty, number_in}
use Rattle.lent_life.proofs.Told.{out_in, told_to, tells_are}
use Rattle.lent_life.proofs.Same.{back_of, left_by, does_are, does}

-- ---- the latest call, and the life before it
pub record Latest (from : Station) (call : LentCall) (back : Back) (before : List Seen) (st : Station) : Type 0 where
  pub old : Station
  pub lives : LivesLent from before old
  pub step : Does old call back st

pub latest : {from : Station} {call : LentCall} {back : Back} {before : List Seen} {st : Station} → LivesLent from (seen call back ∷ before) st → Latest from call back before st
latest (then before old call back st lives step) = record { old = old; lives = lives; step = step }

-- the station that it leaves
pub left_by_lem : {from : Station} {call : LentCall} {back : Back} {before : List Seen} {st : Station} (w : Latest from call back before st) → st ≡ left_by w.old call
left_by_lem {call = call} {back = back} {st = st} w = (does_are w.old call back st w.step).1

-- ---- the calls of a field, one more each
field_lived : (card : ℕ) (calls : List InField) (l : Life) (st : Station) → Lived l st → Lived (then_calls card calls l) (after_calls st card calls)
unfolding after_calls after_call
field_lived card [] l st lived = lived
field_lived card (InOffer c epoch s ∷ calls) l st lived =
    field_lived card calls _ _ (site_laws.offers l st card c epoch s _ _ lived (record { answer = refl; station = refl }))
field_lived card (InReset c ∷ calls) l st lived = field_lived card calls _ _ (site_laws.resets l st card c _ _ lived (record { answer = refl; station = refl }))

-- ---- bytes that were sent
sends : (st : Station) (out s : List ℕ) (last : Station) → Does st (Ask (Book out)) (Numbers 0 s) last → SendsLent st out s 0
sends st out s last d = let e = (does_are st (Ask (Book out)) (Numbers 0 s) last d).0 in record { answer = ap number_in e; bytes = ap out_in e }

-- BEGUN WITH `spineyarrow_fresh` IT IS A LIFE
pub lived : (from : Station) (all : List Seen) (st : Station) (l : Life) → IsLife all l → LivesLent from all st → Lived l st
lived from all st l (fresh back before) lives = site_laws.fresh st (record { station = left_by_lem (latest lives) })
lived from all st l (offer card c epoch s back before m is) lives =
    let w = latest lives in
    site_laws.offers m w.old card c epoch s st _ (lived from before w.old m is w.lives) (record { answer = refl; station = left_by_lem w })
lived from all st l (reset card c back before m is) lives =
    let w = latest lives in
    site_laws.resets m w.old card c st _ (lived from before w.old m is w.lives) (record { answer = refl; station = left_by_lem w })
lived from all st l (field card block at back before m is) lives =
    let w = latest lives in
    subst (Lived (then_calls card (calls_at block at) m)) (sym (left_by_lem w)) (field_lived card (calls_at block at) m w.old (lived from before w.old m is w.lives))
lived from all st l (ask q back before m is) lives =
    let w = latest lives in subst (Lived m) (sym (left_by_lem w)) (lived from before w.old m is w.lives)
lived from all st l (join s back before m from' other n out last is is' sent) lives =
    let w = latest lives in
    let v = latest sent in
    (site_laws.joins m n w.old v.old out s st _ (lived from before w.old m is w.lives) (lived from' other v.old n is' v.lives)
    (sends v.old out s last v.step) (record { answer = refl; station = left_by_lem w })).1
lived from all st l (no_book s back before m differs is) lives =
    let w = latest lives in
    let e = (site_laws.shape w.old s st _ differs (record { answer = refl; station = left_by_lem w })).1 in
    subst (Lived m) (sym e) (lived from before w.old m is w.lives)

-- AND EVERY LIFE IS ONE
abbrev room : List ℕ
room = replicate 480 0

one_more_lem : {from : Station} {l : Life} (w : LivedOn from l) (call : LentCall) → LivesLent from (seen call (back_of w.st call) ∷ w.all) (left_by w.st call)
one_more_lem w call = then w.all w.st call (back_of w.st call) (left_by w.st call) w.lives (does w.st call)

pub every_lent : (from : Station) (l : Life) → LivedOn from l
every_lent from Begun =
    record { all = seen Fresh Nothing ∷ []; is = fresh Nothing []; st = fresh_station; lives = then [] from Fresh Nothing fresh_station none (does from Fresh) }
every_lent from (Then (MadeOffer card c epoch s) l) =
    let w = every_lent from l in
    record { all = _; is = offer card c epoch s _ w.all l w.is; st = _; lives = one_more_lem w (Offer card c epoch s) }
every_lent from (Then (MadeReset card c) l) =
    let w = every_lent from l in record { all = _; is = reset card c _ w.all l w.is; st = _; lives = one_more_lem w (Reset card c) }
every_lent from (Joined l m) =
    let w = every_lent from l in
    let v = every_lent from m in
    let s = book_bytes v.st.book in
    record { all = _; is = join s _ w.all l from v.all m room v.st w.is v.is (one_more_lem v (Ask (Book room))); st = _; lives = one_more_lem w (Join s) }

-- ---- what is told of a slot, where the card is one, the slot is one and the output has room: its entry, or NOTHING
abbrev slot_told : Bool → List ℤ → List ℤ → Back
slot_told nothing made out = Words (pick nothing 13 0) (pick nothing out made)

by_tests : (a b r e : Bool) (made out : List ℤ) → a ≡ true → b ≡ true → r ≡ true
    → Words (packed (answer_of (test 16 (not a) ∷ test 14 (not b) ∷ test 12 (not r) ∷ test 13 e ∷ []) []))
    (left_in (test 16 (not a) ∷ test 14 (not b) ∷ test 12 (not r) ∷ test 13 e ∷ []) made out)
    ≡ slot_told e made out
by_tests true true true true made out p q s = refl
by_tests true true true false made out p q s = refl
by_tests true true false e made out p q s = absurd (true≢false (sym s))
by_tests true false r e made out p q s = absurd (true≢false (sym q))
by_tests false b r e made out p q s = absurd (true≢false (sym p))

told_slot : (st : Station) (card k : ℕ) (out : List ℤ) → is_card card ≡ true → 1 ≤ k → k ≤ slots → length out ≡ 13
    → told_to st (Entry card k out) ≡ slot_told (is_empty st.book k) (entry_numbers (in_slot st.book k)) out
told_slot st card k out c low high room =
    by_tests (is_card card) (is_slot k) (eqb (length out) 13) (is_empty st.book k) (entry_numbers (in_slot st.book k)) out c
    (rw (le-leb 1 k low, le-leb k slots high)) (eq-eqb (length out) 13 room)

by_rule : (l : Life) (st : Station) (slot : ℕ) (out : List ℤ) → LifeRule l st slot
    → SlotSeen l slot out (slot_told (is_empty st.book slot) (entry_numbers (in_slot st.book slot)) out)
by_rule l st slot out rule = by (is_empty st.book slot) refl
  where
    by : (t : Bool) → is_empty st.book slot ≡ t → SlotSeen l slot out (slot_told t (entry_numbers (in_slot st.book slot)) out)
    by true e = empty (rule.empty.0 (eqb-true (in_slot st.book slot).day 0 e))
    by false e = greatest (meaning (in_slot st.book slot)) (rule.greatest (eqb-false (in_slot st.book slot).day 0 e))

-- THE HOST SEES THE GREATEST ENTRY THAT WAS SHOWN, OR THAT NONE WAS
pub slot_seen : (l : Life) (st : Station) (card slot : ℕ) (out : List ℤ) (back : Back) → Lived l st → is_card card ≡ true → 1 ≤ slot → slot ≤ slots → length out ≡ 13
    → Tells st (Entry card slot out) back → SlotSeen l slot out back
slot_seen l st card slot out back life c low high room told =
    subst (SlotSeen l slot out) (sym (tells_are st (Entry card slot out) back told ∙ told_slot st card slot out c low high room))
    (by_rule l st slot out ((every_life l st life).book slot low high))

-- AND THE SUMMARY AS THE WALK GIVES IT
told_summary : (a r : Bool) (made out : List ℕ) → a ≡ true → r ≡ true
    → Numbers (packed (answer_of (test 16 (not a) ∷ test 12 (not r) ∷ []) [])) (left_in (test 16 (not a) ∷ test 12 (not r) ∷ []) made out) ≡ Numbers 0 made
told_summary true true made out p q = refl
told_summary true false made out p q = absurd (true≢false (sym q))
told_summary false r made out p q = absurd (true≢false (sym p))

pub summary_seen : (l : Life) (st : Station) (card : ℕ) (out : List ℕ) (back : Back) → Lived l st → is_card card ≡ true → length out ≡ 3 → Tells st (Summary card out) back
    → back ≡ Numbers 0 (summary_numbers (walk_of st.book.entries))
summary_seen l st card out back life c room told =
    tells_are st (Summary card out) back told ∙ told_summary (is_card card) (eqb (length out) 3) (summary_numbers st.summary) out c (eq-eqb (length out) 3 room)
    ∙ ap (λ (s : TheSummary). Numbers 0 (summary_numbers s)) (every_life l st life).summary
