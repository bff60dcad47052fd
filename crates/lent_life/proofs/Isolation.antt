-- Two cards on one lent station (isolation): a call by anyone else leaves a card's rows (others), its own calls are answered by its own rows and the book (own-rows,
-- own-book), and so over any calls (isolated).
-- Assumes nothing.
use Prim.Native.Nat.{ℕ}
use mathlib.Core.Bool.{Bool, true, false, not, ◌&&◌, true≢false}
use mathlib.Core.List.{List, [], ◌∷◌, ◌++◌}
use mathlib.Core.Path.{◌≡◌, refl, sym, ap, ap₂, subst, ◌∙◌}
use borrow.Author.Tests.{eqb-true, eqb-false, ne_eqb}
use lib.Dec.{eqb}
use lib.IntN.{ℤ, nat_abs}
use lib.ListN.{length, get_or}
use Rattle.strings.specs.Pick.{pick}
use Rattle.tallies.specs.declared.Tallies.{Tallies as TheTallies}
use Rattle.records.specs.declared.named.ImmediateWords.{ImmediateWords}
use Rattle.strings.specs.declared.Refusal.{Refusal}
use Rattle.channel.specs.declared.TakenString.{TakenString}
use Rattle.std.specs.Prelude.{Result}
use Rattle.strings.specs.Numbers.{Test, test, first_of, answer_of}
use Rattle.fields.specs.Block.{Call, Offer as InOffer, Reset as InReset}
use Rattle.book.specs.declared.Book.{Book as TheBook}
use Rattle.book.specs.Entry.{meaning, odd_words}
use Rattle.book.specs.Book.{in_slot}
use Rattle.words.specs.Immediate.{immediate_of}
use Rattle.immediate.specs.Kept.{has_record}
use Rattle.summary.specs.declared.Summary.{Summary as TheSummary}
use Rattle.channel.specs.declared.Row.{Row}
use Rattle.channel.specs.Row.{frame_of}
use Rattle.channel.specs.Offers.{answer_paper}
use Rattle.channel.proofs.HeldFrame.{first_said}
use Rattle.rinex.specs.Record.{record_text}
use Rattle.wire.specs.Bytes.{book_from}
use Rattle.station.specs.declared.Station.{Station}
use Rattle.station.specs.Station.{fresh_station, row_at, is_served, gate_tests, shut_says, station_after, station_reset}
use Rattle.station.specs.Queries.{kept_at, is_slot, is_empty, summary_numbers, health_by, health_number}
use Rattle.station.specs.Demand1.{WellMade}
use Rattle.station.specs.History.{fresh as fresh-run}
use Rattle.station.specs.Isolation.{AgreeFor}
use Rattle.station.proofs.Demands.{demands}
use Rattle.station.proofs.Isolation.{by_row}
use Rattle.station.proofs.Served.{shut_says_lem, zero_served, served_below, owner_is}
use Rattle.station.proofs.WellMade.{offer_made, reset_made}
use Rattle.sites.specs.Joining.{join_books, site_joined}
use Rattle.blocks.specs.Taking.{told_paper, after_call, after_calls, calls_at}
use Rattle.blocks.proofs.Along.{taken, takes}
use Rattle.blocks.proofs.Isolation.{isolation as block-isolation}
use Rattle.navigation_queries.specs.Five.{has_five, five_of}
use Rattle.navigation.specs.Writes.{text_at}
use Rattle.navigation.specs.Gathers.{all_tests}
use Rattle.told.specs.Told.{packed}
use Rattle.lent.proofs.Laws.{laws as lent-laws}
use Rattle.lent_blocks.specs.Taking.{numbers_in}
use Rattle.lent_queries.specs.Lent.{room_test, left_in, summary_tests, slot_tests, entry_numbers}
use Rattle.lent_life.specs.Life.{Question, Next, Summary, Health, Tallies, Immediate, Entry, Book, Navigation, LentCall, Fresh, Offer, Reset, Field, Join, Ask, Back, Number, Numbers, Words, Seen, seen, calls_of, LivesLent}
use Rattle.lent_life.specs.ByValue.{tallies_back, record_back, tallies as tallies', immediate as immediate'}
use Rattle.lent_life.specs.Histories.{number_in}
use Rattle.lent_life.specs.Isolation.{is_by, reads_book, is_own, seen_by, Isolation}
use Rattle.lent_life.proofs.Told.{told_to, value_are}
use Rattle.lent_life.proofs.Same.{back_of, left_by, does_are, left_all, seen_all, lives_are}

-- ---- whatever anyone else calls
agree_as : (card : ℕ) (st : Station) {x y : Station} → x ≡ y → AgreeFor card y st → AgreeFor card x st
agree_as card st e a = subst (λ (z : Station). AgreeFor card z st) (sym e) a

join_leaves : (card : ℕ) (st : Station) (b : Bool) (other : TheBook) → AgreeFor card (pick b (site_joined st other) st) st
unfolding site_joined
join_leaves card st true other c h w = refl
join_leaves card st false other c h w = refl

others : (card : ℕ) (st : Station) (call : LentCall) → is_by card call ≡ false → AgreeFor card (left_by st call) st
others card st Fresh e = absurd (true≢false e)
others card st (Offer asker c epoch s) e =
    let a = (lent-laws.as_offered st asker c epoch s (left_by st (Offer asker c epoch s)) (number_in (back_of st (Offer asker c epoch s)))).0 (record { answer = refl; station = refl }) in
    agree_as card st a.station ((demands.others_leave card st).offers asker c epoch s a.step (eqb-false asker card e) a.offers)
others card st (Reset asker c) e =
    let a = (lent-laws.as_reset st asker c (left_by st (Reset asker c)) (number_in (back_of st (Reset asker c)))).0 (record { answer = refl; station = refl }) in
    agree_as card st a.station ((demands.others_leave card st).resets asker c a.step (eqb-false asker card e) a.resets)
others card st (Field asker block at) e =
    let t = takes st asker block at in
    agree_as card st (sym t.station) (block-isolation.others_field card st asker block at (taken st asker block at) (eqb-false asker card e) t)
others card st (Join s) e = join_leaves card st (eqb (length s) 480) (book_from s)
others card st (Ask q) e = λ c h w. refl

-- ---- a card's own calls
no_own : {A : Type 0} (b : Bool) → (b && false) ≡ true → A
no_own true e = absurd (true≢false (sym e))
no_own false e = absurd (true≢false (sym e))

its_own : (b : Bool) → (b && true) ≡ true → b ≡ true
its_own true e = refl
its_own false e = e

-- what is told of a navigation record, by a book and the channel's row alone
abbrev satellite_in : Row → ℕ
satellite_in row = nat_abs (immediate_of row.immediate.strings).four.n

abbrev four_years_in : Row → ℤ
four_years_in row = (five_of ((frame_of row).text 5)).n4

abbrev navigation_tests : ℕ → TheBook → Row → List Test
navigation_tests room b row =
    let n = satellite_in row in
    test 13 (not (has_record row.immediate && (has_five row && (is_slot n && not (is_empty b n)))))
    ∷ all_tests (immediate_of row.immediate.strings) (four_years_in row) room

abbrev lines_by : TheBook → Row → List ℕ
lines_by b row = record_text (immediate_of row.immediate.strings) (four_years_in row) (odd_words (meaning (in_slot b (satellite_in row)))).h

abbrev tells_navigation : ℕ → ℕ → List ℕ → TheBook → Row → Back
tells_navigation card c out b row =
    let ts = gate_tests card c ++ navigation_tests (length out) b row in
    Numbers (packed (answer_of ts (satellite_in row ∷ []))) (left_in ts (lines_by b row) out)

-- and by neither where the gate is shut
navigation_shut : (card c : ℕ) (out : List ℕ) (b : TheBook) (row : Row) → is_served card c ≡ false
    → tells_navigation card c out b row ≡ Numbers (packed (shut_says card c)) out
navigation_shut card c out b row e =
    let ts = gate_tests card c ++ navigation_tests (length out) b row in
    let told = satellite_in row ∷ [] in
    let said = shut_says_lem card c (navigation_tests (length out) b row) told e in
    let first : first_of ts ≡ first_of (gate_tests card c) = sym (first_said ts told) ∙ ap (λ (l : List ℕ). get_or l 0 0) said ∙ first_said (gate_tests card c) [] in
    ap₂ (λ (l : List ℕ) (t : Bool). Numbers (packed l) (pick t (lines_by b row) out)) said
    (ap (λ (k : ℕ). eqb k 0) first ∙ ne_eqb (first_of (gate_tests card c)) 0 (λ z. true≢false (sym (zero_served card c z) ∙ e)))

module _ (card : ℕ) (st st' : Station) (w : WellMade st) (w' : WellMade st') (agree : AgreeFor card st st') where
  abbrev Alike : LentCall → Type 0
  Alike call = (back_of st call ≡ back_of st' call) × AgreeFor card (left_by st call) (left_by st' call)

  both : {x x' y y' : Station} → x ≡ y → x' ≡ y' → AgreeFor card y y' → AgreeFor card x x'
  both {x} {x'} {y} {y'} e f a = subst (λ (z : Station). AgreeFor card z x') (sym e) (subst (AgreeFor card y) (sym f) a)

  own_offer : (c epoch : ℕ) (s : List ℕ) → Alike (Offer card c epoch s)
  own_offer c epoch s =
      let call = Offer card c epoch s in
      let a = (lent-laws.as_offered st card c epoch s (left_by st call) (number_in (back_of st call))).0 (record { answer = refl; station = refl }) in
      let b = (lent-laws.as_offered st' card c epoch s (left_by st' call) (number_in (back_of st' call))).0 (record { answer = refl; station = refl }) in
      let k = (demands.answered_alike card st st' w w' agree).offers c epoch s a.step b.step a.offers b.offers in
      (ap Number (a.answer ∙ ap (λ (x : Result TakenString Refusal). packed (answer_paper x)) k.0 ∙ sym b.answer), both a.station b.station k.1)

  own_reset : (c : ℕ) → Alike (Reset card c)
  own_reset c =
      let call = Reset card c in
      let a = (lent-laws.as_reset st card c (left_by st call) (number_in (back_of st call))).0 (record { answer = refl; station = refl }) in
      let b = (lent-laws.as_reset st' card c (left_by st' call) (number_in (back_of st' call))).0 (record { answer = refl; station = refl }) in
      (refl, both a.station b.station ((demands.answered_alike card st st' w w' agree).resets c a.step b.step a.resets b.resets).1)

  own_field : (block : List ℕ) (at : ℕ) → Alike (Field card block at)
  own_field block at =
      let t = takes st card block at in
      let u = takes st' card block at in
      let k = block-isolation.own_field card st st' block at (taken st card block at) (taken st' card block at) w w' agree t u in
      let n : List ℕ → Back = λ l. Number (packed (numbers_in l)) in
      (ap n (sym t.answer ∙ ap told_paper k.0 ∙ u.answer), both (sym t.station) (sym u.station) k.1.1)

  own_tallies : (c : ℕ) (out : List ℕ) → told_to st (Tallies card c out) ≡ told_to st' (Tallies card c out)
  own_tallies c out =
      let a = (demands.station_answers st).tallies_of card c in
      let b = (demands.station_answers st').tallies_of card c in
      sym (value_are st _ _ (tallies' st card c out a.answer a.fits))
      ∙ ap (λ (x : Result TheTallies Refusal). tallies_back x out) ((demands.answered_alike card st st' w w' agree).tallies c a.answer b.answer a.fits b.fits)
      ∙ value_are st' _ _ (tallies' st' card c out b.answer b.fits)

  own_record : (c : ℕ) (words : List ℤ) (start : ℕ) → told_to st (Immediate card c words start) ≡ told_to st' (Immediate card c words start)
  own_record c words start =
      let a = (demands.station_answers st).immediate_of_lem card c in
      let b = (demands.station_answers st').immediate_of_lem card c in
      sym (value_are st _ _ (immediate' st card c words start a.answer a.fits))
      ∙ ap (λ (x : Result (ImmediateWords × ℕ) Refusal). record_back x words start) ((demands.answered_alike card st st' w w' agree).records c a.answer b.answer a.fits b.fits)
      ∙ value_are st' _ _ (immediate' st' card c words start b.answer b.fits)

  own_asked : (q : Question) → is_own card (Ask q) ≡ true → told_to st q ≡ told_to st' q
  own_asked (Next block at) e = refl
  own_asked (Summary asker out) e = no_own (eqb asker card) e
  own_asked (Health asker c) e = no_own (eqb asker card) e
  own_asked (Tallies asker c out) e =
      let q = eqb-true asker card (its_own (eqb asker card) e) in
      subst (λ (k : ℕ). told_to st (Tallies k c out) ≡ told_to st' (Tallies k c out)) (sym q) (own_tallies c out)
  own_asked (Immediate asker c words start) e =
      let q = eqb-true asker card (its_own (eqb asker card) e) in
      subst (λ (k : ℕ). told_to st (Immediate k c words start) ≡ told_to st' (Immediate k c words start)) (sym q) (own_record c words start)
  own_asked (Entry asker k out) e = no_own (eqb asker card) e
  own_asked (Book out) e = absurd (true≢false (sym e))
  own_asked (Navigation asker c out) e = no_own (eqb asker card) e

  own : (call : LentCall) → is_own card call ≡ true → Alike call
  own Fresh e = (refl, λ c h k. refl)
  own (Offer asker c epoch s) e = subst (λ (k : ℕ). Alike (Offer k c epoch s)) (sym (eqb-true asker card (its_own (eqb asker card) e))) (own_offer c epoch s)
  own (Reset asker c) e = subst (λ (k : ℕ). Alike (Reset k c)) (sym (eqb-true asker card (its_own (eqb asker card) e))) (own_reset c)
  own (Field asker block at) e = subst (λ (k : ℕ). Alike (Field k block at)) (sym (eqb-true asker card (its_own (eqb asker card) e))) (own_field block at)
  own (Join s) e = absurd (true≢false (sym e))
  own (Ask q) e = (own_asked q e, agree)

  -- where they have one book and its summary
  module _ (same : st.book ≡ st'.book) (summed : st.summary ≡ st'.summary) where
    own-health : (c : ℕ) → told_to st (Health card c) ≡ told_to st' (Health card c)
    own-health c =
        ap (λ (l : List ℕ). Number (packed l))
        (by_row card st st' agree c (λ x. []) (λ x. health_number (health_by x.immediate st.book) ∷ [])
        ∙ ap (λ (b : TheBook). answer_of (gate_tests card c) (health_number (health_by (kept_at st' c) b) ∷ [])) same)

    own-navigation : (c : ℕ) (out : List ℕ) → told_to st (Navigation card c out) ≡ told_to st' (Navigation card c out)
    unfolding text_at
    own-navigation c out = by (is_served card c) refl
      where
        by : (t : Bool) → is_served card c ≡ t → told_to st (Navigation card c out) ≡ told_to st' (Navigation card c out)
        by true e = ap₂ (tells_navigation card c out) same (agree c (served_below card c e) (owner_is card c e))
        by false e = navigation_shut card c out st.book (row_at st c) e ∙ sym (navigation_shut card c out st'.book (row_at st' c) e)

    abbrev tellsEntry : ℕ → ℕ → List ℤ → TheBook → Back
    tellsEntry asker k out b =
        let ts = slot_tests asker k ++ (room_test 13 out ∷ test 13 (is_empty b k) ∷ []) in
        Words (packed (answer_of ts [])) (left_in ts (entry_numbers (in_slot b k)) out)

    abbrev tellsSummary : ℕ → List ℕ → TheSummary → Back
    tellsSummary asker out s = Numbers (packed (answer_of (summary_tests asker out) [])) (left_in (summary_tests asker out) (summary_numbers s) out)

    all_asked : (q : Question) → is_by card (Ask q) ≡ true → told_to st q ≡ told_to st' q
    all_asked (Next block at) e = refl
    all_asked (Summary asker out) e = ap (tellsSummary asker out) summed
    all_asked (Health asker c) e = subst (λ (k : ℕ). told_to st (Health k c) ≡ told_to st' (Health k c)) (sym (eqb-true asker card e)) (own-health c)
    all_asked (Tallies asker c out) e = own_asked (Tallies asker c out) (ap (λ (b : Bool). b && true) e)
    all_asked (Immediate asker c words start) e = own_asked (Immediate asker c words start) (ap (λ (b : Bool). b && true) e)
    all_asked (Entry asker k out) e = ap (tellsEntry asker k out) same
    all_asked (Book out) e = absurd (true≢false (sym e))
    all_asked (Navigation asker c out) e =
        subst (λ (k : ℕ). told_to st (Navigation k c out) ≡ told_to st' (Navigation k c out)) (sym (eqb-true asker card e)) (own-navigation c out)

    all_own : (call : LentCall) → is_by card call ≡ true → back_of st call ≡ back_of st' call
    all_own Fresh e = refl
    all_own (Offer asker c epoch s) e = (own (Offer asker c epoch s) (ap (λ (b : Bool). b && true) e)).0
    all_own (Reset asker c) e = (own (Reset asker c) (ap (λ (b : Bool). b && true) e)).0
    all_own (Field asker block at) e = (own (Field asker block at) (ap (λ (b : Bool). b && true) e)).0
    all_own (Join s) e = absurd (true≢false (sym e))
    all_own (Ask q) e = all_asked q e

-- ---- any calls: a station stays well made
field_made : (st : Station) (card : ℕ) (calls : List Call) → WellMade st → WellMade (after_calls st card calls)
unfolding after_calls after_call
field_made st card [] w = w
field_made st card (InOffer c epoch s ∷ calls) w =
    let a = (lent-laws.as_offered st card c epoch s (station_after st card c epoch s) (number_in (back_of st (Offer card c epoch s)))).0 (record { answer = refl; station = refl }) in
    field_made (station_after st card c epoch s) card calls (subst WellMade (sym a.station) (offer_made st card c epoch s a.step w a.offers))
field_made st card (InReset c ∷ calls) w =
    let a = (lent-laws.as_reset st card c (station_reset st card c) (number_in (back_of st (Reset card c)))).0 (record { answer = refl; station = refl }) in
    field_made (station_reset st card c) card calls (subst WellMade (sym a.station) (reset_made st card c a.step w a.resets))

joined_made : (st : Station) (b : Bool) (other : TheBook) → WellMade st → WellMade (pick b (site_joined st other) st)
unfolding site_joined join_books
joined_made st true other w = record { rows = w.rows; strings = w.strings; entries = refl }
joined_made st false other w = w

made_left : (st : Station) (call : LentCall) → WellMade st → WellMade (left_by st call)
unfolding after_calls after_call
made_left st Fresh w = demands.made [] fresh_station fresh-run
made_left st (Offer card c epoch s) w = field_made st card (InOffer c epoch s ∷ []) w
made_left st (Reset card c) w = field_made st card (InReset c ∷ []) w
made_left st (Field card block at) w = field_made st card (calls_at block at) w
made_left st (Join s) w = joined_made st (eqb (length s) 480) (book_from s) w
made_left st (Ask q) w = w

made_all : (from : Station) (calls : List LentCall) → WellMade from → WellMade (left_all from calls)
made_all from [] w = w
made_all from (call ∷ calls) w = made_left (left_all from calls) call (made_all from calls w)

-- ---- a card's own calls among others
calls_by : ℕ → List LentCall → List LentCall
calls_by card [] = []
calls_by card (call ∷ calls) = pick (is_own card call) (call ∷ calls_by card calls) (calls_by card calls)

calls_by_lem : (card : ℕ) (all : List Seen) → calls_of (seen_by card all) ≡ calls_by card (calls_of all)
unfolding seen_by calls_by
calls_by_lem card [] = refl
calls_by_lem card (x ∷ before) = by (is_own card x.call) (calls_by_lem card before)
  where
    by : (t : Bool) → calls_of (seen_by card before) ≡ calls_by card (calls_of before)
        → calls_of (pick t (x ∷ seen_by card before) (seen_by card before)) ≡ pick t (x.call ∷ calls_by card (calls_of before)) (calls_by card (calls_of before))
    by true e = ap (λ (l : List LentCall). x.call ∷ l) e
    by false e = e

-- a call that reads the book only reads
reads_only : (st : Station) (call : LentCall) → reads_book call ≡ true → left_by st call ≡ st
reads_only st Fresh e = absurd (true≢false (sym e))
reads_only st (Offer card c epoch s) e = absurd (true≢false (sym e))
reads_only st (Reset card c) e = absurd (true≢false (sym e))
reads_only st (Field card block at) e = absurd (true≢false (sym e))
reads_only st (Join s) e = absurd (true≢false (sym e))
reads_only st (Ask q) e = refl

not_own : (card : ℕ) (st : Station) (call : LentCall) → is_own card call ≡ false → AgreeFor card (left_by st call) st
not_own card st call e = by (is_by card call) refl (reads_book call) refl
  where
    by : (a : Bool) → is_by card call ≡ a → (b : Bool) → reads_book call ≡ b → AgreeFor card (left_by st call) st
    by false q b r = others card st call q
    by true q true r = agree_as card st (reads_only st call r) (λ c h w. refl)
    by true q false r = absurd (true≢false (sym (ap₂ (λ (a b : Bool). a && not b) q r) ∙ e))

agree_trans : (card : ℕ) (a b c : Station) → AgreeFor card a b → AgreeFor card b c → AgreeFor card a c
agree_trans card a b c p q k h w = p k h w ∙ q k h w

-- without the others' calls: the same comes back, and the stations agree
module _ (card : ℕ) (from : Station) (made : WellMade from) where
  alone : (cs : List LentCall) → (seen_by card (seen_all from cs) ≡ seen_all from (calls_by card cs)) × AgreeFor card (left_all from cs) (left_all from (calls_by card cs))
  unfolding seen_by calls_by
  alone [] = (refl, λ k h w. refl)
  alone (call ∷ cs) = by (is_own card call) refl (alone cs)
    where
      by : (t : Bool) → is_own card call ≡ t
          → (seen_by card (seen_all from cs) ≡ seen_all from (calls_by card cs)) × AgreeFor card (left_all from cs) (left_all from (calls_by card cs))
          → (pick t (seen call (back_of (left_all from cs) call) ∷ seen_by card (seen_all from cs)) (seen_by card (seen_all from cs))
          ≡ seen_all from (pick t (call ∷ calls_by card cs) (calls_by card cs)))
          × AgreeFor card (left_by (left_all from cs) call) (left_all from (pick t (call ∷ calls_by card cs) (calls_by card cs)))
      by true q ih =
          let o = own card (left_all from cs) (left_all from (calls_by card cs)) (made_all from cs made) (made_all from (calls_by card cs) made) ih.1 call q in
          (ap₂ (λ (b : Back) (l : List Seen). seen call b ∷ l) o.0 ih.0, o.1)
      by false q ih =
          let st = left_all from cs in
          (ih.0, agree_trans card (left_by st call) st (left_all from (calls_by card cs)) (not_own card st call q) ih.1)

-- the same calls of a card from two stations that agree for it
module _ (card : ℕ) (from from' : Station) (made : WellMade from) (made' : WellMade from') (agree : AgreeFor card from from') where
  together : (cs : List LentCall)
      → (seen_all from (calls_by card cs) ≡ seen_all from' (calls_by card cs)) × AgreeFor card (left_all from (calls_by card cs)) (left_all from' (calls_by card cs))
  unfolding calls_by
  together [] = (refl, agree)
  together (call ∷ cs) = by (is_own card call) refl (together cs)
    where
      by : (t : Bool) → is_own card call ≡ t
          → (seen_all from (calls_by card cs) ≡ seen_all from' (calls_by card cs)) × AgreeFor card (left_all from (calls_by card cs)) (left_all from' (calls_by card cs))
          → (seen_all from (pick t (call ∷ calls_by card cs) (calls_by card cs)) ≡ seen_all from' (pick t (call ∷ calls_by card cs) (calls_by card cs)))
          × AgreeFor card (left_all from (pick t (call ∷ calls_by card cs) (calls_by card cs))) (left_all from' (pick t (call ∷ calls_by card cs) (calls_by card cs)))
      by true q ih =
          let o = own card (left_all from (calls_by card cs)) (left_all from' (calls_by card cs)) (made_all from (calls_by card cs) made) (made_all from' (calls_by card cs) made') ih.1 call q in
          (ap₂ (λ (b : Back) (l : List Seen). seen call b ∷ l) o.0 ih.0, o.1)
      by false q ih = ih

isolated : (card : ℕ) (from from' : Station) (all other : List Seen) (st st' : Station) → WellMade from → WellMade from' → AgreeFor card from from'
    → LivesLent from all st → LivesLent from' other st' → calls_of (seen_by card all) ≡ calls_of (seen_by card other)
    → (seen_by card all ≡ seen_by card other) × AgreeFor card st st'
isolated card from from' all other st st' made made' agree lives lives' same =
    let cs = calls_of all in
    let ds = calls_of other in
    let q : calls_by card cs ≡ calls_by card ds = sym (calls_by_lem card all) ∙ same ∙ calls_by_lem card other in
    let v = lives_are from all st lives in
    let v' = lives_are from' other st' lives' in
    let a = alone card from made cs in
    let b = alone card from' made' ds in
    let t = together card from from' made made' agree cs in
    let sides : AgreeFor card (left_all from cs) (left_all from' ds) =
    agree_trans card (left_all from cs) (left_all from (calls_by card cs)) (left_all from' ds) a.1
    (agree_trans card (left_all from (calls_by card cs)) (left_all from' (calls_by card cs)) (left_all from' ds) t.1
    (subst (λ (l : List LentCall). AgreeFor card (left_all from' l) (left_all from' ds)) (sym q) (λ k h w. sym (b.1 k h w)))) in (
      ap (seen_by card) v.0 ∙ a.0 ∙ t.0 ∙ ap (seen_all from') q ∙ sym (ap (seen_by card) v'.0 ∙ b.0),
      subst (λ (x : Station). AgreeFor card x st') (sym v.1) (subst (AgreeFor card (left_all from cs)) (sym v'.1) sides),
    )

-- ISOLATION
pub isolation : Isolation
isolation =
    record {
      others_leave = λ card st call back st' e d. agree_as card st (does_are st call back st' d).1 (others card st call e);
      own_rows = λ card st st' call back back' to to' w w' agree e d d'.
          let o = own card st st' w w' agree call e in
          let a = does_are st call back to d in
          let b = does_are st' call back' to' d' in
          (a.0 ∙ o.0 ∙ sym b.0, both card st st' w w' agree a.1 b.1 o.1);
      own_book = λ card st st' call back back' to to' w w' agree same summed e d d'.
          (does_are st call back to d).0 ∙ all_own card st st' w w' agree same summed call e ∙ sym (does_are st' call back' to' d').0;
      isolated = isolated;
    }
