-- What an offer to another channel leaves of a channel's record: its row stands still, no entry of the book goes away, and so a record that was not refused
-- is not refused afterwards, of the same satellite and epoch (answered-stays).
-- Assumes nothing.
use Prim.Native.Nat.{ℕ, zero, suc, ◌-◌, ◌≤◌}
use mathlib.Core.Bool.{Bool, true, false, not, ◌&&◌, ◌||◌, true≢false, false≢true}
use mathlib.Core.List.{List, [], ◌∷◌, ◌++◌}
use mathlib.Core.Path.{◌≡◌, refl, sym, ap, subst}
use native.Mathlib.Omega.{arith}
use borrow.Author.Tests.{eqb-true, eqb-false, ltb-true, ltb-false, ne_eqb, not-true}
use lib.Dec.{eqb, ltb}
use lib.IntN.{nat_abs}
use lib.ListN.{length, get_or, set, drop}
use lib.Seq.{set_out, get_or-set_same, get_or-set_other}
use Rattle.strings.specs.Pick.{pick}
use Rattle.std.specs.Prelude.{Option, Some, None}
use Rattle.strings.specs.Numbers.{Test, test, test_at, first_of}
use Rattle.strings.proofs.Below.{both}
use Rattle.strings.proofs.Tests.{past_first}
use Rattle.words.specs.Immediate.{immediate_of}
use Rattle.book.specs.declared.Entry.{Entry}
use Rattle.book.specs.declared.Book.{Book}
use Rattle.book.specs.Entry.{meaning, is_below, greater, blank}
use Rattle.book.specs.Book.{in_slot, joined, joined_shown}
use Rattle.immediate.specs.Kept.{has_record}
use Rattle.channel.specs.declared.Row.{Row}
use Rattle.channel.specs.Row.{frame_of}
use Rattle.channel.specs.Offers.{offered_row, stores_it}
use Rattle.shows.specs.Shows.{shows_of, brought}
use Rattle.station.specs.declared.Station.{Station}
use Rattle.station.specs.Station.{row_at, gate_tests, is_served, book_after, station_after}
use Rattle.station.specs.Queries.{is_slot, is_empty}
use Rattle.station.proofs.Served.{past_gate}
use Rattle.station.proofs.ChannelRuns.{after_none, after_some, after_apart}
use Rattle.navigation_queries.specs.Five.{has_five, five_of}
use Rattle.navigation_queries.specs.Carrier.{has_entry}
use Rattle.navigation.specs.Writes.{n_at, is_within, record_bytes, quarter_of, quarter_at}
use Rattle.navfile.specs.File.{ask_of, is_answered}
use Rattle.navfile.proofs.Answered.{answered_first, first_answered}

-- ---- no entry goes away: the greater of two has no smaller day
day_grows : (a b : Entry) → is_below (meaning a) (meaning b) ≡ true → a.day ≤ b.day
day_grows a b e = by (ltb a.day b.day) (eqb a.day b.day) _ refl refl e
  where
    by : (t u v : Bool) → ltb a.day b.day ≡ t → eqb a.day b.day ≡ u → (t || (u && v)) ≡ true → a.day ≤ b.day
    by true u v p q r = omega (arith, ltb-true a.day b.day p)
    by false true v p q r = omega (arith, eqb-true a.day b.day q)
    by false false v p q r = absurd (false≢true r)

greater_dated : (a b : Entry) → 1 ≤ a.day → 1 ≤ (greater a b).day
unfolding greater
greater_dated a b h = by (is_below (meaning a) (meaning b)) refl
  where
    by : (t : Bool) → is_below (meaning a) (meaning b) ≡ t → 1 ≤ (pick t b a).day
    by true e = omega (arith, day_grows a b e)
    by false e = h

-- at a place of the entries, whichever place is joined
put_dated : (l : List Entry) (i j : ℕ) (e : Entry) → 1 ≤ (get_or l i blank).day → 1 ≤ (get_or (set l j (greater (get_or l j blank) e)) i blank).day
put_dated l i j e h = by (eqb i j) refl (ltb j (length l)) refl
  where
    by : (t : Bool) → eqb i j ≡ t → (u : Bool) → ltb j (length l) ≡ u → 1 ≤ (get_or (set l j (greater (get_or l j blank) e)) i blank).day
    by true p true q =
        let s : i ≡ j = eqb-true i j p in
        let g : 1 ≤ (get_or l j blank).day = subst (λ (k : ℕ). 1 ≤ (get_or l k blank).day) s h in
        let d : 1 ≤ (get_or (set l j (greater (get_or l j blank) e)) j blank).day =
        subst (λ (x : Entry). 1 ≤ x.day) (sym (get_or-set_same l j (greater (get_or l j blank) e) blank (ltb-true j (length l) q))) (greater_dated (get_or l j blank) e g)
        in
        subst (λ (k : ℕ). 1 ≤ (get_or (set l j (greater (get_or l j blank) e)) k blank).day) (sym s) d
    by true p false q = subst (λ (m : List Entry). 1 ≤ (get_or m i blank).day) (sym (set_out l j (greater (get_or l j blank) e) (ltb-false j (length l) q))) h
    by false p u q = subst (λ (x : Entry). 1 ≤ x.day) (sym (get_or-set_other l j i (greater (get_or l j blank) e) blank (eqb-false i j p))) h

-- in the book: an entry that is shown, all that are, and after an offer
abbrev Filled : Book → ℕ → Type 0
Filled b k = 1 ≤ (in_slot b k).day

shown_filled : (b : Book) (s : Option (ℕ × Entry)) (k : ℕ) → Filled b k → Filled (joined_shown b s) k
unfolding joined_shown joined
shown_filled b None k h = h
shown_filled b (Some (j, e)) k h = put_dated b.entries (k - 1) (j - 1) e h

brought_filled : (ss : List (Option (ℕ × Entry))) (b : Book) (k : ℕ) → Filled b k → Filled (brought b ss) k
unfolding brought
brought_filled [] b k h = h
brought_filled (s ∷ ss) b k h = brought_filled ss (joined_shown b s) k (shown_filled b s k h)

module _ (st : Station) (card ch epoch : ℕ) (s : List ℕ) where
  abbrev after : Station
  after = station_after st card ch epoch s

  book_filled : (k : ℕ) → Filled st.book k → Filled (book_after st.book (row_at st ch) epoch s) k
  book_filled k h = by (stores_it (frame_of (row_at st ch)) epoch s)
    where
      by : (t : Bool) → Filled (pick t (brought st.book (shows_of (frame_of (offered_row (row_at st ch) epoch s)))) st.book) k
      by true = brought_filled (shows_of (frame_of (offered_row (row_at st ch) epoch s))) st.book k h
      by false = h

  after_filled : (k : ℕ) → Filled st.book k → Filled after.book k
  after_filled k h = by (is_served card ch) refl
    where
      by : (t : Bool) → is_served card ch ≡ t → Filled after.book k
      by true e = subst (λ (x : Station). Filled x.book k) (sym (after_some st card ch epoch s e)) (book_filled k h)
      by false e = subst (λ (x : Station). Filled x.book k) (sym (after_none st card ch epoch s e)) h

  entry_stays : (k : ℕ) → has_entry st k ≡ true → has_entry after k ≡ true
  entry_stays k e =
      let p = both (is_slot k) (not (is_empty st.book k)) e in
      let n = eqb-false (in_slot st.book k).day 0 (not-true (is_empty st.book k) p.1) in
      let h : 1 ≤ (in_slot st.book k).day = positive (in_slot st.book k).day n in
      let f = after_filled k h in
      let z : is_empty after.book k ≡ false = ne_eqb (in_slot after.book k).day 0 (λ q. omega arith) in
      rw (p.0, z)
    where
      positive : (d : ℕ) → (d ≡ 0 → ⊥) → 1 ≤ d
      positive zero g = absurd (g refl)
      positive (suc d) g = omega arith

-- ---- the tests of a record, by the row and by whether there is an entry
abbrev n_of : Row → ℕ
n_of row = nat_abs (immediate_of row.immediate.strings).four.n

abbrev nt_of : Row → ℕ
nt_of row = nat_abs (immediate_of row.immediate.strings).four.nt

abbrev tb_of : Row → ℕ
tb_of row = nat_abs (immediate_of row.immediate.strings).two.tb

abbrev n4_of : Row → ℕ
n4_of row = nat_abs (five_of ((frame_of row).text 5)).n4

abbrev own_tests : Row → Bool → List Test
own_tests row entry =
    test 13 (not (has_record row.immediate && (has_five row && entry)))
    ∷ test_at 10 (pick (is_within 1 1461 (nt_of row)) 36 26) (not (is_within 1 1461 (nt_of row) && is_within 1 21 (n4_of row)))
    ∷ test 17 (not (eqb record_bytes record_bytes))
    ∷ []

abbrev first_with : ℕ → ℕ → Row → Bool → ℕ
first_with card c row entry = first_of (gate_tests card c ++ own_tests row entry)

needs_entry : (a b : Bool) → not (a && (b && false)) ≡ false → ⊥
needs_entry true true e = true≢false e
needs_entry true false e = true≢false e
needs_entry false b e = true≢false e

first_stays : (card c : ℕ) (row : Row) (t u : Bool) → (t ≡ true → u ≡ true) → first_with card c row t ≡ 0 → first_with card c row u ≡ 0
first_stays card c row true true f e = e
first_stays card c row true false f e = absurd (false≢true (f refl))
first_stays card c row false u f e =
    absurd (needs_entry (has_record row.immediate) (has_five row) (past_first 12 (not (has_record row.immediate && (has_five row && false))) (drop 1 (own_tests row false)) (past_gate card c (own_tests row false) e)).0)

module _ (st : Station) (card ch epoch : ℕ) (s : List ℕ) (c : ℕ) (other : c ≡ ch → ⊥) where
  abbrev then : Station
  then = station_after st card ch epoch s

  row_stays : row_at then c ≡ row_at st c
  row_stays = after_apart st card ch c (λ e q. other q) epoch s

  -- THE RECORD STAYS
  pub answered_stays : is_answered card (ask_of st c) ≡ true → is_answered card (ask_of then c) ≡ true
  answered_stays e =
      first_answered card then c
      (subst (λ (row : Row). first_with card c row (has_entry then (n_of row)) ≡ 0) (sym row_stays)
      (first_stays card c (row_at st c) (has_entry st (n_at st c)) (has_entry then (n_at st c)) (entry_stays st card ch epoch s (n_at st c)) (answered_first card st c e)))

  pub satellite_stays : n_at then c ≡ n_at st c
  satellite_stays = ap n_of row_stays

  pub epoch_stays : quarter_at then c ≡ quarter_at st c
  epoch_stays = ap (λ (row : Row). quarter_of (n4_of row) (nt_of row) (tb_of row)) row_stays
