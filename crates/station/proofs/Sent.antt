-- A string that is sent is heard as it was sent (heard-as-sent): taken as clean, taken and repaired with one bit wrong, refused with two (the
-- statements stand in `specs/Sent.antt`).
-- Assumes nothing.
use mathlib.Core.Path.{◌≡◌, refl, sym, ap, ap₂, ◌∙◌}
use mathlib.Core.Bool.{Bool, true, false, ◌&&◌, ◌||◌}
use mathlib.Core.List.{List, [], ◌∷◌, ◌++◌, map}
use mathlib.Core.Logic.{⊎_elim, inl, inr}
use Prim.Native.Nat.{ℕ, ◌+◌, ◌-◌, ◌%◌, ◌^◌, ◌<◌}
use native.Mathlib.Omega.{arith}
use borrow.Author.Tests.{eq-eqb, ne_eqb, eqb-true, le-ltb}
use lib.Dec.{eqb, ltb, leb, lit≤}
use lib.ListN.{length, set}
use lib.Seq.{get_or-set_same, get_or-set_other}
use Rattle.strings.specs.declared.Verdict.{Verdict}
use Rattle.strings.specs.declared.Refusal.{Refusal}
use Rattle.tallies.specs.declared.Tallies.{Tallies}
use Rattle.book.specs.declared.Entry.{Entry}
use Rattle.std.specs.Prelude.{Result, Ok, Err, Option}
use Rattle.strings.specs.declared.Verdict.TheVariants.{Clean, Repaired}
use Rattle.strings.specs.declared.hamming.Damage.{Damage}
use Rattle.strings.specs.declared.hamming.Damage.TheVariants.{Unplaced, Even, Outside}
use Rattle.strings.specs.Number.{bit_of, number_of, misshapen, flip}
use Rattle.strings.specs.Hamming.{ruling, is_damaged}
use Rattle.strings.specs.Numbers.{damage_number, verdict_paper, first_of, place_of, said_by}
use Rattle.strings.specs.Calls.{is_idle}
use Rattle.strings.proofs.Digits.{flip_lt, flip_undo}
use Rattle.strings.proofs.Value.{string_number_lem}
use Rattle.strings.proofs.Shape.{string_shaped}
use Rattle.strings.proofs.Judge.{mended_by_lem}
use Rattle.strings.proofs.SoundTests.{damaged_says}
use Rattle.strings.proofs.Flips.{encoded_ruling, one_flip_ruling, bit_8_ruling, two_flips_ruling}
use Rattle.relative.specs.Relative.{write_relative, read_relative, inverse}
use Rattle.relative.specs.Polarity.{first_symbol}
use Rattle.relative.proofs.RelativeCode.{read_written, written_lt, inverse_lt, inverse_alike, first_written, first_turned}
use Rattle.hearing.specs.Hears.{plain_of, whole_of, hear_tests}
use Rattle.hearing.proofs.Hearing.{heard_then}
use Rattle.book.specs.declared.Book.{Book}
use Rattle.tallies.specs.Tallies.{is_clean, is_repaired, causes, cause_of, one_more, one_more_if, causes_after}
use Rattle.tallies.specs.Tallies.Outcome.{Taken}
use Rattle.channel.specs.declared.Row.{Row}
use Rattle.channel.specs.Frame.{place_tests}
use Rattle.channel.specs.Row.{holds_frame, frame_of, counted}
use Rattle.channel.specs.Offers.{answer_paper, offer_tests, taken_row, offered_row}
use Rattle.shows.specs.Shows.{shows_of, brought, changes}
use Rattle.station.specs.declared.Station.{Station}
use Rattle.station.specs.declared.Stepped.{Stepped}
use Rattle.station.specs.Station.{channels, no_row, row_at, held_at, is_served, told_in, book_after, entry_changes, corrected, summary_after, station_after, OffersTo}
use Rattle.station.specs.Queries.{all_counts, tallies_paper, FindsTallies}
use Rattle.station.proofs.Served.{open_says, served_below}
use Rattle.station.proofs.AfterOffer.{same_station}
use Rattle.station.specs.Sent.{SentString, m_of, SentAs, SentWith, IsBit, Awaits, tallies_at, SameButVerdict, HeardAsSent}

-- ---- upright or inverted, a string has its shape and is read as it was
module _ (k : ℕ) (s : List ℕ) (h : k < 2 ^ 84) (e : SentAs k s) where
  sent_shaped : misshapen s ≡ false
  sent_shaped =
      let w = write_relative k in
      ⊎_elim (λ p. ap misshapen p ∙ string_shaped w (written_lt k)) (λ p. ap misshapen p ∙ string_shaped (inverse w) (inverse_lt w (written_lt k))) e

  sent_plain : plain_of s ≡ k
  sent_plain =
      let w = write_relative k in
      ⊎_elim (λ p. ap plain_of p ∙ ap read_relative (string_number_lem w (written_lt k)) ∙ read_written k h)
      (λ p. ap plain_of p ∙ ap read_relative (string_number_lem (inverse w) (inverse_lt w (written_lt k))) ∙ inverse_alike w (written_lt k) ∙ read_written k h) e

-- which of the two it is, its first symbol shows
module _ (k : ℕ) (s : List ℕ) (p : ℕ) (h : k < 2 ^ 84) (e : SentWith k s p) where
  sent_as : SentAs k s
  sent_as = ⊎_elim (λ u. inl u.0) (λ u. inr u.0) e

  sent_first : first_symbol (number_of s) ≡ p
  sent_first =
      let w = write_relative k in
      ⊎_elim (λ u. ap (λ (l : List ℕ). first_symbol (number_of l)) u.0 ∙ ap first_symbol (string_number_lem w (written_lt k)) ∙ first_written k h ∙ sym u.1)
      (λ u. ap (λ (l : List ℕ). first_symbol (number_of l)) u.0 ∙ ap first_symbol (string_number_lem (inverse w) (inverse_lt w (written_lt k)))
      ∙ first_turned w ∙ ap (λ (b : ℕ). (b + 1) % 2) (first_written k h) ∙ sym u.1) e

-- ---- what the check says of it
-- bytes that the check leaves as n with the verdict v
record LeftAs (s : List ℕ) (n : ℕ) (v : Verdict) : Type 0 where
  shape : misshapen s ≡ false
  rules : ruling (plain_of s) ≡ Ok v
  whole : whole_of s ≡ n

module _ (n : ℕ) (g : SentString n) where
  low : n < 2 ^ 84
  low = omega (arith, g.small, g.idle)

  left_clean : (s : List ℕ) → SentAs n s → LeftAs s n Clean
  left_clean s e =
      let p = sent_plain n s low e in
      let rules = ap ruling p ∙ encoded_ruling n g.encoded in
      record { shape = sent_shaped n s low e; rules = rules; whole = mended_by_lem (plain_of s) Clean rules ∙ p }

  module _ (i : ℕ) (b : IsBit i) where
    flip_low : flip n i < 2 ^ 84
    flip_low = flip_lt 84 n i low b.0 b.1

    left-repaired : (s : List ℕ) → (i ≡ 8 → ⊥) → SentAs (flip n i) s → LeftAs s n (Repaired i)
    left-repaired s ne e =
        let p = sent_plain (flip n i) s flip_low e in
        let rules = ap ruling p ∙ one_flip_ruling n i g.encoded b.0 (omega (arith, b.1)) ne in
        record {
          shape = sent_shaped (flip n i) s flip_low e;
          rules = rules;
          whole = mended_by_lem (plain_of s) (Repaired i) rules ∙ ap (λ (x : ℕ). flip x i) p ∙ flip_undo 84 n i low b.0 b.1;
        }

-- ---- one string is not the four of a record
not_four : (m : ℕ) → (leb m 4 && ((eqb 1 m || false) && ((eqb 2 m || false) && ((eqb 3 m || false) && (eqb 4 m || false))))) ≡ false
not_four m = by (leb m 4) (eqb 1 m) (eqb 2 m) refl refl
  where
    by : (a b d : Bool) → eqb 1 m ≡ b → eqb 2 m ≡ d → (a && ((b || false) && ((d || false) && ((eqb 3 m || false) && (eqb 4 m || false))))) ≡ false
    by false b d p q = refl
    by true false d p q = refl
    by true true false p q = refl
    by true true true p q = let x = eqb-true 1 m p in let y = eqb-true 2 m q in absurd (omega arith)

-- ---- DAMAGED, whatever the channel holds
damaged : (st : Station) (card c epoch k : ℕ) (s : List ℕ) (r : Stepped) → is_served card c ≡ true → k < 2 ^ 84 → (d : Damage) → ruling k ≡ Err d → SentAs k s
    → OffersTo st card c epoch s r → answer_paper r.answer ≡ damage_number d ∷ []
damaged st card c epoch k s r l h d q e o =
    let p = damaged_says (plain_of s) d (ap ruling (sent_plain k s h e) ∙ q) (place_tests (held_at st c) epoch (whole_of s)) in
    o.answer ∙ open_says card c (offer_tests (held_at st c) epoch s) (told_in st c epoch s) l ∙ rw (sent_shaped k s h e, p.0, p.1) (alone d)
  where
    alone : (d : Damage) → said_by (damage_number d) [] (told_in st c epoch s) ≡ damage_number d ∷ []
    alone Unplaced = refl
    alone Even = refl
    alone Outside = refl

-- ---- bytes that the check leaves as n with the verdict v, where their channel awaits that string
module _ (st : Station) (card c epoch n : ℕ) (a : Awaits st card c epoch n) (idle : bit_of n 85 ≡ 0) (s : List ℕ) (v : Verdict) (w : LeftAs s n v) where
  abbrev row : Row
  row = row_at st c

  holds_none : holds_frame row.present ≡ false
  unfolding holds_frame
  holds_none = rw (eq-eqb (row.present % 2 ^ 15) 0 a.no_frame)

  not_idle : is_idle n ≡ false
  not_idle = rw idle

  not_zero : eqb (m_of n) 0 ≡ false
  not_zero = ne_eqb (m_of n) 0 (λ z. omega (arith, a.numbered))

  in_time : ltb epoch (m_of n - 1) ≡ false
  in_time = le-ltb epoch (m_of n - 1) a.not_early

  -- 2 to 4 let it pass
  passes : let ts = place_tests (frame_of row) epoch (whole_of s) in (first_of (hear_tests s ++ ts) ≡ first_of ts) × (place_of (hear_tests s ++ ts) ≡ place_of ts)
  passes =
      heard_then s (place_tests (frame_of row) epoch (whole_of s)) w.shape (record { sound = ap is_damaged w.rules; idle = ap is_idle w.whole ∙ not_idle })

  -- taken, kept, and told with the first symbol
  taken : (r : Stepped) → OffersTo st card c epoch s r → answer_paper r.answer ≡ 0 ∷ m_of n ∷ ((verdict_paper v ++ (1 ∷ [])) ++ (first_symbol (number_of s) ∷ []))
  taken r o =
      o.answer ∙ open_says card c (offer_tests (held_at st c) epoch s) (told_in st c epoch s) a.served
      ∙ rw (passes.0, passes.1, w.rules, w.whole, not_zero, in_time, holds_none, not_four (m_of n))

  -- the row and the book that it leaves
  clear : first_of (offer_tests (frame_of row) epoch s) ≡ 0
  clear = passes.0 ∙ rw (w.whole, not_zero, in_time, holds_none)

  abbrev next : Row
  next = counted (Taken v) (taken_row row epoch n)

  row_left : offered_row row epoch s ≡ next
  row_left = rw (clear, w.rules, w.whole)

  book_left : book_after st.book row epoch s ≡ brought st.book (shows_of (frame_of (taken_row row epoch n)))
  unfolding counted
  book_left = rw (clear, w.whole, holds_none)

  -- and the summary: an entry changes by what the frame then shows
  abbrev shown : List (Option (ℕ × Entry))
  shown = shows_of (frame_of (taken_row row epoch n))

  changes_left : entry_changes st.book row epoch s ≡ changes st.book shown
  unfolding counted
  changes_left = rw (clear, w.whole, holds_none)

  summary_left : summary_after st.summary st.book row epoch s ≡ corrected (changes st.book shown) (brought st.book shown) st.summary
  summary_left = ap₂ (λ (t : Bool) (b : Book). corrected t b st.summary) changes_left book_left

  module _ (r : Stepped) (o : OffersTo st card c epoch s r) where
    station-left : r.station ≡ record {
      rows = set st.rows c next;
      book = brought st.book shown;
      summary = corrected (changes st.book shown) (brought st.book shown) st.summary;
    }
    unfolding station_after
    station-left = o.station ∙ rw a.served (same_station _ _ (ap (set st.rows c) row_left) book_left summary_left)

    its-row : length st.rows ≡ channels → row_at r.station c ≡ next
    its-row long = ap (λ (x : Station). row_at x c) station-left ∙ get_or-set_same st.rows c next no_row (omega (arith, served_below card c a.served))

    other_row : (k : ℕ) → (k ≡ c → ⊥) → row_at r.station k ≡ row_at st k
    other_row k d = ap (λ (x : Station). row_at x k) station-left ∙ get_or-set_other st.rows c k next no_row d

  -- and the tallies that are then told
  told : (r : Stepped) (t : Result Tallies Refusal) → OffersTo st card c epoch s r → length st.rows ≡ channels → FindsTallies r.station card c t
      → tallies_paper t ≡ 0 ∷ one_more (tallies_at st c).offered ∷ one_more_if (is_clean (Taken v)) (tallies_at st c).clean
      ∷ one_more_if (is_repaired (Taken v)) (tallies_at st c).repaired ∷ (tallies_at st c).refused ∷ map (cause_of (tallies_at st c)) causes
  unfolding FindsTallies counted taken_row causes_after
  told r t o long f = f ∙ open_says card c [] (all_counts (row_at r.station c).tallies) a.served ∙ ap (λ (z : Row). 0 ∷ all_counts z.tallies) (its-row r o long)

-- ---- the string as it is and with bit i wrong leave one station, but for the verdict's tally
same_left : (st : Station) (card c epoch n : ℕ) → SentString n → (i : ℕ) (s t : List ℕ) (q r : Stepped) → length st.rows ≡ channels → Awaits st card c epoch n
    → IsBit i → (i ≡ 8 → ⊥) → SentAs n s → OffersTo st card c epoch s q → SentAs (flip n i) t → OffersTo st card c epoch t r
    → SameButVerdict st c q.station r.station
unfolding counted taken_row causes_after
same_left st card c epoch n g i s t q r long a b ne e o f p =
    let w = left_clean n g s e in
    let v = left-repaired n g i b t ne f in
    let x = its-row st card c epoch n a g.idle s Clean w q o long in
    let y = its-row st card c epoch n a g.idle t (Repaired i) v r p long in
    record {
      book = ap (λ (z : Station). z.book) (station-left st card c epoch n a g.idle t (Repaired i) v r p)
          ∙ sym (ap (λ (z : Station). z.book) (station-left st card c epoch n a g.idle s Clean w q o));
      summary = ap (λ (z : Station). z.summary) (station-left st card c epoch n a g.idle t (Repaired i) v r p)
          ∙ sym (ap (λ (z : Station). z.summary) (station-left st card c epoch n a g.idle s Clean w q o));
      others = λ k d. other_row st card c epoch n a g.idle t (Repaired i) v r p k d ∙ sym (other_row st card c epoch n a g.idle s Clean w q o k d);
      strings = ap (λ (z : Row). z.strings) y ∙ sym (ap (λ (z : Row). z.strings) x);
      start = ap (λ (z : Row). z.start) y ∙ sym (ap (λ (z : Row). z.start) x);
      present = ap (λ (z : Row). z.present) y ∙ sym (ap (λ (z : Row). z.present) x);
      immediate = ap (λ (z : Row). z.immediate) y ∙ sym (ap (λ (z : Row). z.immediate) x);
      offered = ap (λ (z : Row). z.tallies.offered) y ∙ sym (ap (λ (z : Row). z.tallies.offered) x);
      refused = ap (λ (z : Row). z.tallies.refused) y ∙ sym (ap (λ (z : Row). z.tallies.refused) x);
      causes_stay = ap (λ (z : Row). z.tallies.causes) y ∙ sym (ap (λ (z : Row). z.tallies.causes) x);
      clean_counted = ap (λ (z : Row). z.tallies.clean) x;
      clean_not = ap (λ (z : Row). z.tallies.repaired) x;
      repaired_counted = ap (λ (z : Row). z.tallies.repaired) y;
      repaired_not = ap (λ (z : Row). z.tallies.clean) y;
    }

-- ---- A STRING IS HEARD AS IT WAS SENT
pub heard_as_sent : (st : Station) (card c epoch n : ℕ) → SentString n → HeardAsSent st card c epoch n
heard_as_sent st card c epoch n g =
    record {
      clean = λ s p r a e o.
          taken st card c epoch n a g.idle s Clean (left_clean n g s (sent_as n s p (low n g) e)) r o
          ∙ ap (λ (b : ℕ). 0 ∷ m_of n ∷ 0 ∷ 0 ∷ 1 ∷ b ∷ []) (sent_first n s p (low n g) e);
      one_flip = λ i s p r a b ne e o.
          let k = flip n i in
          let h = flip_low n g i b in
          taken st card c epoch n a g.idle s (Repaired i) (left-repaired n g i b s ne (sent_as k s p h e)) r o
          ∙ ap (λ (x : ℕ). 0 ∷ m_of n ∷ 1 ∷ i ∷ 1 ∷ x ∷ []) (sent_first k s p h e);
      left = same_left st card c epoch n g;
      clean_told = λ s r t long a e o f. told st card c epoch n a g.idle s Clean (left_clean n g s e) r t o long f;
      repaired_told = λ i s r t long a b ne e o f. told st card c epoch n a g.idle s (Repaired i) (left-repaired n g i b s ne e) r t o long f;
      bit_8 = λ s r l e o. damaged st card c epoch (flip n 8) s r l (flip_low n g 8 (lit≤ tt, lit≤ tt)) Unplaced (bit_8_ruling n g.encoded) e o;
      two_flips = λ i j s r l b d ne e o.
          damaged st card c epoch (flip (flip n i) j) s r l (flip_lt 84 (flip n i) j (flip_low n g i b) d.0 d.1)
          Even (two_flips_ruling n i j g.encoded b.0 (omega (arith, b.1)) d.0 (omega (arith, d.1)) ne) e o;
    }
