-- RANGE: which word it names (first-bad-is, none-bad-is; read-range, write-range of the answers), at which words what is read can fail at all and
-- when (reading-fails), and the range of every word in numbers, with both ends (ends, range-is, tk-is).
-- Assumes nothing.
use mathlib.Core.Path.{◌≡◌, refl, sym, ap, ap₂, ◌∙◌, subst}
use mathlib.Core.Bool.{Bool, true, false, not, ◌&&◌, ◌||◌, true≢false, beq}
use mathlib.Core.List.{List, [], ◌∷◌, ◌++◌}
use mathlib.Core.Logic.{◌↔◌, ◌⊎◌, inl, inr, ⊎_elim}
use Prim.Native.Nat.{ℕ, zero, suc, ◌+◌, ◌-◌, ◌*◌, ◌/◌, ◌%◌, ◌^◌, ◌≤◌, ◌<◌, suc-le-suc}
use native.Mathlib.Nat.{le_of_suc-le-suc, not-suc-le-zero, zero-lt-suc, lt_of_lt_of_le}
use native.Mathlib.Omega.{arith}
use borrow.Author.Tests.{lt-ltb, le-leb, not-true, eqb-false, ltb-true, ltb-false}
use lib.Dec.{T, eqb, leb, ltb, lit<, eqb→eq}
use lib.IntN.{ℤ, pos, negsuc, neg_ℤ, nat_abs, suc_ℤ, pred_ℤ}
use lib.ListN.{length, get_or, drop}
use lib.Pow.{pow_pos, pow_mono}
use lib.Signed.{le_z}
use Rattle.strings.specs.Pick.{pick}
use Rattle.std.specs.Prelude.{Err}
use Rattle.strings.specs.declared.Refusal.TheVariants.{Range}
use Rattle.strings.specs.Number.{number_of, misshapen, word_of}
use Rattle.strings.specs.Hamming.{mended}
use Rattle.strings.specs.Numbers.{Test, first_of}
use Rattle.strings.specs.Calls.{no_room, sound_tests}
use Rattle.strings.proofs.Below.{and_left, and_right, below, below_at, unfit, both}
use Rattle.strings.proofs.Answer.{first_given}
use Rattle.strings.proofs.Tests.{past_other, all_of, first_fits}
use Rattle.strings.proofs.SoundTests.{sound_else, sound_then}
use Rattle.layout.specs.declared.table.Form.{Form}
use Rattle.layout.specs.declared.table.Form.TheVariants.{Plain, Signed, Time, Interval, Day, Slot, Carrier}
use Rattle.layout.specs.declared.table.Word.{Word}
use Rattle.records.specs.declared.kinds.Kind.{Kind}
use Rattle.records.specs.declared.kinds.Kind.TheVariants.{One, Two, Three, Four, Five, Even, Odd, Fourteen}
use Rattle.records.specs.declared.named.Record.{Record}
use Rattle.layout.specs.Layout.{layout, none, word, kind_number, of_kind}
use Rattle.words.specs.Signed.{signed_at}
use Rattle.words.specs.Values.{value_in, least_of, most_of, is_time, is_tk, in_range, values_of, first_bad}
use Rattle.records.specs.Records.{kind_of, list_of}
use Rattle.words.specs.Calls.{number_in, word_tests, read_tests, Reads, Writes}
use Rattle.words.specs.Tidied.{word_at, bits_in}
use Rattle.words.specs.Ranges.{FirstOut, Ends, AtEnds, end_at, TimeOfDay}
pub use Rattle.words.specs.Ranges.{readable, may_fail}
use Rattle.layout.proofs.EveryKind.{kinds, every, every_kind}
use Rattle.words.proofs.Forms.{and_all}
use Rattle.words.proofs.WordBits.{word_lt}
use Rattle.layout.proofs.Rows.{layout_long}
use Rattle.words.proofs.Fits.{is_true, sound_at, range_at, layout_laid}
use Rattle.words.proofs.Trip.{kind_values_long}
use Rattle.records.proofs.RecordLists.{list_long}
use Rattle.words.proofs.RoundTrips.{write_numbers}

-- ---- "RANGE names the first word that fails, from the highest bit number down, by that word's top bit number"
first_out : (w : Word) (ws : List Word) (z : ℤ) (zs : List ℤ) (b : Bool) → in_range w z ≡ b → ((first_bad ws zs ≡ 0 → ⊥) → FirstOut ws zs (first_bad ws zs))
    → (pick b (first_bad ws zs) w.top ≡ 0 → ⊥) → FirstOut (w ∷ ws) (z ∷ zs) (pick b (first_bad ws zs) w.top)
first_out w ws z zs true q ih h =
    let o = ih h in
    let earlier : (i : ℕ) → i < suc o.index → in_range (get_or (w ∷ ws) i none) (get_or (z ∷ zs) i (pos 0)) ≡ true = before-suc w ws z zs o.index q o.before in
    record { index = suc o.index; there = suc-le-suc o.there; names = o.names; fails = o.fails; before = earlier }
  where
    before-suc : (w : Word) (ws : List Word) (z : ℤ) (zs : List ℤ) (j : ℕ) → in_range w z ≡ true
        → ((i : ℕ) → i < j → in_range (get_or ws i none) (get_or zs i (pos 0)) ≡ true) → (i : ℕ) → i < suc j → in_range (get_or (w ∷ ws) i none) (get_or (z ∷ zs) i (pos 0)) ≡ true
    before-suc w ws z zs j q b zero l = q
    before-suc w ws z zs j q b (suc i) l = b i (le_of_suc-le-suc l)
first_out w ws z zs false q ih h =
    record { index = 0; there = zero-lt-suc (length ws); names = refl; fails = q; before = λ i l. absurd (not-suc-le-zero l) }

found : (ws : List Word) (zs : List ℤ) → length zs ≡ length ws → (first_bad ws zs ≡ 0 → ⊥) → FirstOut ws zs (first_bad ws zs)
unfolding first_bad
found [] zs n h = absurd (h refl)
found (w ∷ ws) [] n h = absurd (omega arith)
found (w ∷ ws) (z ∷ zs) n h = first_out w ws z zs (in_range w z) refl (found ws zs (omega arith)) h

stops : (ws : List Word) (zs : List ℤ) (j : ℕ) → length zs ≡ length ws → j < length ws → in_range (get_or ws j none) (get_or zs j (pos 0)) ≡ false
    → ((i : ℕ) → i < j → in_range (get_or ws i none) (get_or zs i (pos 0)) ≡ true) → first_bad ws zs ≡ (get_or ws j none).top
unfolding first_bad
stops [] zs j n l f b = absurd (not-suc-le-zero l)
stops (w ∷ ws) [] j n l f b = absurd (omega arith)
stops (w ∷ ws) (z ∷ zs) zero n l f b = rw f
stops (w ∷ ws) (z ∷ zs) (suc j) n l f b = rw (b 0 (zero-lt-suc j)) (stops ws zs j (omega arith) (le_of_suc-le-suc l) f (λ i h. b (suc i) (suc-le-suc h)))

passes : (ws : List Word) (zs : List ℤ) → ((i : ℕ) → i < length ws → in_range (get_or ws i none) (get_or zs i (pos 0)) ≡ true) → first_bad ws zs ≡ 0
unfolding first_bad
passes [] zs b = refl
passes (w ∷ ws) [] b = refl
passes (w ∷ ws) (z ∷ zs) b = rw (b 0 (zero-lt-suc (length ws))) (passes ws zs (λ i l. b (suc i) (suc-le-suc l)))

module _ (k : Kind) (zs : List ℤ) (n : length zs ≡ 8) where
  long : length zs ≡ length (layout k)
  long = n ∙ sym (layout_long k)

  -- p, not 0, is told exactly where it is the top bit number of a word that is out of range while every word before it, higher up
  -- (`words_fall` of the layout), is in range
  pub first_bad_is : (p : ℕ) → ((p ≡ 0 → ⊥) × (first_bad (layout k) zs ≡ p)) ↔ FirstOut (layout k) zs p
  first_bad_is p = (
    (λ h. subst (FirstOut (layout k) zs) h.1 (found (layout k) zs long (λ e. h.0 (sym h.1 ∙ e)))),
    (λ o. let some = (sound_at 80 (layout k) (layout_laid k) o.index).some in
        ((λ e. omega (arith, o.names)), stops (layout k) zs o.index long o.there o.fails o.before ∙ sym o.names)),
  )

  -- and 0 exactly where every word is in range
  pub none_bad_is : (first_bad (layout k) zs ≡ 0) ↔ ((j : ℕ) → j < 8 → in_range (word_at k j) (get_or zs j (pos 0)) ≡ true)
  none_bad_is = (
    (λ e j l. range_at (layout k) zs 80 (layout_laid k) long e j (omega (arith, layout_long k))),
    (λ b. passes (layout k) zs (λ j l. b j (omega (arith, layout_long k)))),
  )

-- ---- "Only these ranges refuse": a plain number or a signed one that was read is in range, whatever its bits
minus_le_pos : (x n : ℕ) → le_z (neg_ℤ (pos x)) (pos n) ≡ true
minus_le_pos zero n = le-leb 0 n (omega arith)
minus_le_pos (suc x) n = refl

minus_le : (x d : ℕ) → d ≤ x → le_z (neg_ℤ (pos x)) (neg_ℤ (pos d)) ≡ true
minus_le x zero l = minus_le_pos x 0
minus_le zero (suc d) l = absurd (not-suc-le-zero l)
minus_le (suc x) (suc d) l = le-leb d x (le_of_suc-le-suc l)

signed_in_lem : (half raw : ℕ) → 1 ≤ half → raw < half + half → (le_z (neg_ℤ (pos (half - 1))) (signed_at half raw) && le_z (signed_at half raw) (pos (half - 1))) ≡ true
signed_in_lem half raw h l = by (ltb raw half) refl
  where
    by : (b : Bool) → ltb raw half ≡ b → (le_z (neg_ℤ (pos (half - 1))) (pick b (pos raw) (neg_ℤ (pos (raw - half)))) && le_z (pick b (pos raw) (neg_ℤ (pos (raw - half)))) (pos (half - 1))) ≡ true
    by true q = rw (minus_le_pos (half - 1) raw) (le-leb raw (half - 1) (omega (arith, ltb-true raw half q)))
    by false q = rw (minus_le (half - 1) (raw - half) (omega (arith, ltb-false raw half q))) (minus_le_pos (raw - half) (half - 1))

abbrev is_free : Form → Bool
is_free Plain = true
is_free Signed = true
is_free Time = false
is_free Interval = false
is_free Day = false
is_free Slot = false
is_free Carrier = false

module _ (t l raw : ℕ) (h : raw < 2 ^ (t + 1 - l)) where
  plain_in_lem : in_range (word Plain t l) (value_in (word Plain t l) raw) ≡ true
  plain_in_lem = rw (le-leb 0 raw (omega arith), le-leb raw (2 ^ (t + 1 - l) - 1) (omega arith))

  sign_in : in_range (word Signed t l) (value_in (word Signed t l) raw) ≡ true
  sign_in =
      let e : 2 ^ suc (t - l) ≡ 2 ^ (t - l) + 2 ^ (t - l) = omega arith in
      let u : raw < 2 ^ (t - l) + 2 ^ (t - l) = rw (← e) (lt_of_lt_of_le h (pow_mono {i = t + 1 - l} {j = suc (t - l)} (omega arith))) in
      rw (signed_in_lem (2 ^ (t - l)) raw (pow_pos (t - l)) u)

  form_in : (f : Form) → is_free f ≡ true → in_range (word f t l) (value_in (word f t l) raw) ≡ true
  form_in Plain e = plain_in_lem
  form_in Signed e = sign_in
  form_in Time e = absurd (true≢false (sym e))
  form_in Interval e = absurd (true≢false (sym e))
  form_in Day e = absurd (true≢false (sym e))
  form_in Slot e = absurd (true≢false (sym e))
  form_in Carrier e = absurd (true≢false (sym e))

-- so the first bad word of what was read is the first of the other forms that is bad
abbrev other_bad : ℕ → List Word → ℕ
other_bad n [] = 0
other_bad n (w ∷ ws) = pick (is_free w.form) (other_bad n ws) (pick (in_range w (value_in w (bits_in n w))) (other_bad n ws) w.top)

other_by : (n : ℕ) (w : Word) (ws : List Word) (b : Bool) → is_free w.form ≡ b → first_bad ws (values_of n ws) ≡ other_bad n ws
    → pick (in_range w (value_in w (bits_in n w))) (first_bad ws (values_of n ws)) w.top ≡ pick b (other_bad n ws) (pick (in_range w (value_in w (bits_in n w))) (other_bad n ws) w.top)
other_by n w ws true q ih = rw (form_in w.top w.low (bits_in n w) (word_lt n w.top w.low) w.form q) ih
other_by n w ws false q ih = rw ih

other_bad_lem : (n : ℕ) (ws : List Word) → first_bad ws (values_of n ws) ≡ other_bad n ws
unfolding first_bad values_of
other_bad_lem n [] = refl
other_bad_lem n (w ∷ ws) = other_by n w ws (is_free w.form) refl (other_bad_lem n ws)

-- a range as the paper says it, computed at every value of the bits
said : (w : Word) (f : ℕ → Bool) (m : ℕ) → T (below m (λ raw. beq (in_range w (value_in w raw)) (f raw))) → (raw : ℕ) → raw < m
    → in_range w (value_in w raw) ≡ f raw
said w f m t raw h = same _ _ (below_at m (λ raw. beq (in_range w (value_in w raw)) (f raw)) t raw h)
  where
    same : (a b : Bool) → T (beq a b) → a ≡ b
    same true true t = refl
    same true false t = absurd t
    same false true t = absurd t
    same false false t = refl

-- tk and NA, by their ends
time_said : (raw : ℕ) → raw < 4096 → in_range (word Time 76 65) (value_in (word Time 76 65) raw) ≡ is_time raw
time_said raw h = rw (le-leb 0 raw (omega arith), le-leb raw 4095 (omega arith))

day_said : (raw : ℕ) → in_range (word Day 80 70) (value_in (word Day 80 70) raw) ≡ (leb 1 raw && leb raw 1461)
day_said raw = and_all (leb 1 raw && leb raw 1461)

-- the hour and the minute in tk
pub hour : (n : ℕ) → word_of n 76 65 / 128 ≡ word_of n 76 72
unfolding word_of
hour n = omega arith

pub minute : (n : ℕ) → word_of n 76 65 / 2 % 64 ≡ word_of n 71 66
unfolding word_of
minute n = omega arith

-- WHAT IS READ FAILS EXACTLY THERE: the words of any number, read as any kind, are out of range only at that place, and only where the paper's
-- ranges say so
pub reading_fails : (n : ℕ) (k : Kind) → first_bad (layout k) (values_of n (layout k)) ≡ pick (readable n k) 0 (may_fail k)
unfolding layout
reading_fails n One =
    other_bad_lem n (layout One)
    ∙ ap (λ (b : Bool). pick b 0 76) (time_said (word_of n 76 65) (word_lt n 76 65) ∙ ap₂ (λ (h m : ℕ). ltb h 24 && ltb m 60) (hour n) (minute n))
reading_fails n Two =
    other_bad_lem n (layout Two)
    ∙ ap (λ (b : Bool). pick b 0 76) (said (word Interval 76 70) (λ raw. leb 1 raw && leb raw 95) 128 tt (word_of n 76 70) (word_lt n 76 70))
reading_fails n Three = other_bad_lem n (layout Three)
reading_fails n Four = other_bad_lem n (layout Four)
reading_fails n Five =
    other_bad_lem n (layout Five)
    ∙ ap (λ (b : Bool). pick b 0 80) (day_said (word_of n 80 70))
reading_fails n Even =
    other_bad_lem n (layout Even)
    ∙ ap (λ (b : Bool). pick b 0 77) (said (word Slot 77 73) (λ raw. leb 1 raw && leb raw 24) 32 tt (word_of n 77 73) (word_lt n 77 73))
reading_fails n Odd =
    other_bad_lem n (layout Odd)
    ∙ ap (λ (b : Bool). pick b 0 14) (said (word Carrier 14 10) (λ raw. leb raw 13 || leb 25 raw) 32 tt (word_of n 14 10) (word_lt n 14 10))
reading_fails n Fourteen = other_bad_lem n (layout Fourteen)

-- in short
pub reading_fails_only : (n : ℕ) (k : Kind) → (first_bad (layout k) (values_of n (layout k)) ≡ 0) ⊎ (first_bad (layout k) (values_of n (layout k)) ≡ may_fail k)
reading_fails_only n k = by (readable n k) (reading_fails n k)
  where
    by : (b : Bool) → first_bad (layout k) (values_of n (layout k)) ≡ pick b 0 (may_fail k)
        → (first_bad (layout k) (values_of n (layout k)) ≡ 0) ⊎ (first_bad (layout k) (values_of n (layout k)) ≡ may_fail k)
    by true e = inl e
    by false e = inr e

-- ---- both ends of every word
abbrev end_test : Word → Ends → Bool
end_test w e = in_range w e.least && (in_range w e.most && (not (in_range w (pred_ℤ e.least)) && not (in_range w (suc_ℤ e.most))))

all_ends : T (every (λ k. below 8 (λ j. end_test (word_at k j) (end_at k j))) kinds)
unfolding layout
all_ends = tt

ends_of_lem : (w : Word) (e : Ends) → T (end_test w e) → AtEnds w e
ends_of_lem w e t =
    let a = in_range w e.least in
    let b = in_range w e.most in
    let c = not (in_range w (pred_ℤ e.least)) in
    let u = and_right a _ t in
    let v = and_right b _ u in
    record {
      least_in = is_true a (and_left a _ t);
      most_in = is_true b (and_left b _ u);
      below_out = not-true _ (is_true c (and_left c _ v));
      above_out = not-true _ (is_true (not (in_range w (suc_ℤ e.most))) (and_right c _ v));
    }

-- BOTH ENDS, of every word of every kind, and of the fillers
pub ends : (k : Kind) (j : ℕ) → j < 8 → AtEnds (word_at k j) (end_at k j)
ends k j l =
    ends_of_lem (word_at k j) (end_at k j)
    (below_at 8 (λ j. end_test (word_at k j) (end_at k j)) (every_kind (λ k. below 8 (λ j. end_test (word_at k j) (end_at k j))) all_ends k) j l)

-- ---- and all between: the range of every word but tk is what lies from one end to the other
abbrev same_z : ℤ → ℤ → Bool
same_z (pos a) (pos b) = eqb a b
same_z (pos a) (negsuc b) = false
same_z (negsuc a) (pos b) = false
same_z (negsuc a) (negsuc b) = eqb a b

same_z_lem : (a b : ℤ) → T (same_z a b) → a ≡ b
same_z_lem (pos a) (pos b) t = ap pos (eqb→eq a b t)
same_z_lem (pos a) (negsuc b) t = absurd t
same_z_lem (negsuc a) (pos b) t = absurd t
same_z_lem (negsuc a) (negsuc b) t = ap negsuc (eqb→eq a b t)

abbrev range_test : Word → Ends → Bool
range_test w e = is_tk w.form || (same_z (least_of w) e.least && same_z (most_of w) e.most)

all_ranges : T (every (λ k. below 8 (λ j. range_test (word_at k j) (end_at k j))) kinds)
unfolding layout
all_ranges = tt

time_form : (f : Form) → is_tk f ≡ true → f ≡ Time
time_form Plain q = absurd (true≢false (sym q))
time_form Signed q = absurd (true≢false (sym q))
time_form Time q = refl
time_form Interval q = absurd (true≢false (sym q))
time_form Day q = absurd (true≢false (sym q))
time_form Slot q = absurd (true≢false (sym q))
time_form Carrier q = absurd (true≢false (sym q))

range_by : (w : Word) (e : Ends) (z : ℤ) (b : Bool) → is_tk w.form ≡ b → (w.form ≡ Time → ⊥) → T (b || (same_z (least_of w) e.least && same_z (most_of w) e.most))
    → ((le_z (least_of w) z && le_z z (most_of w)) && pick b (is_time (nat_abs z)) true) ≡ (le_z e.least z && le_z z e.most)
range_by w e z true q h t = absurd (h (time_form w.form q))
range_by w e z false q h t =
    let l = same_z_lem (least_of w) e.least (and_left (same_z (least_of w) e.least) _ t) in
    let m = same_z_lem (most_of w) e.most (and_right (same_z (least_of w) e.least) _ t) in
    and_all _ ∙ ap₂ (λ (a b : ℤ). le_z a z && le_z z b) l m

pub range_is : (k : Kind) (j : ℕ) → j < 8 → ((word_at k j).form ≡ Time → ⊥) → (z : ℤ) → in_range (word_at k j) z ≡ (le_z (end_at k j).least z && le_z z (end_at k j).most)
range_is k j l h z =
    range_by (word_at k j) (end_at k j) z (is_tk (word_at k j).form) refl h
    (below_at 8 (λ j. range_test (word_at k j) (end_at k j)) (every_kind (λ k. below 8 (λ j. range_test (word_at k j) (end_at k j))) all_ranges k) j l)

-- tk
time_in : (t : ℕ) → t / 128 < 24 → t / 2 % 64 < 60 → in_range (word Time 76 65) (pos t) ≡ true
time_in t h m = rw (le-leb 0 t (omega arith), le-leb t 4095 (omega arith), lt-ltb (t / 128) 24 h, lt-ltb (t / 2 % 64) 60 m)

time_of : (z : ℤ) → in_range (word Time 76 65) z ≡ true → TimeOfDay z
time_of (negsuc n) e = absurd (true≢false (sym e))
time_of (pos t) e =
    let a = both (leb 0 t && leb t 4095) (is_time t) e in
    let c = both (ltb (t / 128) 24) (ltb (t / 2 % 64) 60) a.1 in
    record {
      hours = t / 128;
      minutes = t / 2 % 64;
      halves = t % 2;
      hours_lt = ltb-true _ _ c.0;
      minutes_lt = ltb-true _ _ c.1;
      halves_lt = omega arith;
      is = ap pos (omega arith);
    }

pub tk_is : (z : ℤ) → (in_range (word_at One 1) z ≡ true) ↔ TimeOfDay z
unfolding layout
tk_is z = (
  time_of z,
  (λ t. let x = t.hours * 128 + t.minutes * 2 + t.halves in
      ap (in_range (word Time 76 65)) t.is
      ∙ time_in x (omega (arith, t.hours_lt, t.minutes_lt, t.halves_lt)) (omega (arith, t.hours_lt, t.minutes_lt, t.halves_lt))),
)

-- ---- RANGE as it is answered: the place told is the first word that fails
module _ (s : List ℕ) (k : Kind) (p : ℕ) (a : Reads s k (Err (Range p))) where
  abbrev left : ℕ
  left = mended (number_of s)

  abbrev bad : ℕ
  bad = first_bad (layout k) (values_of left (layout k))

  abbrev after : List Test
  after = word_tests left k

  -- RANGE is none of the check's numbers
  not_there : T (all_of (λ j. not (eqb j 10)) (sound_tests (number_of s)))
  unfolding sound_tests
  not_there = tt

  read_told : (p ≡ bad) × (eqb bad 0 ≡ false)
  unfolding Reads
  read_told =
      let f : first_of (read_tests s k) ≡ 10 = first_given (read_tests s k) (number_in left ∷ kind_number k ∷ []) a.answer in
      let shape = past_other 2 10 (misshapen s) (sound_tests (number_of s) ++ after) (λ q. omega arith) f in
      let sound = sound_else (number_of s) 10 after not_there shape.1 in
      let numbered = past_other 5 10 (eqb (number_in left) 0) (drop 1 after) (λ q. omega arith) sound.1 in
      let place = past_other 11 10 (not (of_kind k (number_in left))) (drop 2 after) (λ q. omega arith) numbered.1 in
      let t = first_fits 10 (not (eqb bad 0)) (drop 3 after) tt tt place.1 in
      let passed = sound_then (number_of s) sound.0 after in
      let e : (10 ∷ p ∷ []) ≡ (10 ∷ bad ∷ []) = a.answer ∙ rw (shape.0, passed.0, passed.1, numbered.0, place.0, t) in
      (ap (λ (l : List ℕ). get_or l 1 0) e, not-true _ t)

  -- by the reader, of the string as the check leaves it
  pub read_range : FirstOut (layout k) (values_of (mended (number_of s)) (layout k)) p
  read_range =
      let e = read_told in
      (first_bad_is k (values_of left (layout k)) (kind_values_long k left) p).0 ((λ z. eqb-false bad 0 e.1 (sym e.0 ∙ z)), sym e.0)

  -- which can only be tk, tb, NA, nA or H
  pub read_range_place : p ≡ may_fail k
  read_range_place =
      let e = read_told in
      ⊎_elim (λ (z : bad ≡ 0). absurd (eqb-false bad 0 e.1 z)) (λ (m : bad ≡ may_fail k). e.0 ∙ m) (reading_fails_only left k)

-- by the encoder, of the record
pub write_range : (m : ℕ) (r : Record) (out out' : List ℕ) (p : ℕ) → Writes m r out (Err (Range p)) out' → FirstOut (layout (kind_of r)) (list_of r) p
unfolding Writes
write_range m r out out' p a =
    let bad = first_bad (layout (kind_of r)) (list_of r) in
    let f = ((write_numbers m r out (Err (Range p)) out' a).refused 2 (lit< tt)).0 refl in
    let c = f.1 in
    let t = is_true (not (eqb bad 0)) f.0 in
    let e : (10 ∷ p ∷ []) ≡ (10 ∷ bad ∷ []) = a.answer ∙ rw (unfit (no_room out) (c 0 (lit< tt)), unfit (not (of_kind (kind_of r) m)) (c 1 (lit< tt)), t) in
    let q : p ≡ bad = ap (λ (l : List ℕ). get_or l 1 0) e in
    (first_bad_is (kind_of r) (list_of r) (list_long r) p).0 ((λ z. eqb-false bad 0 (not-true _ t) (sym q ∙ z)), sym q)
