-- What is written in the words of a kind is read back, and what is read is written again, word for word: laws of one word at any place and of
-- any width, then of a list of words that lie below one another, then of the eight kinds.
-- Assumes nothing.
use mathlib.Core.Path.{◌≡◌, refl, sym, ap, ap₂, ◌∙◌}
use mathlib.Core.Bool.{Bool, true, false, ◌&&◌, ◌||◌, true≢false}
use mathlib.Core.List.{List, [], ◌∷◌}
use mathlib.Core.Logic.{⊎_elim}
use Prim.Native.Nat.{ℕ, zero, suc, ◌+◌, ◌-◌, ◌*◌, ◌/◌, ◌%◌, ◌^◌, ◌≤◌, ◌<◌}
use native.Mathlib.Omega.{arith}
use native.Mathlib.Nat.{mul_assoc, add-mul, lt_of_lt_of_le, lt_of_le_of_lt, le_of_suc-le-suc, not-suc-le-zero, le_refl, ne_of_lt, pow-suc}
use borrow.Author.Tests.{lt-ltb, le-ltb, le-leb, lt-leb, leb-true, leb-false, ltb-true, ltb-false, eqb-true, eq-eqb, ne_eqb}
use lib.Dec.{T, leb, ltb, eqb}
use lib.IntN.{ℤ, pos, negsuc, neg_ℤ, nat_abs}
use lib.ListN.{length, get_or}
use lib.Pow as Pow
use lib.Pow.{pow-add, pow_mono, pow_pos, high, shr-shr}
use lib.Seq.{ext_get_or}
use lib.Signed.{le_z}
use Rattle.strings.specs.Pick.{pick}
use Rattle.strings.specs.Number.{word_of, bit_of}
use Rattle.strings.proofs.Digits.{three}
use Rattle.layout.specs.declared.table.Form.{Form}
use Rattle.layout.specs.declared.table.Form.TheVariants.{Plain, Signed, Time, Interval, Day, Slot, Carrier}
use Rattle.layout.specs.declared.table.Word.{Word}
use Rattle.records.specs.declared.kinds.Kind.{Kind}
use Rattle.layout.specs.Layout.{layout, none, width}
use Rattle.words.specs.Signed.{signed_at, code_at}
use Rattle.words.specs.Values.{carrier_of, carrier_code, value_in, code_in, in_range, values_of, first_bad, data_of}
use Rattle.layout.specs.Reserved.{in_words}
use Rattle.words.specs.Tidied.{is_signed, bits_in, tidy_word, tidy_words}
use Rattle.words.proofs.Forms.{Bare, plain_bare, time_bare, interval_bare, day_bare, slot_bare}
use Rattle.words.proofs.Fits.{half_of, plain_test, form_test, form_test_lem, test_at_lem, Sound, signed_near, carrier_wide, carrier_near, plain_pos}
use Rattle.words.proofs.Fits.{laid, laid_of, top_laid, Fit, fit_rest, data_lt, range_at, range_fit, layout_laid}
use Rattle.words.proofs.WordBits.{word_lt}
use Rattle.layout.proofs.Rows.{layout_long}
use Rattle.words.proofs.Loops.{values_long, values_at}

-- ---- sign and magnitude, at any weight of the sign
pub signed_back : (half : ℕ) (z : ℤ) → nat_abs z < half → signed_at half (code_at half z) ≡ z
signed_back half (pos n) h = rw (lt-ltb n half h)
signed_back half (negsuc n) h =
    let c = code_at half (negsuc n) in
    let l : half ≤ c = omega arith in
    let e : c - half ≡ suc n = omega arith in
    rw (le-ltb c half l, e)

-- all bits come back but minus zero, which comes back as zero
minus_code : (half raw d : ℕ) → half ≤ raw → d ≡ raw - half → code_at half (neg_ℤ (pos d)) ≡ pick (eqb raw half) 0 raw
minus_code half raw zero l e = let z : raw ≡ half = omega arith in rw (eq-eqb raw half z)
minus_code half raw (suc d) l e = by (eqb raw half) refl
  where
    by : (b : Bool) → eqb raw half ≡ b → half + suc d ≡ pick b 0 raw
    by true q = absurd (omega (arith, eqb-true raw half q))
    by false q = omega arith

pub signed_clean : (half raw : ℕ) → code_at half (signed_at half raw) ≡ pick (eqb raw half) 0 raw
signed_clean half raw = by (ltb raw half) refl
  where
    by : (b : Bool) → ltb raw half ≡ b → code_at half (pick b (pos raw) (neg_ℤ (pos (raw - half)))) ≡ pick (eqb raw half) 0 raw
    by true q = let l = ltb-true raw half q in rw (ne_eqb raw half (ne_of_lt l))
    by false q = minus_code half raw (raw - half) (ltb-false raw half q) refl

-- ---- H, of five bits: what 25..31 do not say stands for itself
carrier_back : (z : ℤ) → le_z (negsuc 6) z ≡ true → le_z z (pos 24) ≡ true → carrier_of (carrier_code z) ≡ z
carrier_back (pos n) l u = let h = leb-true n 24 u in rw (lt-leb 25 n (omega arith))
carrier_back (negsuc n) l u =
    let h = leb-true n 6 l in
    let d : 32 - (31 - n) ≡ suc n = omega arith in
    rw (le-leb 25 (31 - n) (omega arith), d)

carrier_clean : (raw : ℕ) → raw < 32 → carrier_code (carrier_of raw) ≡ raw
carrier_clean raw h = by (leb 25 raw) refl
  where
    minus : (d : ℕ) → d ≡ 32 - raw → 25 ≤ raw → carrier_code (neg_ℤ (pos d)) ≡ raw
    minus zero e l = absurd (omega arith)
    minus (suc d) e l = omega arith

    by : (b : Bool) → leb 25 raw ≡ b → carrier_code (pick b (neg_ℤ (pos (32 - raw))) (pos raw)) ≡ raw
    by true q = minus (32 - raw) refl (leb-true 25 raw q)
    by false q = refl

-- ---- the laws of one word, by the test that is computed for each word of the table
pub record Trips (w : Word) : Type 0 where
  -- the bits of a value in range say the value
  pub back : (z : ℤ) → in_range w z ≡ true → value_in w (code_in w z) ≡ z
  -- the value that bits say has these bits, but for minus zero
  pub clean : (raw : ℕ) → raw < 2 ^ width w → code_in w (value_in w raw) ≡ tidy_word w raw

module _ (w : Word) where
  bare_trips : Bare w.form → T (plain_test w) → Trips w
  bare_trips b t =
      record {
        back = λ z e. b.value (half_of w) (code_in w z) ∙ ap pos (b.code (half_of w) z) ∙ plain_pos w t z e;
        clean = λ raw h. ap (code_in w) (b.value (half_of w) raw) ∙ b.code (half_of w) (pos raw) ∙ rw b.unsigned;
      }

  -- by its form
  trips_by : (f : Form) → w.form ≡ f → T (form_test f w) → Trips w
  trips_by Plain p t = bare_trips (rw p plain_bare) t
  trips_by Signed p t =
      record {
        back = λ z e. rw p (signed_back (half_of w) z (signed_near w t z e));
        clean = λ raw h. rw p (signed_clean (half_of w) raw);
      }
  trips_by Time p t = bare_trips (rw p time_bare) t
  trips_by Interval p t = bare_trips (rw p interval_bare) t
  trips_by Day p t = bare_trips (rw p day_bare) t
  trips_by Slot p t = bare_trips (rw p slot_bare) t
  trips_by Carrier p t =
      record {
        back = λ z e. let b = carrier_near w t z e in rw p (carrier_back z b.0 b.1);
        clean = λ raw h. rw p (carrier_clean raw (rw (carrier_wide w t) at h));
      }

pub trips_at : (t : ℕ) (ws : List Word) → T (laid t ws) → (j : ℕ) → Trips (get_or ws j none)
trips_at t ws d j = let w = get_or ws j none in trips_by w w.form refl (form_test_lem w (test_at_lem t ws d j))

-- ---- one word in a number, at any place and of any width
-- what stands above the word and the word itself are one number above what lies below
nest : (h c r top low : ℕ) → 1 ≤ low → low ≤ top + 1 → h * 2 ^ top + (c * 2 ^ (low - 1) + r) ≡ (h * 2 ^ (top + 1 - low) + c) * 2 ^ (low - 1) + r
nest h c r top low l₁ l₂ =
    let w : ℕ = top + 1 - low in
    let k : ℕ = low - 1 in
    let p : 2 ^ top ≡ 2 ^ w * 2 ^ k = ap (λ (x : ℕ). 2 ^ x) (omega arith) ∙ pow-add 2 w k in
    let q : h * 2 ^ top ≡ h * 2 ^ w * 2 ^ k = ap (λ (x : ℕ). h * x) p ∙ sym (mul_assoc h (2 ^ w) (2 ^ k)) in
    let s : (h * 2 ^ w + c) * 2 ^ k ≡ h * 2 ^ w * 2 ^ k + c * 2 ^ k = add-mul (h * 2 ^ w) c (2 ^ k) in
    omega arith

-- a number with h above the word's top bit, c in the word and r below it has c there
pub read_word : (h c r top low : ℕ) → 1 ≤ low → low ≤ top + 1 → c < 2 ^ (top + 1 - low) → r < 2 ^ (low - 1)
    → word_of (h * 2 ^ top + (c * 2 ^ (low - 1) + r)) top low ≡ c
unfolding word_of
read_word h c r top low l₁ l₂ lc lr =
    let w : ℕ = top + 1 - low in
    let k : ℕ = low - 1 in
    rw (nest h c r top low l₁ l₂, high (h * 2 ^ w + c) k lr, Pow.low h w lc)

-- what stands above bit t stands above any lower bit u
lowered : (h t u : ℕ) → u ≤ t → h * 2 ^ t ≡ h * 2 ^ (t - u) * 2 ^ u
lowered h t u l = ap (λ (x : ℕ). h * x) (ap (λ (x : ℕ). 2 ^ x) (omega arith) ∙ pow-add 2 (t - u) u) ∙ sym (mul_assoc h (2 ^ (t - u)) (2 ^ u))

-- a bit between what stands above bit t and what lies below it is 0
clear_bit : (h t d i : ℕ) → 1 ≤ i → i ≤ t → d < 2 ^ (i - 1) → bit_of (h * 2 ^ t + d) i ≡ 0
clear_bit h t d i l u b =
    let e : t - (i - 1) ≡ suc (t - i) = omega arith in
    let p : h * 2 ^ t ≡ h * 2 ^ (t - (i - 1)) * 2 ^ (i - 1) = lowered h t (i - 1) (omega arith) in
    let z : h * 2 ^ suc (t - i) % 2 ≡ 0 = ap (λ (x : ℕ). h * x % 2) (pow-suc 2 (t - i)) ∙ omega arith in
    ap (λ (x : ℕ). (x + d) / 2 ^ (i - 1) % 2) p ∙ ap (λ (x : ℕ). x % 2) (high (h * 2 ^ (t - (i - 1))) (i - 1) b) ∙ ap (λ (x : ℕ). h * 2 ^ x % 2) e ∙ z

-- ---- two numbers that differ in the check bits alone have the same words
shift_same : (a b k : ℕ) → a / 2 ^ 8 ≡ b / 2 ^ 8 → 8 ≤ k → a / 2 ^ k ≡ b / 2 ^ k
shift_same a b k e l =
    let s : (x : ℕ) → x / 2 ^ k ≡ x / 2 ^ 8 / 2 ^ (k - 8) = (λ x. ap (λ (j : ℕ). x / 2 ^ j) (omega arith) ∙ sym (shr-shr x 8 (k - 8))) in
    s a ∙ ap (λ (x : ℕ). x / 2 ^ (k - 8)) e ∙ sym (s b)

pub word_same : (a b top low : ℕ) → a / 2 ^ 8 ≡ b / 2 ^ 8 → 9 ≤ low → word_of a top low ≡ word_of b top low
unfolding word_of
word_same a b top low e l = ap (λ (x : ℕ). x % 2 ^ (top + 1 - low)) (shift_same a b (low - 1) e (omega arith))

pub bit_same : (a b i : ℕ) → a / 2 ^ 8 ≡ b / 2 ^ 8 → 9 ≤ i → bit_of a i ≡ bit_of b i
bit_same a b i e l = ap (λ (x : ℕ). x % 2) (shift_same a b (i - 1) e (omega arith))

-- and none below bit 9
pub data_high : (ws : List Word) (zs : List ℤ) (t : ℕ) → T (laid t ws) → data_of ws zs % 2 ^ 8 ≡ 0
unfolding data_of
data_high [] zs t d = refl
data_high (w ∷ ws) [] t d = refl
data_high (w ∷ ws) (z ∷ zs) t d =
    let l = laid_of t w ws d in
    let p = lowered (code_in w z) (w.low - 1) 8 (omega (arith, l.sound.above)) in
    omega (arith, data_high ws zs (w.low - 1) l.rest)

-- one word of the list: whatever h stands above bit t, the first word has its bits, and what stands above the next is another h
record Split (w : Word) (h t c r : ℕ) : Type 0 where
  front : ℕ
  next : ℕ
  at_top : h * 2 ^ t + (c * 2 ^ (w.low - 1) + r) ≡ front * 2 ^ w.top + (c * 2 ^ (w.low - 1) + r)
  at_low : h * 2 ^ t + (c * 2 ^ (w.low - 1) + r) ≡ next * 2 ^ (w.low - 1) + r

split : (w : Word) (h t c r : ℕ) → w.top ≤ t → Sound w → Split w h t c r
split w h t c r u s =
    let g : ℕ = h * 2 ^ (t - w.top) in
    let e : h * 2 ^ t + (c * 2 ^ (w.low - 1) + r) ≡ g * 2 ^ w.top + (c * 2 ^ (w.low - 1) + r) = ap (λ (x : ℕ). x + (c * 2 ^ (w.low - 1) + r)) (lowered h t w.top u) in
    record {
      front = g;
      next = g * 2 ^ width w + c;
      at_top = e;
      at_low = e ∙ nest g c r w.top w.low (omega (arith, s.above)) s.order;
    }

-- each word has the bits of its value
pub word_data : (ws : List Word) (zs : List ℤ) (h t : ℕ) → T (laid t ws) → length zs ≡ length ws → Fit ws zs → (j : ℕ) → j < length ws
    → bits_in (h * 2 ^ t + data_of ws zs) (get_or ws j none) ≡ code_in (get_or ws j none) (get_or zs j (pos 0))
unfolding data_of
word_data [] zs h t d n f j l = absurd (not-suc-le-zero l)
word_data (w ∷ ws) [] h t d n f j l = absurd (omega arith)
word_data (w ∷ ws) (z ∷ zs) h t d n f zero l =
    let a = laid_of t w ws d in
    let r = data_lt ws zs (w.low - 1) a.rest (fit_rest w ws z zs f) in
    let s = split w h t (code_in w z) (data_of ws zs) a.under a.sound in
    ap (λ (x : ℕ). bits_in x w) s.at_top
    ∙ read_word s.front (code_in w z) (data_of ws zs) w.top w.low (omega (arith, a.sound.above)) a.sound.order (f 0 l) r
word_data (w ∷ ws) (z ∷ zs) h t d n f (suc j) l =
    let a = laid_of t w ws d in
    let s = split w h t (code_in w z) (data_of ws zs) a.under a.sound in
    ap (λ (x : ℕ). bits_in x (get_or ws j none)) s.at_low
    ∙ word_data ws zs s.next (w.low - 1) a.rest (omega arith) (fit_rest w ws z zs f) j (le_of_suc-le-suc l)

-- and a bit in no word is 0
neither : (a b : Bool) → (a || b) ≡ false → (a ≡ false) × (b ≡ false)
neither true b e = absurd (true≢false e)
neither false b e = (refl, e)

outside : (l i u : ℕ) → (leb l i && leb i u) ≡ false → l ≤ i → u < i
outside l i u e h = leb-false i u (sym (ap (λ (b : Bool). b && leb i u) (le-leb l i h)) ∙ e)

pub gap_data : (ws : List Word) (zs : List ℤ) (h t : ℕ) → T (laid t ws) → Fit ws zs → (i : ℕ) → 1 ≤ i → i ≤ t → in_words ws i ≡ false
    → bit_of (h * 2 ^ t + data_of ws zs) i ≡ 0
unfolding data_of
gap_data [] zs h t d f i l u g = clear_bit h t 0 i l u (pow_pos (i - 1))
gap_data (w ∷ ws) [] h t d f i l u g = clear_bit h t 0 i l u (pow_pos (i - 1))
gap_data (w ∷ ws) (z ∷ zs) h t d f i l u g =
    let a = laid_of t w ws d in
    let b = neither (leb w.low i && leb i w.top) (in_words ws i) g in
    let s = split w h t (code_in w z) (data_of ws zs) a.under a.sound in
    let high : w.low ≤ i → bit_of (h * 2 ^ t + data_of (w ∷ ws) (z ∷ zs)) i ≡ 0 = (λ (m : w.low ≤ i).
    clear_bit h t (data_of (w ∷ ws) (z ∷ zs)) i l u (lt_of_lt_of_le (data_lt (w ∷ ws) (z ∷ zs) w.top (top_laid t w ws d) f) (pow_mono {i = w.top} {j = i - 1} (omega (arith, outside w.low i w.top b.0 m))))) in
    ⊎_elim
    (λ (m : i < w.low). ap (λ (x : ℕ). bit_of x i) s.at_low
    ∙ gap_data ws zs s.next (w.low - 1) a.rest (fit_rest w ws z zs f) i l (omega arith) b.1)
    (⊎_elim (λ (e : i ≡ w.low). high (omega arith)) (λ (m : w.low < i). high (omega arith)))
    (three i w.low)

-- ---- the values of a list of words
pub values_same : (a b : ℕ) (ws : List Word) (t : ℕ) → T (laid t ws) → a / 2 ^ 8 ≡ b / 2 ^ 8 → values_of a ws ≡ values_of b ws
unfolding values_of
values_same a b [] t d e = refl
values_same a b (w ∷ ws) t d e =
    let l = laid_of t w ws d in
    ap₂ ◌∷◌ (ap (value_in w) (word_same a b w.top w.low e l.sound.above)) (values_same a b ws (w.low - 1) l.rest e)

tidy_le : (w : Word) (raw : ℕ) → tidy_word w raw ≤ raw
tidy_le w raw = by (is_signed w.form && eqb raw (2 ^ (w.top - w.low)))
  where
    by : (b : Bool) → pick b 0 raw ≤ raw
    by true = omega arith
    by false = le_refl raw

-- the bits of a value that was read, in its word
pub code_read : (n : ℕ) (ws : List Word) (t : ℕ) → T (laid t ws) → (j : ℕ) → j < length ws
    → code_in (get_or ws j none) (get_or (values_of n ws) j (pos 0)) ≡ tidy_word (get_or ws j none) (bits_in n (get_or ws j none))
code_read n ws t d j l =
    let w = get_or ws j none in
    ap (code_in w) (values_at n ws j l) ∙ (trips_at t ws d j).clean (bits_in n w) (word_lt n w.top w.low)

pub read_fit : (n : ℕ) (ws : List Word) (t : ℕ) → T (laid t ws) → Fit ws (values_of n ws)
read_fit n ws t d j l =
    let w = get_or ws j none in
    rw (code_read n ws t d j l) (lt_of_le_of_lt (tidy_le w (bits_in n w)) (word_lt n w.top w.low))

-- WRITTEN AND READ: whatever stands above bit t, the values that were written are read
pub values_data : (ws : List Word) (zs : List ℤ) (h t : ℕ) → T (laid t ws) → length zs ≡ length ws → first_bad ws zs ≡ 0 → values_of (h * 2 ^ t + data_of ws zs) ws ≡ zs
values_data ws zs h t d n e =
    let x = h * 2 ^ t + data_of ws zs in
    ext_get_or (pos 0) (values_of x ws) zs (values_long x ws ∙ sym n)
    (λ j l. let b : j < length ws = omega (arith, values_long x ws) in
    let w = get_or ws j none in
    values_at x ws j b ∙ ap (value_in w) (word_data ws zs h t d n (range_fit ws zs t d n e) j b)
    ∙ (trips_at t ws d j).back (get_or zs j (pos 0)) (range_at ws zs t d n e j b))

-- READ AND WRITTEN: the words that were read, but for minus zeros
pub data_values : (n : ℕ) (ws : List Word) (t : ℕ) → T (laid t ws) → data_of ws (values_of n ws) ≡ tidy_words n ws
unfolding data_of values_of tidy_words
data_values n [] t d = refl
data_values n (w ∷ ws) t d =
    let a = laid_of t w ws d in
    ap₂ (λ (c r : ℕ). c * 2 ^ (w.low - 1) + r) ((trips_at t (w ∷ ws) d 0).clean (bits_in n w) (word_lt n w.top w.low)) (data_values n ws (w.low - 1) a.rest)

module _ (k : Kind) where
  -- WRITTEN AND READ, of any kind: whatever h stands above the data
  pub kind_values : (zs : List ℤ) → length zs ≡ 8 → first_bad (layout k) zs ≡ 0 → (h : ℕ) → values_of (h * 2 ^ 80 + data_of (layout k) zs) (layout k) ≡ zs
  kind_values zs n e h = values_data (layout k) zs h 80 (layout_laid k) (n ∙ sym (layout_long k)) e

  pub kind_data_high : (zs : List ℤ) → data_of (layout k) zs % 2 ^ 8 ≡ 0
  kind_data_high zs = data_high (layout k) zs 80 (layout_laid k)

  pub kind_values_long : (n : ℕ) → length (values_of n (layout k)) ≡ 8
  kind_values_long n = values_long n (layout k) ∙ layout_long k

  -- the check bits say nothing of the words
  pub kind_values_same : (a b : ℕ) → a / 2 ^ 8 ≡ b / 2 ^ 8 → values_of a (layout k) ≡ values_of b (layout k)
  kind_values_same a b e = values_same a b (layout k) 80 (layout_laid k) e
