-- A value in range has bits that its word holds: a law of one word, then of a list of words that lie below one another, then of the eight kinds.
-- Assumes nothing.
use mathlib.Core.Path.{◌≡◌, refl, sym, ap, ◌∙◌, subst}
use mathlib.Core.Bool.{Bool, true, false, ◌&&◌, true≢false}
use mathlib.Core.List.{List, [], ◌∷◌}
use Prim.Native.Nat.{ℕ, zero, suc, ◌+◌, ◌-◌, ◌*◌, ◌^◌, ◌≤◌, ◌<◌, suc-le-suc}
use native.Mathlib.Omega.{arith}
use native.Mathlib.Nat.{lt_of_lt_of_le, lt_of_le_of_lt, le_of_suc-le-suc, not-suc-le-zero, le_refl, zero-lt-suc}
use borrow.Author.Tests.{le-leb, leb-true}
use lib.Arith.{digits_lt}
use lib.Dec.{T, leb, ltb, eqb, leb→le, ltb→lt, eqb→eq}
use lib.IntN.{ℤ, pos, negsuc, nat_abs}
use lib.ListN.{length, get_or}
use lib.Pow.{pow-add, pow_mono, pow_pos}
use lib.Signed.{le_z, non_neg, pos-nat_abs}
use Rattle.strings.specs.Pick.{pick}
use Rattle.strings.proofs.Below.{and_left, and_right, both}
use Rattle.layout.specs.declared.table.Form.{Form}
use Rattle.layout.specs.declared.table.Form.TheVariants.{Plain, Signed, Time, Interval, Day, Slot, Carrier}
use Rattle.layout.specs.declared.table.Word.{Word}
use Rattle.records.specs.declared.kinds.Kind.{Kind}
use Rattle.layout.specs.Layout.{layout, none, width}
use Rattle.words.specs.Signed.{code_at}
use Rattle.words.specs.Values.{carrier_code, code_in, least_of, most_of, in_range, first_bad, data_of}
use Rattle.layout.proofs.EveryKind.{kinds, every, every_kind}
use Rattle.layout.proofs.Rows.{layout_long}

-- ---- the laws of one word, by a test that is computed for each word of the table
pub is_true : (b : Bool) → T b → b ≡ true
is_true true t = refl
is_true false t = absurd t

-- a value between two bounds, by its distance from 0
upper : (n : ℕ) (b : ℤ) → le_z (pos n) b ≡ true → n ≤ nat_abs b
upper n (pos m) e = leb-true n m e
upper n (negsuc m) e = absurd (true≢false (sym e))

lower : (n : ℕ) (a : ℤ) → le_z a (negsuc n) ≡ true → (suc n ≤ nat_abs a) × (non_neg a ≡ false)
lower n (pos m) e = absurd (true≢false (sym e))
lower n (negsuc m) e = (omega (arith, leb-true n m e), refl)

near : (h : ℕ) (a z b : ℤ) → nat_abs a < h → nat_abs b < h → le_z a z ≡ true → le_z z b ≡ true → nat_abs z < h
near h a (pos n) b la lb p q = omega (arith, upper n b q)
near h a (negsuc n) b la lb p q = omega (arith, (lower n a p).0)

unsigned : (a z : ℤ) → T (non_neg a) → le_z a z ≡ true → T (non_neg z)
unsigned a (pos n) t p = tt
unsigned a (negsuc n) t p = subst T (lower n a p).1 t

-- the weight of a word's top bit
abbrev pub half_of : Word → ℕ
half_of w = 2 ^ (w.top - w.low)

-- a signed word, H, and any other
abbrev pub signed_test : Word → Bool
signed_test w = leb w.low w.top && (ltb (nat_abs (least_of w)) (half_of w) && ltb (nat_abs (most_of w)) (half_of w))

abbrev pub carrier_test : Word → Bool
carrier_test w = eqb (2 ^ width w) 32 && (le_z (negsuc 6) (least_of w) && le_z (most_of w) (pos 24))

abbrev pub plain_test : Word → Bool
plain_test w = non_neg (least_of w) && ltb (nat_abs (most_of w)) (2 ^ width w)

abbrev pub form_test : Form → Word → Bool
form_test Plain w = plain_test w
form_test Signed w = signed_test w
form_test Time w = plain_test w
form_test Interval w = plain_test w
form_test Day w = plain_test w
form_test Slot w = plain_test w
form_test Carrier w = carrier_test w

abbrev pub sound_test : Word → Bool
sound_test w = leb 9 w.low && (leb w.low (w.top + 1) && (ltb 0 w.top && form_test w.form w))

pub record Sound (w : Word) : Type 0 where
  pub some : 0 < w.top
  pub above : 9 ≤ w.low
  pub order : w.low ≤ w.top + 1
  -- a value in range has bits that the word holds
  pub fits : (z : ℤ) → in_range w z ≡ true → code_in w z < 2 ^ width w

le_z_trans : (a b c : ℤ) → T (le_z a b) → le_z b c ≡ true → le_z a c ≡ true
le_z_trans (pos a) (pos b) (pos c) p q = le-leb a c (omega (arith, leb→le a b p, leb-true b c q))
le_z_trans (pos a) (pos b) (negsuc c) p q = absurd (true≢false (sym q))
le_z_trans (pos a) (negsuc b) c p q = absurd p
le_z_trans (negsuc a) b (pos c) p q = refl
le_z_trans (negsuc a) (pos b) (negsuc c) p q = absurd (true≢false (sym q))
le_z_trans (negsuc a) (negsuc b) (negsuc c) p q = le-leb c a (omega (arith, leb→le b a p, leb-true c b q))

trans_le_z : (a b c : ℤ) → le_z a b ≡ true → T (le_z b c) → le_z a c ≡ true
trans_le_z a b c p q = le_z_trans a b c (subst T (sym p) tt) (is_true (le_z b c) q)

module _ (w : Word) where
  between : (z : ℤ) → in_range w z ≡ true → (le_z (least_of w) z ≡ true) × (le_z z (most_of w) ≡ true)
  between z e = both (le_z (least_of w) z) (le_z z (most_of w)) (both (le_z (least_of w) z && le_z z (most_of w)) _ e).0

  pub signed_near : T (signed_test w) → (z : ℤ) → in_range w z ≡ true → nat_abs z < half_of w
  signed_near t z e =
      let r = and_right (leb w.low w.top) _ t in
      let b = between z e in
      near (half_of w) (least_of w) z (most_of w) (ltb→lt _ _ (and_left (ltb (nat_abs (least_of w)) (half_of w)) _ r)) (ltb→lt _ _ (and_right (ltb (nat_abs (least_of w)) (half_of w)) _ r))
      b.0 b.1

  code_lt : (z : ℤ) → nat_abs z < half_of w → code_at (half_of w) z < half_of w + half_of w
  code_lt (pos n) h = omega arith
  code_lt (negsuc n) h = omega arith

  pub signed_wide : T (signed_test w) → half_of w + half_of w ≡ 2 ^ width w
  signed_wide t =
      let l : w.low ≤ w.top = leb→le _ _ (and_left (leb w.low w.top) _ t) in
      let e : width w ≡ suc (w.top - w.low) = omega arith in
      sym (ap (λ (x : ℕ). 2 ^ x) e ∙ omega arith)

  pub carrier_wide : T (carrier_test w) → 2 ^ width w ≡ 32
  carrier_wide t = eqb→eq (2 ^ width w) 32 (and_left (eqb (2 ^ width w) 32) _ t)

  -- H: any value that 25..31 do not say stands for itself
  pub carrier_near : T (carrier_test w) → (z : ℤ) → in_range w z ≡ true → (le_z (negsuc 6) z ≡ true) × (le_z z (pos 24) ≡ true)
  carrier_near t z e =
      let r = and_right (eqb (2 ^ width w) 32) _ t in
      let b = between z e in (
        le_z_trans (negsuc 6) (least_of w) z (and_left (le_z (negsuc 6) (least_of w)) _ r) b.0,
        trans_le_z z (most_of w) (pos 24) b.1 (and_right (le_z (negsuc 6) (least_of w)) _ r),
      )

  carrier_lt : (z : ℤ) → le_z z (pos 24) ≡ true → carrier_code z < 32
  carrier_lt (pos n) u = omega (arith, leb-true n 24 u)
  carrier_lt (negsuc n) u = omega arith

  pub plain_pos : T (plain_test w) → (z : ℤ) → in_range w z ≡ true → pos (nat_abs z) ≡ z
  plain_pos t z e = pos-nat_abs z (unsigned (least_of w) z (and_left (non_neg (least_of w)) _ t) (between z e).0)

  plain_lt : T (plain_test w) → (z : ℤ) → in_range w z ≡ true → nat_abs z < 2 ^ width w
  plain_lt t z e =
      lt_of_le_of_lt (upper (nat_abs z) (most_of w) (ap (λ (y : ℤ). le_z y (most_of w)) (plain_pos t z e) ∙ (between z e).1))
      (ltb→lt _ _ (and_right (non_neg (least_of w)) _ t))

  -- by its form
  fits_by : (f : Form) → w.form ≡ f → T (form_test f w) → (z : ℤ) → in_range w z ≡ true → code_in w z < 2 ^ width w
  fits_by Plain p t z e = rw p (plain_lt t z e)
  fits_by Signed p t z e = rw p (rw (← signed_wide t) (code_lt z (signed_near t z e)))
  fits_by Time p t z e = rw p (plain_lt t z e)
  fits_by Interval p t z e = rw p (plain_lt t z e)
  fits_by Day p t z e = rw p (plain_lt t z e)
  fits_by Slot p t z e = rw p (plain_lt t z e)
  fits_by Carrier p t z e = rw p (rw (carrier_wide t) (carrier_lt z (carrier_near t z e).1))

  pub form_test_lem : T (sound_test w) → T (form_test w.form w)
  form_test_lem t =
      let a = leb 9 w.low in
      let b = leb w.low (w.top + 1) in
      let c = ltb 0 w.top in
      and_right c _ (and_right b _ (and_right a _ t))

  pub sound_of : T (sound_test w) → Sound w
  sound_of t =
      let a = leb 9 w.low in
      let b = leb w.low (w.top + 1) in
      let u = and_right a _ t in
      record {
        some = ltb→lt _ _ (and_left (ltb 0 w.top) _ (and_right b _ u));
        above = leb→le _ _ (and_left a _ t);
        order = leb→le _ _ (and_left b _ u);
        fits = fits_by w.form refl (form_test_lem t);
      }

-- ---- a list of words: each below the one before, all in bit t and below, and each sound
abbrev pub laid : ℕ → List Word → Bool
laid t [] = true
laid t (w ∷ ws) = leb w.top t && (sound_test w && laid (w.low - 1) ws)

pub record Laid (t : ℕ) (w : Word) (ws : List Word) : Type 0 where
  pub under : w.top ≤ t
  pub sound : Sound w
  pub rest : T (laid (w.low - 1) ws)

pub laid_of : (t : ℕ) (w : Word) (ws : List Word) → T (laid t (w ∷ ws)) → Laid t w ws
laid_of t w ws d =
    let r = and_right (leb w.top t) _ d in
    record {
      under = leb→le _ _ (and_left (leb w.top t) _ d);
      sound = sound_of w (and_left (sound_test w) _ r);
      rest = and_right (sound_test w) _ r;
    }

-- a list that lies in its first word's top bit and below
pub top_laid : (t : ℕ) (w : Word) (ws : List Word) → T (laid t (w ∷ ws)) → T (laid w.top (w ∷ ws))
top_laid t w ws d = subst (λ (b : Bool). T (b && (sound_test w && laid (w.low - 1) ws))) (sym (le-leb w.top w.top (le_refl w.top))) (and_right (leb w.top t) _ d)

-- the filler is sound as well, so this holds past the end too
pub test_at_lem : (t : ℕ) (ws : List Word) → T (laid t ws) → (j : ℕ) → T (sound_test (get_or ws j none))
test_at_lem t [] d j = tt
test_at_lem t (w ∷ ws) d zero = and_left (sound_test w) _ (and_right (leb w.top t) _ d)
test_at_lem t (w ∷ ws) d (suc j) = test_at_lem (w.low - 1) ws (laid_of t w ws d).rest j

pub sound_at : (t : ℕ) (ws : List Word) → T (laid t ws) → (j : ℕ) → Sound (get_or ws j none)
sound_at t ws d j = sound_of (get_or ws j none) (test_at_lem t ws d j)

-- every value has bits that its word holds
abbrev pub Fit : List Word → List ℤ → Type 0
Fit ws zs = (j : ℕ) → j < length ws → code_in (get_or ws j none) (get_or zs j (pos 0)) < 2 ^ width (get_or ws j none)

pub fit_rest : (w : Word) (ws : List Word) (z : ℤ) (zs : List ℤ) → Fit (w ∷ ws) (z ∷ zs) → Fit ws zs
fit_rest w ws z zs f j l = f (suc j) (suc-le-suc l)

-- the words fill no bit above t
pub data_lt : (ws : List Word) (zs : List ℤ) (t : ℕ) → T (laid t ws) → Fit ws zs → data_of ws zs < 2 ^ t
unfolding data_of
data_lt [] zs t d f = pow_pos t
data_lt (w ∷ ws) [] t d f = pow_pos t
data_lt (w ∷ ws) (z ∷ zs) t d f =
    let l = laid_of t w ws d in
    let o : (width w) + (w.low - 1) ≡ w.top = omega (arith, l.sound.above, l.sound.order) in
    let p : 2 ^ width w * 2 ^ (w.low - 1) ≡ 2 ^ w.top = sym (pow-add 2 (width w) (w.low - 1)) ∙ ap (λ (x : ℕ). 2 ^ x) o in
    let r = data_lt ws zs (w.low - 1) l.rest (fit_rest w ws z zs f) in
    lt_of_lt_of_le (rw p at (digits_lt (f 0 (zero-lt-suc (length ws))) r)) (pow_mono l.under)

-- where none is out of range, each is in range
range_head : (w : Word) (ws : List Word) (z : ℤ) (zs : List ℤ) → 0 < w.top → first_bad (w ∷ ws) (z ∷ zs) ≡ 0 → (in_range w z ≡ true) × (first_bad ws zs ≡ 0)
unfolding first_bad
range_head w ws z zs h e = by (in_range w z) refl e
  where
    by : (b : Bool) → in_range w z ≡ b → pick b (first_bad ws zs) w.top ≡ 0 → (in_range w z ≡ true) × (first_bad ws zs ≡ 0)
    by true q p = (q, p)
    by false q p = absurd (omega arith)

pub range_at : (ws : List Word) (zs : List ℤ) (t : ℕ) → T (laid t ws) → length zs ≡ length ws → first_bad ws zs ≡ 0 → (j : ℕ) → j < length ws
    → in_range (get_or ws j none) (get_or zs j (pos 0)) ≡ true
range_at [] zs t d n e j l = absurd (not-suc-le-zero l)
range_at (w ∷ ws) [] t d n e j l = absurd (omega arith)
range_at (w ∷ ws) (z ∷ zs) t d n e zero l = (range_head w ws z zs (laid_of t w ws d).sound.some e).0
range_at (w ∷ ws) (z ∷ zs) t d n e (suc j) l =
    let a = laid_of t w ws d in
    range_at ws zs (w.low - 1) a.rest (omega arith) (range_head w ws z zs a.sound.some e).1 j (le_of_suc-le-suc l)

-- values in range fit
pub range_fit : (ws : List Word) (zs : List ℤ) (t : ℕ) → T (laid t ws) → length zs ≡ length ws → first_bad ws zs ≡ 0 → Fit ws zs
range_fit ws zs t d n e j l = (sound_at t ws d j).fits (get_or zs j (pos 0)) (range_at ws zs t d n e j l)

-- THE TABLE: each word of a kind sound, each below the one before, all in bits 80..9
all_laid : T (every (λ k. laid 80 (layout k)) kinds)
unfolding layout
all_laid = tt

pub layout_laid : (k : Kind) → T (laid 80 (layout k))
layout_laid k = every_kind (λ k. laid 80 (layout k)) all_laid k

pub kind_fit : (k : Kind) (zs : List ℤ) → length zs ≡ 8 → first_bad (layout k) zs ≡ 0 → Fit (layout k) zs
kind_fit k zs n e = range_fit (layout k) zs 80 (layout_laid k) (n ∙ sym (layout_long k)) e

-- the data of a kind lie in bits 80..9
pub kind_data_lt : (k : Kind) (zs : List ℤ) → length zs ≡ 8 → first_bad (layout k) zs ≡ 0 → data_of (layout k) zs < 2 ^ 80
kind_data_lt k zs n e = data_lt (layout k) zs 80 (layout_laid k) (kind_fit k zs n e)
