-- The strings made from words are a superframe, and the entries that they show have the words that went in.
-- Assumes nothing.
use mathlib.Core.Path.{◌≡◌, refl, sym, ap, ap₂, subst, ◌∙◌}
use mathlib.Core.Bool.{Bool, true, false}
use mathlib.Core.List.{List}
use Prim.Native.Nat.{ℕ, zero, suc, ◌+◌, ◌-◌, ◌*◌, ◌/◌, ◌%◌, ◌^◌, ◌≤◌, ◌<◌}
use native.Mathlib.Omega.{arith}
use borrow.Author.Tests.{eq-eqb}
use lib.Dec.{lit≤}
use lib.IntN.{ℤ, pos, nat_abs}
use lib.ListN.{get_or}
use Rattle.strings.specs.Pick.{pick}
use Rattle.strings.specs.Number.{word_of}
use Rattle.strings.specs.Hamming.{encode}
use Rattle.strings.proofs.Encode.{encode_encoded, encode_stays}
use Rattle.records.specs.declared.kinds.Kind.TheVariants.{Five, Even, Odd}
use Rattle.records.specs.declared.named.String5.{String5}
use Rattle.records.specs.declared.named.EvenString.{EvenString}
use Rattle.records.specs.declared.named.OddString.{OddString}
use Rattle.records.specs.declared.named.Record.{Record}
use Rattle.records.specs.declared.named.Record.TheVariants.{One as One', Two as Two', Three as Three', Four as Four', Five as Five', Even as Even', Odd as Odd'}
use Rattle.records.specs.Records.{kind_of, list_of, even_of, odd_of}
use Rattle.layout.specs.declared.table.Form.TheVariants.{Carrier}
use Rattle.layout.specs.Layout.{layout, word, plain, signed}
use Rattle.words.specs.Values.{values_of, first_bad, data_of, in_range, code_in, carrier_code}
use Rattle.words.specs.Calls.{number_in, string_of}
use Rattle.records.proofs.RecordLists.{list_long}
use Rattle.words.proofs.Fits.{kind_data_lt, layout_laid, sound_at, range_at}
use Rattle.words.proofs.Trip.{kind_data_high, kind_values, kind_values_same, word_same}
use Rattle.book.specs.Entry.{even_words, odd_words}
use Rattle.words.specs.Good.{is_good}
use Rattle.book.specs.Shows.{four_years, day_in_four, slot_in, day_of, three_of}
use Rattle.immediate.specs.Kept.{four_good}
use Rattle.superframe.specs.declared.Sky.{Sky}
use Rattle.superframe.specs.Table41.{frame_of_slot, pair_of_slot}
use Rattle.superframe.specs.Sky.{with_l, entry_at, record_in, sky_string}
use Rattle.superframe.specs.Refused.{Makes}
use Rattle.superframe.proofs.Places.{places}
use Rattle.heard.specs.Heard.{Sendable, in_frame, entry_in, Superframe}

-- ---- one string, of any kind
module _ (m : ℕ) (r : Record) (h : m ≤ 15) (e : first_bad (layout (kind_of r)) (list_of r) ≡ 0) where
  abbrev words_of : ℕ
  words_of = data_of (layout (kind_of r)) (list_of r)

  words_lt : words_of < 2 ^ 80
  words_lt = kind_data_lt (kind_of r) (list_of r) (list_long r) e

  words_number : (d : ℕ) → d < 2 ^ 80 → number_in (m * 2 ^ 80 + d) ≡ m
  unfolding word_of
  words_number d l = omega arith

  pub string_sendable : Sendable (string_of m r) m
  unfolding string_of
  string_sendable =
      let x = m * 2 ^ 80 + words_of in
      record {
        small = omega (arith, encode_stays x, words_lt);
        encoded = encode_encoded x;
        number = word_same (encode x) x 84 81 (encode_stays x) (lit≤ tt) ∙ words_number words_of words_lt;
      }

  pub string_values : values_of (string_of m r) (layout (kind_of r)) ≡ list_of r
  unfolding string_of
  string_values =
      let x = m * 2 ^ 80 + words_of in
      kind_values_same (kind_of r) (encode x) x (encode_stays x) ∙ kind_values (kind_of r) (list_of r) (list_long r) e m

  pub string_good : is_good (kind_of r) (string_of m r) ≡ true
  unfolding is_good
  string_good = eq-eqb _ 0 (ap (first_bad (layout (kind_of r))) string_values ∙ e)

  -- the bits of an entry's half
  even_bits : (d : ℕ) → d < 2 ^ 80 → d % 2 ^ 8 ≡ 0 → word_of (m * 2 ^ 80 + d) 80 9 * 2 ^ 8 ≡ d
  unfolding word_of
  even_bits d l z = omega arith

  odd_bits : (d : ℕ) → d < 2 ^ 80 → word_of (m * 2 ^ 80 + d) 80 10 * 2 ^ 9 ≡ d / 2 ^ 9 * 2 ^ 9
  unfolding word_of
  odd_bits d l = omega arith

  pub string_even : word_of (string_of m r) 80 9 * 2 ^ 8 ≡ words_of
  unfolding string_of
  string_even =
      let x = m * 2 ^ 80 + words_of in
      ap (λ (w : ℕ). w * 2 ^ 8) (word_same (encode x) x 80 9 (encode_stays x) (lit≤ tt)) ∙ even_bits words_of words_lt (kind_data_high (kind_of r) (list_of r))

  pub string_odd : word_of (string_of m r) 80 10 * 2 ^ 9 ≡ words_of / 2 ^ 9 * 2 ^ 9
  unfolding string_of
  string_odd =
      let x = m * 2 ^ 80 + words_of in
      ap (λ (w : ℕ). w * 2 ^ 9) (word_same (encode x) x 80 10 (encode_stays x) (lit≤ tt)) ∙ odd_bits words_of words_lt

-- ---- a word of string 5, and of an even string
five_words : (n : ℕ) (r : String5) → values_of n (layout Five) ≡ list_of (Five' r) → (pos (four_years n) ≡ r.n4) × (pos (day_in_four n) ≡ r.na)
unfolding values_of layout list_of
five_words n r e = (ap (λ (zs : List ℤ). get_or zs 2 (pos 0)) e, ap (λ (zs : List ℤ). get_or zs 0 (pos 0)) e)

even_word : (n : ℕ) (r : EvenString) → values_of n (layout Even) ≡ list_of (Even' r) → pos (slot_in n) ≡ r.na
unfolding values_of layout list_of
even_word n r e = ap (λ (zs : List ℤ). get_or zs 2 (pos 0)) e

-- ---- strings 1 to 5 of any frame
module _ (sky : Sky) (g : ℕ) where
  pub first_is : record_in sky g 1 ≡ One' sky.words.one
  unfolding record_in
  first_is = refl

  pub second_is : record_in sky g 2 ≡ Two' sky.words.two
  unfolding record_in
  second_is = refl

  pub third_is : record_in sky g 3 ≡ Three' sky.words.three
  unfolding record_in
  third_is = refl

  pub fourth_is : record_in sky g 4 ≡ Four' sky.words.four
  unfolding record_in
  fourth_is = refl

  pub fifth_is : record_in sky g 5 ≡ Five' sky.five
  unfolding record_in
  fifth_is = refl

-- ---- the 75 strings
module _ (sky : Sky) (ok : Makes sky) where
  abbrev string : ℕ → ℕ
  string = sky_string sky

  string_at_lem : (g m : ℕ) → 1 ≤ m → m ≤ 15 → in_frame string g m ≡ string_of m (record_in sky g m)
  unfolding sky_string
  string_at_lem g m a b =
      let p : (15 * g + m - 1) / 15 ≡ g = omega arith in
      let q : (15 * g + m - 1) % 15 + 1 ≡ m = omega arith in
      ap₂ (λ (i n : ℕ). string_of n (record_in sky i n)) p q

  module _ (g m : ℕ) (r : Record) (l : g < 5) (a : 1 ≤ m) (b : m ≤ 15) (e : record_in sky g m ≡ r) where
    is-string : in_frame string g m ≡ string_of m r
    is-string = string_at_lem g m a b ∙ ap (string_of m) e

    in_range_lem : first_bad (layout (kind_of r)) (list_of r) ≡ 0
    in_range_lem = subst (λ (x : Record). first_bad (layout (kind_of x)) (list_of x) ≡ 0) e (ok.range g m l a b)

    is-good : is_good (kind_of r) (in_frame string g m) ≡ true
    is-good = ap (is_good (kind_of r)) is-string ∙ string_good m r b in_range_lem

    pub has_values : values_of (in_frame string g m) (layout (kind_of r)) ≡ list_of r
    has_values = ap (λ (n : ℕ). values_of n (layout (kind_of r))) is-string ∙ string_values m r b in_range_lem

  -- the strings of a slot
  module _ (k : ℕ) (a : 1 ≤ k) (b : k ≤ 24) where
    slot_even : record_in sky (frame_of_slot k) (pair_of_slot k) ≡ Even' (entry_at sky k).even
    slot_even = (places sky).even k a b

    slot_odd : record_in sky (frame_of_slot k) (pair_of_slot k + 1) ≡ Odd' (with_l sky.five.l (entry_at sky k).odd)
    slot_odd = (places sky).odd k a b

    even-good : is_good Even (in_frame string (frame_of_slot k) (pair_of_slot k)) ≡ true
    even-good = is-good (frame_of_slot k) (pair_of_slot k) (Even' (entry_at sky k).even) (omega arith) (omega arith) (omega arith) slot_even

    odd-good : is_good Odd (in_frame string (frame_of_slot k) (pair_of_slot k + 1)) ≡ true
    odd-good = is-good (frame_of_slot k) (pair_of_slot k + 1) (Odd' (with_l sky.five.l (entry_at sky k).odd)) (omega arith) (omega arith) (omega arith) slot_odd

    slot-named : slot_in (in_frame string (frame_of_slot k) (pair_of_slot k)) ≡ k
    slot-named =
        let n = in_frame string (frame_of_slot k) (pair_of_slot k) in
        let q : pos (slot_in (in_frame string (frame_of_slot k) (pair_of_slot k))) ≡ pos k =
        even_word n (entry_at sky k).even (has_values (frame_of_slot k) (pair_of_slot k) (Even' (entry_at sky k).even) (omega arith) (omega arith) (omega arith) slot_even) ∙ ok.slots k a b
        in
        ap nat_abs q

  five_is : (g : ℕ) → g < 5 → (pos (four_years (in_frame string g 5)) ≡ sky.five.n4) × (pos (day_in_four (in_frame string g 5)) ≡ sky.five.na)
  five_is g l = five_words (in_frame string g 5) sky.five (has_values g 5 (Five' sky.five) l (omega arith) (omega arith) (fifth_is sky g))

  four_good_lem : (g : ℕ) → g < 5 → four_good (in_frame string g 1) (in_frame string g 2) (in_frame string g 3) (in_frame string g 4) ≡ true
  four_good_lem g l =
      rw (
        is-good g 1 (One' sky.words.one) l (omega arith) (omega arith) (first_is sky g),
        is-good g 2 (Two' sky.words.two) l (omega arith) (omega arith) (second_is sky g),
        is-good g 3 (Three' sky.words.three) l (omega arith) (omega arith) (third_is sky g),
        is-good g 4 (Four' sky.words.four) l (omega arith) (omega arith) (fourth_is sky g),
      )

  all_sent : (i : ℕ) → 1 ≤ i → i ≤ 75 → Sendable (string i) ((i - 1) % 15 + 1)
  unfolding sky_string
  all_sent i a b =
      string_sendable ((i - 1) % 15 + 1) (record_in sky ((i - 1) / 15) ((i - 1) % 15 + 1)) (omega arith) (ok.range ((i - 1) / 15) ((i - 1) % 15 + 1) (omega arith) (omega arith) (omega arith))

  -- THE STRINGS OF A SKY ARE A SUPERFRAME
  pub sky_strings : Superframe (sky_string sky)
  sky_strings =
      record {
        sent = all_sent;
        four = four_good_lem;
        five = λ g l. is-good g 5 (Five' sky.five) l (omega arith) (omega arith) (fifth_is sky g);
        stated = λ g l. some g l (four_years (in_frame string g 5)) refl;
        even = even-good;
        odd = odd-good;
        slot = slot-named;
      }
    where
      some : (g : ℕ) → g < 5 → (n : ℕ) → four_years (in_frame string g 5) ≡ n → 1 ≤ n
      some g l zero q = absurd (ok.stated (sym (five_is g l).0 ∙ ap pos q))
      some g l (suc n) q = omega arith

-- ---- the words come out
even_again : (r : EvenString) → even_of (list_of (Even' r)) ≡ r
unfolding list_of
even_again r = refl

even_back : (r : EvenString) → first_bad (layout Even) (list_of (Even' r)) ≡ 0 → even_of (values_of (data_of (layout Even) (list_of (Even' r))) (layout Even)) ≡ r
even_back r e =
    let z : data_of (layout Even) (list_of (Even' r)) ≡ 0 * 2 ^ 80 + data_of (layout Even) (list_of (Even' r)) = omega arith in
    ap (λ (n : ℕ). even_of (values_of n (layout Even))) z ∙ ap even_of (kind_values Even (list_of (Even' r)) (list_long (Even' r)) e 0) ∙ even_again r

odd_again : (r : OddString) → odd_of (list_of (Odd' r)) ≡ r
unfolding list_of
odd_again r = refl

odd_back : (r : OddString) → first_bad (layout Odd) (list_of (Odd' r)) ≡ 0 → odd_of (values_of (data_of (layout Odd) (list_of (Odd' r))) (layout Odd)) ≡ r
odd_back r e =
    let z : data_of (layout Odd) (list_of (Odd' r)) ≡ 0 * 2 ^ 80 + data_of (layout Odd) (list_of (Odd' r)) = omega arith in
    ap (λ (n : ℕ). odd_of (values_of n (layout Odd))) z ∙ ap odd_of (kind_values Odd (list_of (Odd' r)) (list_long (Odd' r)) e 0) ∙ odd_again r

-- l aside
cleared : (a b c d f l : ℕ) → l < 2
    → (a * 2 ^ 64 + (b * 2 ^ 43 + (c * 2 ^ 21 + (d * 2 ^ 14 + (f * 2 ^ 9 + (l * 2 ^ 8 + 0)))))) / 2 ^ 9 * 2 ^ 9 ≡ a * 2 ^ 64 + (b * 2 ^ 43 + (c * 2 ^ 21 + (d * 2 ^ 14 + (f * 2 ^ 9 + 0))))
cleared a b c d f l h = omega arith

abbrev six_then : Bool → Bool → Bool → Bool → Bool → Bool → ℕ
six_then a b c d f g = pick a (pick b (pick c (pick d (pick f (pick g 0 9) 14) 21) 43) 64) 80

first_five : (a b c d f g : Bool) → six_then a b c d f g ≡ 0 → six_then a b c d f true ≡ 0
first_five true true true true true g e = refl
first_five true true true true false g e = e
first_five true true true false f g e = e
first_five true true false d f g e = e
first_five true false c d f g e = e
first_five false b c d f g e = e

module _ (l : ℤ) (r : OddString) (e : first_bad (layout Odd) (list_of (Odd' (with_l l r))) ≡ 0) where
  l_clear_range : first_bad (layout Odd) (list_of (Odd' (with_l (pos 0) r))) ≡ 0
  unfolding first_bad layout list_of
  l_clear_range =
      first_five (in_range (signed 80 65) r.omega) (in_range (plain 64 44) r.tlambda) (in_range (signed 43 22) r.dt) (in_range (signed 21 15) r.dtrate) (in_range (word Carrier 14 10) r.h) (in_range (plain 9 9) l) e

  l_small : nat_abs l < 2
  unfolding layout list_of
  l_small = (sound_at 80 (layout Odd) (layout_laid Odd) 5).fits l (range_at (layout Odd) (list_of (Odd' (with_l l r))) 80 (layout_laid Odd) refl e 5 (omega arith))

  l_clear : data_of (layout Odd) (list_of (Odd' (with_l l r))) / 2 ^ 9 * 2 ^ 9 ≡ data_of (layout Odd) (list_of (Odd' (with_l (pos 0) r)))
  unfolding data_of layout list_of
  l_clear = cleared (code_in (signed 80 65) r.omega) (nat_abs r.tlambda) (code_in (signed 43 22) r.dt) (code_in (signed 21 15) r.dtrate) (carrier_code r.h) (nat_abs l) l_small

-- THE ENTRIES HAVE THE WORDS THAT WENT IN
module _ (sky : Sky) (ok : Makes sky) (k : ℕ) (a : 1 ≤ k) (b : k ≤ 24) where
  abbrev g : ℕ
  g = frame_of_slot k

  abbrev p : ℕ
  p = pair_of_slot k

  pub day_out : (entry_in (sky_string sky) k).day ≡ day_of (nat_abs sky.five.n4) (nat_abs sky.five.na)
  unfolding three_of
  day_out = let q = five_is sky ok (frame_of_slot k) (omega arith) in ap₂ (λ (x y : ℤ). day_of (nat_abs x) (nat_abs y)) q.0 q.1

  pub even_out : even_words (entry_in (sky_string sky) k) ≡ (entry_at sky k).even
  unfolding three_of even_words
  even_out =
      let r = Even' (entry_at sky k).even in
      let s = slot_even sky ok k a b in
      let e = in_range_lem sky ok g p r (omega arith) (omega arith) (omega arith) s in
      ap (λ (n : ℕ). even_of (values_of (word_of n 80 9 * 2 ^ 8) (layout Even))) (is-string sky ok g p r (omega arith) (omega arith) (omega arith) s)
      ∙ ap (λ (x : ℕ). even_of (values_of x (layout Even))) (string_even p r (omega arith) e) ∙ even_back (entry_at sky k).even e

  pub odd_out : odd_words (entry_in (sky_string sky) k) ≡ with_l (pos 0) (entry_at sky k).odd
  unfolding three_of odd_words
  odd_out =
      let l = sky.five.l in
      let o = (entry_at sky k).odd in
      let r = Odd' (with_l l o) in
      let s = slot_odd sky ok k a b in
      let e = in_range_lem sky ok g (p + 1) r (omega arith) (omega arith) (omega arith) s in
      ap (λ (n : ℕ). odd_of (values_of (word_of n 80 10 * 2 ^ 9) (layout Odd))) (is-string sky ok g (p + 1) r (omega arith) (omega arith) (omega arith) s)
      ∙ ap (λ (x : ℕ). odd_of (values_of x (layout Odd))) (string_odd (p + 1) r (omega arith) e ∙ l_clear l o e) ∙ odd_back (with_l (pos 0) o) (l_clear_range l o e)
