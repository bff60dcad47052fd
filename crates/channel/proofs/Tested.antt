-- The tests of an offer, one by one: what `Passes` says of 2 to 6, and which numbers a taken offer leaves possible. A taken string has
-- eleven bytes and padding 0 (all_pass).
-- Assumes nothing.
use mathlib.Core.Path.{◌≡◌, refl, sym, ap, ◌∙◌}
use mathlib.Core.Bool.{Bool, true, false, not}
use mathlib.Core.List.{List, [], ◌∷◌}
use Prim.Native.Nat.{ℕ, zero, suc, ◌+◌, ◌-◌, ◌*◌, ◌%◌, ◌^◌, ◌≤◌}
use native.Mathlib.Nat.{mul-add-mod_self_right, mul_assoc}
use native.Mathlib.Omega.{arith}
use borrow.Author.Tests.{eq-eqb, ne_eqb, eqb-true, eqb-false, le-leb, le-ltb, ltb-false, not-true}
use lib.Arith.{lt_of_le-ne}
use lib.Dec.{eqb, ltb}
use lib.ListN.{length, get_or, drop}
use lib.Pow.{pow-add}
use Rattle.strings.specs.Number.{value_of, padding_of, misshapen, bit_of}
use Rattle.strings.specs.Numbers.{Test, test, first_of, place_of, said_by, answer_of}
use Rattle.strings.proofs.Digits.{bit_lt}
use Rattle.strings.proofs.Shape.{shaped, well_made}
use Rattle.strings.proofs.Tests.{past_first}
use Rattle.strings.proofs.SoundTests.{IsSound}
use Rattle.words.specs.Calls.{number_in}
use Rattle.strings.proofs.Below.{both}
use Rattle.hearing.specs.Hears.{plain_of, whole_of}
use Rattle.channel.specs.declared.Row.{Row}
use Rattle.channel.specs.declared.Offered.{Offered}
use Rattle.channel.specs.Frame.{Frame, is_of_frame, is_here, place_tests}
use Rattle.channel.specs.Row.{is_present, holds_frame, frame_of}
use Rattle.channel.specs.Offers.{answer_paper, told_to, offer_tests, Offers}
use Rattle.channel.specs.Laws.{said, IsTaken, m_in, start_at, mask_bit, HoldsFrame, Passes, IsHeld}
use Rattle.channel.proofs.Frames.{number_small, present_held}
use Rattle.hearing.proofs.Hearing.{heard_first, heard_then}
use Rattle.channel.proofs.HeldFrame.{said_by_lem, first_said}

-- ---- the padding is the last byte's: every other byte is a multiple of 8 in the value
value_last : (s : List ℕ) (k : ℕ) → length s ≡ suc k → value_of s % 8 ≡ get_or s k 0 % 8
value_last [] k e = absurd (omega arith)
value_last (b ∷ []) zero e = omega arith
value_last (b ∷ []) (suc k) e = absurd (omega arith)
value_last (b ∷ c ∷ s) zero e = absurd (omega arith)
value_last (b ∷ c ∷ s) (suc k) e =
    let p = 2 ^ (5 + 8 * length s) in
    let w : 8 * length (c ∷ s) ≡ (5 + 8 * length s) + 3 = omega arith in
    let q : b * 2 ^ (8 * length (c ∷ s)) ≡ (b * p) * 8 = ap (λ (i : ℕ). b * 2 ^ i) w ∙ ap (λ (x : ℕ). b * x) (pow-add 2 (5 + 8 * length s) 3) ∙ sym (mul_assoc b p 8) in
    ap (λ (x : ℕ). (x + value_of (c ∷ s)) % 8) q ∙ mul-add-mod_self_right (b * p) 8 (value_of (c ∷ s)) ∙ value_last (c ∷ s) k (omega arith)

padding_last : (s : List ℕ) → length s ≡ 11 → padding_of s ≡ get_or s 10 0 % 8
unfolding padding_of
padding_last s e = value_last s 10 e

-- ---- 2 to 6 do not fit
record Past (epoch : ℕ) (s : List ℕ) : Type 0 where
  shape : misshapen s ≡ false
  sound : IsSound (plain_of s)
  number : eqb (number_in (whole_of s)) 0 ≡ false
  early : ltb epoch (number_in (whole_of s) - 1) ≡ false

past : (epoch : ℕ) (s : List ℕ) → Passes epoch s → Past epoch s
past epoch s p =
    record {
      shape = well_made s p.bytes (padding_last s p.bytes ∙ p.padding);
      sound = record { sound = p.sound; idle = ne_eqb (bit_of (whole_of s) 85) 1 (λ e. omega (arith, p.idle)) };
      number = ne_eqb (number_in (whole_of s)) 0 (λ e. omega (arith, p.numbered));
      early = le-ltb epoch (number_in (whole_of s) - 1) p.in_time;
    }

passes : (epoch : ℕ) (s : List ℕ) → Past epoch s → Passes epoch s
passes epoch s p =
    let h = shaped s p.shape in
    let m = number_in (whole_of s) in
    let z : m ≡ 0 → ⊥ = eqb-false m 0 p.number in
    let i : bit_of (whole_of s) 85 ≡ 1 → ⊥ = eqb-false (bit_of (whole_of s) 85) 1 p.sound.idle in
    record {
      bytes = h.0;
      padding = sym (padding_last s h.0) ∙ h.1;
      sound = p.sound.sound;
      idle = not_one (bit_of (whole_of s) 85) (bit_lt (whole_of s) 85) i;
      numbered = lt_of_le-ne (omega arith) (λ q. z (sym q));
      in_time = ltb-false epoch (m - 1) p.early;
    }
  where
    not_one : (b : ℕ) → suc b ≤ 2 → (b ≡ 1 → ⊥) → b ≡ 0
    not_one zero l n = refl
    not_one (suc zero) l n = absurd (n refl)
    not_one (suc (suc b)) l n = absurd (omega arith)

-- 7 to 9 of a frame: the last three of the five that look at it
abbrev fits_at : Frame → ℕ → ℕ → ℕ → Bool
fits_at f epoch n j = (get_or (place_tests f epoch n) j (test 0 false)).fits

abbrev last_three : Frame → ℕ → ℕ → List Test
last_three f epoch n = test 7 (fits_at f epoch n 2) ∷ test 8 (fits_at f epoch n 3) ∷ test 9 (fits_at f epoch n 4) ∷ []

-- ---- none of the tests fits
pub record NoneOf (f : Frame) (epoch : ℕ) (s : List ℕ) : Type 0 where
  pub two : misshapen s ≡ false
  pub sound : IsSound (plain_of s)
  pub five : eqb (number_in (whole_of s)) 0 ≡ false
  pub six : ltb epoch (number_in (whole_of s) - 1) ≡ false
  pub seven : fits_at f epoch (whole_of s) 2 ≡ false
  pub eight : fits_at f epoch (whole_of s) 3 ≡ false
  pub nine : fits_at f epoch (whole_of s) 4 ≡ false

module _ (f : Frame) (epoch : ℕ) (s : List ℕ) (t : first_of (offer_tests f epoch s) ≡ 0) where
  pub none_fits_lem : NoneOf f epoch s
  none_fits_lem =
      let n = whole_of s in
      let ts = place_tests f epoch n in
      let heard = heard_first s ts t in
      let five = past_first 4 (eqb (number_in n) 0) (drop 1 ts) heard.1.1 in
      let six = past_first 5 (ltb epoch (number_in n - 1)) (drop 2 ts) five.1 in
      let seven = past_first 6 (fits_at f epoch n 2) (drop 3 ts) six.1 in
      let eight = past_first 7 (fits_at f epoch n 3) (drop 4 ts) seven.1 in
      let nine = past_first 8 (fits_at f epoch n 4) [] eight.1 in
      record { two = heard.0; sound = heard.1.0; five = five.0; six = six.0; seven = seven.0; eight = eight.0; nine = nine.0 }

  -- WHAT IS TAKEN PASSED 2 TO 6: it has eleven bytes and padding 0
  pub all_pass : Passes epoch s
  all_pass =
      let z = none_fits_lem in
      passes epoch s (record { shape = z.two; sound = z.sound; number = z.five; early = z.six })

-- ---- what a mask says, in its bits
pub held_true : (row : Row) → HoldsFrame row → holds_frame row.present ≡ true
unfolding holds_frame
held_true row h = ap not (ne_eqb (row.present % 32768) 0 h)

pub held_false : (row : Row) → row.present % 32768 ≡ 0 → holds_frame row.present ≡ false
unfolding holds_frame
held_false row e = ap not (eq-eqb (row.present % 32768) 0 e)

pub holds : (row : Row) → holds_frame row.present ≡ true → HoldsFrame row
unfolding holds_frame
holds row h = eqb-false (row.present % 32768) 0 (not-true (eqb (row.present % 32768) 0) h)

module _ (row : Row) (m : ℕ) (least : 1 ≤ m) (most : m ≤ 15) where
  pub present_is : is_present row.present m ≡ eqb (mask_bit row m) 1
  unfolding is_present
  present_is = rw (le-leb 1 m least, le-leb m 15 most)

-- "same start and m held", of a string with a number
module _ (row : Row) (epoch : ℕ) (s : List ℕ) (least : 1 ≤ m_in s) where
  here_true : IsHeld row epoch s → (is_present row.present (m_in s) ≡ true) × (is_here (frame_of row) epoch (whole_of s) ≡ true)
  here_true h =
      let p = present_is row (m_in s) least (number_small (whole_of s)) ∙ eq-eqb (mask_bit row (m_in s)) 1 h.1 in
      (p, rw (present_held row.present (m_in s) p, eq-eqb (start_at epoch s) row.start h.0, p))

  pub is_present_lem : IsHeld row epoch s → is_present row.present (m_in s) ≡ true
  is_present_lem h = (here_true h).0

  pub is_here_lem : IsHeld row epoch s → is_here (frame_of row) epoch (whole_of s) ≡ true
  is_here_lem h = (here_true h).1

  pub not_here : (IsHeld row epoch s → ⊥) → is_here (frame_of row) epoch (whole_of s) ≡ false
  not_here h = by (is_here (frame_of row) epoch (whole_of s)) refl
    where
      by : (t : Bool) → is_here (frame_of row) epoch (whole_of s) ≡ t → t ≡ false
      by true e =
          let p = both (is_of_frame (frame_of row) (start_at epoch s)) (is_present row.present (m_in s)) e in
          let q = both (holds_frame row.present) (eqb (start_at epoch s) row.start) p.0 in
          let b : mask_bit row (m_in s) ≡ 1 = eqb-true (mask_bit row (m_in s)) 1 (sym (present_is row (m_in s) least (number_small (whole_of s))) ∙ p.1) in
          absurd (h (eqb-true (start_at epoch s) row.start q.1, b))
      by false e = refl

-- ---- an offer
module _ (row : Row) (epoch : ℕ) (s : List ℕ) (r : Offered) (o : Offers row epoch s r) where
  abbrev frame : Frame
  frame = frame_of row

  abbrev n : ℕ
  n = whole_of s

  pub first_is : said r 0 ≡ first_of (offer_tests frame epoch s)
  first_is = ap (λ (l : List ℕ). get_or l 0 0) (said_by_lem row epoch s r o) ∙ first_said (offer_tests frame epoch s) _

  pub taken_first : IsTaken r → first_of (offer_tests frame epoch s) ≡ 0
  taken_first t = sym first_is ∙ t

  pub taken_passes : IsTaken r → Passes epoch s
  taken_passes t = all_pass frame epoch s (taken_first t)

  -- what passed is answered by 7 to 9
  pub passed_said : Passes epoch s → answer_paper r.answer ≡ answer_of (last_three frame epoch n) (told_to frame epoch s)
  passed_said p =
      let q = past epoch s p in
      let h = heard_then s (place_tests frame epoch n) q.shape q.sound in
      said_by_lem row epoch s r o ∙ rw (h.0, h.1, q.number, q.early)

  pub passed_first : Passes epoch s → said r 0 ≡ first_of (last_three frame epoch n)
  passed_first p =
      let q = past epoch s p in
      first_is ∙ (heard_then s (place_tests frame epoch n) q.shape q.sound).0 ∙ rw (q.number, q.early)

  -- what is taken tells m, the verdict, the news and the polarity
  pub taken_told : IsTaken r → answer_paper r.answer ≡ 0 ∷ told_to frame epoch s
  taken_told t =
      let tests = offer_tests frame epoch s in
      said_by_lem row epoch s r o ∙ ap (λ (k : ℕ). said_by k (place_of tests) (told_to frame epoch s)) (taken_first t)

  pub taken_test : IsTaken r → eqb (first_of (offer_tests frame epoch s)) 0 ≡ true
  taken_test t = eq-eqb (first_of (offer_tests frame epoch s)) 0 (taken_first t)
