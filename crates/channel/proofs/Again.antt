-- A string whose start and m are held: taken exactly where bits 80..9 are the held string's, and else CONFLICT (again). After any calls the held string
-- then is the offered one, in all 85 bits (held_same).
-- Assumes nothing.
use mathlib.Core.Path.{◌≡◌, refl, sym, ap, ap₂, subst, ◌∙◌}
use mathlib.Core.Bool.{Bool, true, false, not, ◌||◌, true≢false}
use mathlib.Core.List.{List, [], ◌∷◌}
use Prim.Native.Nat.{ℕ, ◌+◌, ◌-◌, ◌*◌, ◌/◌, ◌%◌, ◌^◌, ◌≤◌, ◌<◌}
use native.Mathlib.Nat.{mod-eq_of_lt}
use native.Mathlib.Omega.{arith}
use borrow.Author.Tests.{eq-eqb, eqb-true, eqb-false, le-ltb}
use lib.Dec.{eqb, lit≤}
use lib.ListN.{get_or}
use lib.Pow.{shr-shr}
use Rattle.strings.specs.Pick.{pick}
use Rattle.strings.specs.Number.{bit_of, word_of}
use Rattle.strings.specs.Hamming.{Encoded}
use Rattle.strings.specs.Numbers.{test, first_of, answer_of}
use Rattle.strings.proofs.Digits.{bits_same, low_digit}
use Rattle.strings.proofs.Encode.{encoded_once}
use Rattle.strings.proofs.Flips.{left_encoded}
use Rattle.words.specs.Calls.{number_in}
use Rattle.words.proofs.WordBits.{word_lt}
use Rattle.strings.proofs.WordOf.{word_cut}
use Rattle.hearing.specs.Hears.{plain_of, whole_of}
use Rattle.hearing.proofs.Hearing.{whole_lt}
use Rattle.channel.specs.declared.Row.{Row}
use Rattle.channel.specs.declared.Offered.{Offered}
use Rattle.channel.specs.Frame.{Frame, empty_frame, with_string, start_of, data_in, is_of_frame, is_here, frame_for, after_string}
use Rattle.channel.specs.Row.{string_in, frame_of}
use Rattle.channel.specs.Offers.{answer_paper, told_to, offer_tests, Offers}
use Rattle.channel.specs.History.{Call, Offer, Reset, frame_after, held_after, Runs}
use Rattle.channel.specs.Laws.{IsTaken, m_in, start_at, Passes, IsHeld, SameBits, Again}
use Rattle.channel.proofs.Frames.{present_held}
use Rattle.channel.proofs.HeldFrame.{held_is}
use Rattle.channel.proofs.Tested.{all_pass, taken_first, taken_passes, is_present_lem, passed_said}

-- ---- the data are the bits 80..9
data_bit : (n i : ℕ) → 1 ≤ i → i ≤ 72 → bit_of (data_in n) i ≡ bit_of n (i + 8)
unfolding word_of
data_bit n i l u =
    let e : 8 + (i - 1) ≡ i + 8 - 1 = omega arith in
    low_digit (n / 2 ^ 8) 72 (i - 1) (omega arith) ∙ ap (λ (x : ℕ). x % 2) (shr-shr n 8 (i - 1)) ∙ ap (λ (k : ℕ). n / 2 ^ k % 2) e

module _ (a b : ℕ) where
  same_bits : data_in a ≡ data_in b → (i : ℕ) → 9 ≤ i → i ≤ 80 → bit_of a i ≡ bit_of b i
  same_bits e i l u =
      let k : i - 8 + 8 ≡ i = omega arith in
      subst (λ (j : ℕ). bit_of a j ≡ bit_of b j) k
      (sym (data_bit a (i - 8) (omega arith) (omega arith)) ∙ ap (λ (x : ℕ). bit_of x (i - 8)) e ∙ data_bit b (i - 8) (omega arith) (omega arith))

  same_data : ((i : ℕ) → 9 ≤ i → i ≤ 80 → bit_of a i ≡ bit_of b i) → data_in a ≡ data_in b
  same_data h =
      bits_same 72 (data_in a) (data_in b) (word_lt a 80 9) (word_lt b 80 9)
      (λ i l u. data_bit a i l u ∙ h (i + 8) (omega arith) (omega arith) ∙ sym (data_bit b i l u))

-- ---- an offer whose start and m are held
module _ (row : Row) (epoch : ℕ) (s : List ℕ) (r : Offered) (o : Offers row epoch s r) (p : Passes epoch s) (h : IsHeld row epoch s) where
  abbrev n : ℕ
  n = whole_of s

  abbrev old : ℕ
  old = string_in row.strings (m_in s)

  -- CONFLICT alone is left
  nine_left : answer_paper r.answer ≡ answer_of (test 9 (not (eqb (data_in old) (data_in n))) ∷ []) (told_to (frame_of row) epoch s)
  nine_left =
      let here = is_present_lem row epoch s p.numbered h in
      let e = h.0 in
      passed_said row epoch s r o p
      ∙ rw (
        present_held row.present (m_in s) here,
        le-ltb (start_at epoch s) row.start (omega arith),
        le-ltb row.start (start_at epoch s) (omega arith),
        eq-eqb (start_at epoch s) row.start e,
        here,
      )

  abbrev nine : Bool → List ℕ
  nine t = answer_of (test 9 (not t) ∷ []) (told_to (frame_of row) epoch s)

  -- TAKEN EXACTLY WHERE BITS 80..9 ARE THE SAME, AND ELSE CONFLICT
  pub again : Again row s r
  again = by (eqb (data_in old) (data_in n)) refl
    where
      by : (t : Bool) → eqb (data_in old) (data_in n) ≡ t → Again row s r
      by true e =
          let b : SameBits row s 80 9 = same_bits old n (eqb-true (data_in old) (data_in n) e) in
          record { taken = ((λ t. b), (λ u. ap (λ (l : List ℕ). get_or l 0 0) (nine_left ∙ ap nine e))); conflict = λ u. absurd (u b) }
      by false e =
          let w = nine_left ∙ ap nine e in
          record {
            taken = (
              (λ t. let z : ◌≡◌ {A = ℕ} 0 9 = sym t ∙ ap (λ (l : List ℕ). get_or l 0 0) w in absurd (omega arith)),
              (λ b. absurd (eqb-false (data_in old) (data_in n) e (same_data old n b))),
            );
            conflict = λ u. w;
          }

-- ---- the strings that a history holds: encoded, each in the place of its m, with bit 85 at 0
record Kept (m n : ℕ) : Type 0 where
  encoded : Encoded n
  number : number_in n ≡ m
  small : n < 2 ^ 84

abbrev AllKept : Frame → Type 0
AllKept f = (m : ℕ) → f.has m ≡ true → Kept m (f.text m)

empty_kept : (start : ℕ) → AllKept (empty_frame start)
empty_kept start m e = absurd (true≢false (sym e))

with_kept : (f : Frame) (n : ℕ) → Kept (number_in n) n → AllKept f → AllKept (with_string f n)
with_kept f n k a m = by (eqb m (number_in n)) refl
  where
    by : (t : Bool) → eqb m (number_in n) ≡ t → (t || f.has m) ≡ true → Kept m (pick t n (f.text m))
    by true e u = subst (λ (i : ℕ). Kept i n) (sym (eqb-true m (number_in n) e)) k
    by false e u = a m u

after_kept : (f : Frame) (epoch n : ℕ) → Kept (number_in n) n → AllKept f → AllKept (after_string f epoch n)
after_kept f epoch n k a = by (is_here f epoch n)
  where
    for : (t : Bool) → AllKept (pick t f (empty_frame (start_of epoch n)))
    for true = a
    for false = empty_kept (start_of epoch n)

    by : (t : Bool) → AllKept (pick t f (with_string (frame_for f (start_of epoch n)) n))
    by true = a
    by false = with_kept (frame_for f (start_of epoch n)) n k (for (is_of_frame f (start_of epoch n)))

-- what is taken is such a string
taken_kept : (f : Frame) (epoch : ℕ) (s : List ℕ) → first_of (offer_tests f epoch s) ≡ 0 → Kept (m_in s) (whole_of s)
taken_kept f epoch s t =
    let p = all_pass f epoch s t in
    record { encoded = left_encoded (plain_of s) p.sound; number = refl; small = omega (arith, whole_lt s, p.idle) }

one_kept : (f : Frame) (epoch : ℕ) (s : List ℕ) → AllKept f → AllKept (frame_after f epoch s)
one_kept f epoch s a = by (eqb (first_of (offer_tests f epoch s)) 0) refl
  where
    by : (t : Bool) → eqb (first_of (offer_tests f epoch s)) 0 ≡ t → AllKept (pick t (after_string f epoch (whole_of s)) f)
    by true e = after_kept f epoch (whole_of s) (taken_kept f epoch s (eqb-true (first_of (offer_tests f epoch s)) 0 e)) a
    by false e = a

all_kept : (cs : List Call) → AllKept (held_after cs)
unfolding held_after
all_kept [] = empty_kept 0
all_kept (Offer epoch s ∷ cs) = one_kept (held_after cs) epoch s (all_kept cs)
all_kept (Reset ∷ cs) = empty_kept 0

-- two such strings with one m and the same data are the same: their check bits follow
top_bits : (n : ℕ) → n < 2 ^ 84 → n / 2 ^ 8 ≡ number_in n * 2 ^ 72 + data_in n
unfolding word_of
top_bits n h = let l : n / 2 ^ 8 < 2 ^ 76 = omega arith in sym (mod-eq_of_lt l) ∙ word_cut n 84 80 9 (lit≤ tt) (lit≤ tt) (lit≤ tt)

kept_once : (m a b : ℕ) → Kept m a → Kept m b → data_in a ≡ data_in b → a ≡ b
kept_once m a b k l e =
    let up : a < 2 ^ 85 = omega (arith, k.small) in
    let to : b < 2 ^ 85 = omega (arith, l.small) in
    let d : a / 2 ^ 8 ≡ b / 2 ^ 8 =
    top_bits a k.small ∙ ap₂ (λ (x y : ℕ). x * 2 ^ 72 + y) (k.number ∙ sym l.number) e ∙ sym (top_bits b l.small)
    in
    encoded_once b a to up k.encoded d ∙ sym (encoded_once b b to to l.encoded refl)

-- AFTER ANY CALLS, WHAT IS TAKEN AGAIN IS THE HELD STRING, ALL 85 BITS OF IT
pub held_same : (cs : List Call) (row : Row) (epoch : ℕ) (s : List ℕ) (r : Offered) → Runs cs row → Offers row epoch s r → IsTaken r → IsHeld row epoch s
    → SameBits row s 85 1
held_same cs row epoch s r run o t h i l u =
    let p = taken_passes row epoch s r o t in
    let here = is_present_lem row epoch s p.numbered h in
    let f = held_is cs row run in
    let k : Kept (m_in s) (string_in row.strings (m_in s)) =
    rw here at (subst AllKept (sym f) (all_kept cs) (m_in s) here)
    in
    let d = same_data (string_in row.strings (m_in s)) (whole_of s) ((again row epoch s r o p h).taken.0 t) in
    ap (λ (x : ℕ). bit_of x i) (kept_once (m_in s) (string_in row.strings (m_in s)) (whole_of s) k (taken_kept (frame_of row) epoch s (taken_first row epoch s r o t)) d)
