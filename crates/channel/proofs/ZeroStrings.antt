-- A new frame leaves its other fourteen strings zero, in any row's bytes (new-frame); so after any calls every string that is not present is zero (absent-zero).
-- Assumes nothing.
use mathlib.Core.Path.{◌≡◌, refl, sym, ap, subst, ◌∙◌}
use mathlib.Core.Bool.{Bool, true, false, ◌&&◌}
use mathlib.Core.List.{List}
use Prim.Native.Nat.{ℕ, ◌+◌, ◌-◌, ◌*◌, ◌/◌, ◌%◌, ◌^◌, ◌≤◌, ◌<◌}
use native.Mathlib.Omega.{arith}
use borrow.Author.Tests.{eqb-true}
use lib.Bits.{bit_or}
use lib.Dec.{eqb}
use lib.ListN.{length, take, drop, replicate, length-replicate, get_or-replicate}
use lib.Seq.{ext_get_or}
use Rattle.strings.specs.Pick.{pick}
use Rattle.strings.specs.Number.{bytes_of_string}
use Rattle.strings.specs.Numbers.{first_of}
use Rattle.strings.proofs.Value.{string_length}
use Rattle.words.specs.Calls.{number_in}
use Rattle.strings.proofs.Below.{both}
use Rattle.hearing.specs.Hears.{whole_of}
use Rattle.hearing.proofs.Hearing.{whole_lt}
use Rattle.channel.specs.declared.Row.{Row}
use Rattle.channel.specs.declared.Offered.{Offered}
use Rattle.channel.specs.Frame.{start_of, is_of_frame, is_here}
use Rattle.channel.specs.Row.{is_present, holds_frame, Held, frame_in, held_of, frame_of, empty_row, new_frame, held_for, stored, held_with, counted}
use Rattle.channel.specs.Offers.{taken_row, offer_tests, Offers, offered_row}
use Rattle.channel.specs.History.{Call, Runs, fresh, offering, resetting}
use Rattle.channel.specs.Laws.{IsTaken, m_in, start_at, HoldsFrame, NewFrame, AbsentZero}
use Rattle.channel.proofs.Frames.{number_small, bit_same, bit_other, part, part_at, part_long, part_same, part_stays}
use Rattle.channel.proofs.HeldFrame.{for_long, offered_is, runs_long, taken_numbered}
use Rattle.channel.proofs.Tested.{holds, taken_passes, taken_test}

-- ---- eleven zeros of 165
zero_part : (at : ℕ) → at + 11 ≤ 165 → part (replicate 165 0) at ≡ replicate 11 0
zero_part at h =
    let l = length-replicate {A = ℕ} 165 0 in
    let e : length (part (replicate 165 0) at) ≡ 11 = part_long (replicate 165 0) at (omega arith) in
    ext_get_or 0 (part (replicate 165 0) at) (replicate 11 0) (e ∙ sym (length-replicate {A = ℕ} 11 0))
    (λ i u.
    let k : i < 11 = omega arith in
    part_at (replicate 165 0) at i k ∙ get_or-replicate {A = ℕ} 165 (at + i) 0 0 (omega arith) ∙ sym (get_or-replicate {A = ℕ} 11 i 0 0 k))

-- ---- what is held: zero where it is absent
abbrev Zero : Held → Type 0
Zero h = (m : ℕ) → 1 ≤ m → m ≤ 15 → h.mask / 2 ^ (m - 1) % 2 ≡ 0 → part h.bytes (11 * (m - 1)) ≡ replicate 11 0

new_zero : (start : ℕ) → Zero (new_frame start)
unfolding new_frame
new_zero start m l u e = zero_part (11 * (m - 1)) (omega arith)

stored_zero : (h : Held) (n : ℕ) → length h.bytes ≡ 165 → n < 2 ^ 85 → 1 ≤ number_in n → Zero h → Zero (stored h n)
unfolding stored
stored_zero h n long small least z m l u e =
    let k = number_in n in
    let ne : m ≡ k → ⊥ = λ q.
    let x : ◌≡◌ {A = ℕ} 0 1 = sym e ∙ ap (λ (i : ℕ). bit_or h.mask (2 ^ (k - 1)) / 2 ^ (i - 1) % 2) q ∙ bit_same h.mask (k - 1) in omega arith
    in
    part_stays h n long small least m l u ne ∙ z m l u (sym (bit_other h.mask (k - 1) (m - 1) (λ q. ne (omega arith))) ∙ e)

module _ (h : Held) (epoch n : ℕ) (long : length h.bytes ≡ 165) (small : n < 2 ^ 85) (least : 1 ≤ number_in n) (z : Zero h) where
  for_zero : Zero (held_for h (start_of epoch n))
  for_zero = by (is_of_frame (frame_in h) (start_of epoch n))
    where
      by : (t : Bool) → Zero (pick t h (new_frame (start_of epoch n)))
      by true = z
      by false = new_zero (start_of epoch n)

  with_zero : Zero (held_with h epoch n)
  unfolding held_with
  with_zero = by (is_here (frame_in h) epoch n)
    where
      by : (t : Bool) → Zero (pick t h (stored (held_for h (start_of epoch n)) n))
      by true = z
      by false = stored_zero (held_for h (start_of epoch n)) n (for_long h (start_of epoch n) long) small least for_zero

-- ---- over a history
offered_zero : (row : Row) (epoch : ℕ) (s : List ℕ) → length row.strings ≡ 165 → Zero (held_of row) → Zero (held_of (offered_row row epoch s))
unfolding counted taken_row
offered_zero row epoch s long z = by (eqb (first_of (offer_tests (frame_of row) epoch s)) 0) refl
  where
    by : (t : Bool) → eqb (first_of (offer_tests (frame_of row) epoch s)) 0 ≡ t → Zero (held_of (pick t (taken_row row epoch (whole_of s)) row))
    by true e =
        with_zero (held_of row) epoch (whole_of s) long (whole_lt s) (taken_numbered (frame_of row) epoch s (eqb-true (first_of (offer_tests (frame_of row) epoch s)) 0 e)) z
    by false e = z

empty_zero : Zero (held_of empty_row)
unfolding empty_row
empty_zero m l u e = zero_part (11 * (m - 1)) (omega arith)

runs_zero : (cs : List Call) (row : Row) → Runs cs row → Zero (held_of row)
runs_zero cs row fresh = empty_zero
runs_zero cs row (offering epoch s ds before r run o) =
    subst (λ (x : Row). Zero (held_of x)) (sym (offered_is before epoch s r o)) (offered_zero before epoch s (runs_long ds before run) (runs_zero ds before run))
runs_zero cs row (resetting ds before run) = empty_zero

-- AFTER ANY CALLS A STRING THAT IS NOT PRESENT IS ZERO
pub absent_zero : (cs : List Call) (row : Row) → Runs cs row → AbsentZero row
unfolding part
absent_zero cs row run = runs_zero cs row run

-- ---- a new frame, in any row
module _ (row : Row) (epoch : ℕ) (s : List ℕ) (r : Offered) (long : length row.strings ≡ 165) (o : Offers row epoch s r) (t : IsTaken r)
    (other : HoldsFrame row → start_at epoch s ≡ row.start → ⊥) where
  abbrev n : ℕ
  n = whole_of s

  abbrev begun : Held
  begun = new_frame (start_at epoch s)

  not_of : is_of_frame (frame_of row) (start_at epoch s) ≡ false
  not_of = by (is_of_frame (frame_of row) (start_at epoch s)) refl
    where
      by : (b : Bool) → is_of_frame (frame_of row) (start_at epoch s) ≡ b → b ≡ false
      by true e =
          let q = both (holds_frame row.present) (eqb (start_at epoch s) row.start) e in
          absurd (other (holds row q.0) (eqb-true (start_at epoch s) row.start q.1))
      by false e = refl

  -- what is held then is the string alone
  alone : held_of r.row ≡ stored begun n
  unfolding counted taken_row held_with
  alone =
      ap held_of (offered_is row epoch s r o)
      ∙ ap (λ (b : Bool). held_of (pick b (taken_row row epoch n) row)) (taken_test row epoch s r o t)
      ∙ ap (λ (b : Bool). pick (b && is_present row.present (m_in s)) (held_of row) (stored (pick b (held_of row) begun) n)) not_of

  least : 1 ≤ m_in s
  least = (taken_passes row epoch s r o t).numbered

  begun_long : length begun.bytes ≡ 165
  unfolding new_frame
  begun_long = length-replicate {A = ℕ} 165 0

  new_own : part (stored begun n).bytes (11 * (m_in s - 1)) ≡ bytes_of_string n
  unfolding stored
  new_own =
      let u = number_small n in
      part_same begun.bytes (bytes_of_string n) (11 * (m_in s - 1)) (string_length n) (omega (arith, begun_long))

  new_other : (m : ℕ) → 1 ≤ m → m ≤ 15 → (m ≡ m_in s → ⊥) → part (stored begun n).bytes (11 * (m - 1)) ≡ replicate 11 0
  unfolding new_frame
  new_other m l u ne = part_stays begun n begun_long (whole_lt s) least m l u ne ∙ zero_part (11 * (m - 1)) (omega arith)

  -- A NEW FRAME LEAVES ITS OTHER FOURTEEN STRINGS ZERO
  pub new_frame_lem : NewFrame epoch s r
  unfolding part stored new_frame
  new_frame_lem =
      record {
        start = ap (λ (h : Held). h.start) alone;
        present = ap (λ (h : Held). h.mask) alone;
        own = ap (λ (h : Held). take 11 (drop (11 * (m_in s - 1)) h.bytes)) alone ∙ new_own;
        others = λ m l u ne. ap (λ (h : Held). take 11 (drop (11 * (m - 1)) h.bytes)) alone ∙ new_other m l u ne;
      }
