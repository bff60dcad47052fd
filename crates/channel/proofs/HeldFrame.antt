-- The frame that a row holds is the one that the calls determine (held-is), and so is each answer (said-is). Of any bytes and any epochs.
-- Assumes nothing.
use mathlib.Core.Path.{◌≡◌, refl, sym, ap, ◌∙◌}
use mathlib.Core.Bool.{Bool, true, false}
use mathlib.Core.List.{List}
use Prim.Native.Nat.{ℕ, zero, suc, ◌^◌, ◌≤◌, ◌<◌}
use native.Mathlib.Omega.{arith}
use borrow.Author.Tests.{eqb-true, eqb-false}
use lib.Arith.{lt_of_le-ne}
use lib.Dec.{eqb}
use lib.ListN.{length, get_or, drop, length-replicate}
use lib.Seq.{length-sets}
use Rattle.strings.specs.Pick.{pick}
use Rattle.strings.specs.declared.Refusal.{Refusal}
use Rattle.channel.specs.declared.TakenString.{TakenString}
use Rattle.std.specs.Prelude.{Result, Err, Ok}
use Rattle.strings.specs.Number.{bytes_of_string}
use Rattle.strings.specs.Numbers.{Test, first_of, place_of, said_by, answer_of}
use Rattle.strings.proofs.Answer.{refusal_known}
use Rattle.strings.proofs.Tests.{past_first}
use Rattle.words.specs.Calls.{number_in}
use Rattle.channel.specs.declared.Row.{Row}
use Rattle.channel.specs.declared.Offered.{Offered}
use Rattle.channel.specs.Frame.{Frame, with_string, start_of, is_of_frame, is_here, frame_for, after_string, place_tests}
use Rattle.channel.specs.Row.{Held, frame_in, held_of, frame_of, empty_row, new_frame, held_for, stored, held_with, counted}
use Rattle.hearing.specs.Hears.{whole_of}
use Rattle.channel.specs.Offers.{answer_paper, is_taken, taken_row, offer_tests, Offers, offered_row}
use Rattle.channel.specs.History.{Call, frame_after, held_after, said_to, Runs, fresh, offering, resetting}
use Rattle.channel.proofs.Frames.{stored_frame, empty_frame_lem, held_for_lem}
use Rattle.hearing.proofs.Hearing.{whole_lt, heard_first}

-- ---- the string of an offer
-- a taken string has a number
pub taken_numbered : (f : Frame) (epoch : ℕ) (s : List ℕ) → first_of (offer_tests f epoch s) ≡ 0 → 1 ≤ number_in (whole_of s)
taken_numbered f epoch s e =
    let n = number_in (whole_of s) in
    let ts = place_tests f epoch (whole_of s) in
    let z : n ≡ 0 → ⊥ = eqb-false n 0 (past_first 4 (eqb n 0) (drop 1 ts) (heard_first s ts e).1.1).0 in
    lt_of_le-ne (omega arith) (λ q. z (sym q))

-- ---- what a taken string leaves
-- fifteen strings stay fifteen
pub for_long : (h : Held) (start : ℕ) → length h.bytes ≡ 165 → length (held_for h start).bytes ≡ 165
unfolding new_frame
for_long h start long = by (is_of_frame (frame_in h) start)
  where
    by : (t : Bool) → length (pick t h (new_frame start)).bytes ≡ 165
    by true = long
    by false = length-replicate {A = ℕ} 165 0

module _ (h : Held) (epoch n : ℕ) (long : length h.bytes ≡ 165) where
  placed_long : length (held_with h epoch n).bytes ≡ 165
  unfolding held_with stored
  placed_long = by (is_here (frame_in h) epoch n)
    where
      by : (t : Bool) → length (pick t h (stored (held_for h (start_of epoch n)) n)).bytes ≡ 165
      by true = long
      by false = length-sets (held_for h (start_of epoch n)).bytes _ (bytes_of_string n) ∙ for_long h (start_of epoch n) long

  -- the frame with the string is held
  placed_frame : n < 2 ^ 85 → 1 ≤ number_in n → frame_in (held_with h epoch n) ≡ after_string (frame_in h) epoch n
  unfolding held_with
  placed_frame small least = by (is_here (frame_in h) epoch n)
    where
      by : (t : Bool) → frame_in (pick t h (stored (held_for h (start_of epoch n)) n))
          ≡ pick t (frame_in h) (with_string (frame_for (frame_in h) (start_of epoch n)) n)
      by true = refl
      by false =
          stored_frame (held_for h (start_of epoch n)) n (for_long h (start_of epoch n) long) small least ∙ ap (λ (f : Frame). with_string f n) (held_for_lem h (start_of epoch n))

-- ---- the row that an offer leaves
pub offered_is : (row : Row) (epoch : ℕ) (s : List ℕ) (r : Offered) → Offers row epoch s r → r.row ≡ offered_row row epoch s
unfolding Offers
offered_is row epoch s r o = o.left

pub said_by_lem : (row : Row) (epoch : ℕ) (s : List ℕ) (r : Offered) → Offers row epoch s r → answer_paper r.answer ≡ said_to (frame_of row) epoch s
unfolding Offers
said_by_lem row epoch s r o = o.answer

module _ (row : Row) (epoch : ℕ) (s : List ℕ) (long : length row.strings ≡ 165) where
  pub offered_long : length (offered_row row epoch s).strings ≡ 165
  unfolding counted taken_row
  offered_long = by (eqb (first_of (offer_tests (frame_of row) epoch s)) 0)
    where
      by : (t : Bool) → length (pick t (taken_row row epoch (whole_of s)) row).strings ≡ 165
      by true = placed_long (held_of row) epoch (whole_of s) long
      by false = long

  -- THE ROW'S FRAME MOVES AS THE RULES SAY, from any row
  pub frame_after_lem : frame_of (offered_row row epoch s) ≡ frame_after (frame_of row) epoch s
  unfolding counted taken_row
  frame_after_lem = by (eqb (first_of (offer_tests (frame_of row) epoch s)) 0) refl
    where
      by : (t : Bool) → eqb (first_of (offer_tests (frame_of row) epoch s)) 0 ≡ t
          → frame_of (pick t (taken_row row epoch (whole_of s)) row) ≡ pick t (after_string (frame_of row) epoch (whole_of s)) (frame_of row)
      by true e =
          placed_frame (held_of row) epoch (whole_of s) long (whole_lt s)
          (taken_numbered (frame_of row) epoch s (eqb-true (first_of (offer_tests (frame_of row) epoch s)) 0 e))
      by false e = refl

-- ---- a refused offer
-- an answer begins with the number of the first test that fits
pub first_said : (ts : List Test) (told : List ℕ) → get_or (answer_of ts told) 0 0 ≡ first_of ts
first_said ts told = by (first_of ts)
  where
    by : (k : ℕ) → get_or (said_by k (place_of ts) told) 0 0 ≡ k
    by zero = refl
    by (suc k) = refl

-- a taken answer begins with 0, and no refusal does
taken_said : (a : Result TakenString Refusal) → eqb (get_or (answer_paper a) 0 0) 0 ≡ is_taken a
taken_said (Ok said) = refl
taken_said (Err q) = (refusal_known q).1

-- an offer is taken exactly where none of its tests fits
pub taken_exactly : (row : Row) (epoch : ℕ) (s : List ℕ) (r : Offered) → Offers row epoch s r
    → is_taken r.answer ≡ eqb (first_of (offer_tests (frame_of row) epoch s)) 0
taken_exactly row epoch s r o =
    sym (taken_said r.answer)
    ∙ ap (λ (k : ℕ). eqb k 0) (ap (λ (l : List ℕ). get_or l 0 0) (said_by_lem row epoch s r o) ∙ first_said (offer_tests (frame_of row) epoch s) _)

-- ---- over a history
empty_long : length empty_row.strings ≡ 165
unfolding empty_row
empty_long = length-replicate {A = ℕ} 165 0

pub runs_long : (cs : List Call) (row : Row) → Runs cs row → length row.strings ≡ 165
runs_long cs row fresh = empty_long
runs_long cs row (offering epoch s ds before r run o) =
    ap (λ (x : Row). length x.strings) (offered_is before epoch s r o) ∙ offered_long before epoch s (runs_long ds before run)
runs_long cs row (resetting ds before run) = empty_long

-- THE ROW'S FRAME IS THE HISTORY'S
pub held_is : (cs : List Call) (row : Row) → Runs cs row → frame_of row ≡ held_after cs
unfolding held_after
held_is cs row fresh = empty_frame_lem
held_is cs row (offering epoch s ds before r run o) =
    ap frame_of (offered_is before epoch s r o) ∙ frame_after_lem before epoch s (runs_long ds before run)
    ∙ ap (λ (f : Frame). frame_after f epoch s) (held_is ds before run)
held_is cs row (resetting ds before run) = empty_frame_lem

-- EACH ANSWER IS WHAT THE CALLS BEFORE IT DETERMINE
pub said_is : (cs : List Call) (row : Row) (epoch : ℕ) (s : List ℕ) (r : Offered) → Runs cs row → Offers row epoch s r
    → answer_paper r.answer ≡ said_to (held_after cs) epoch s
said_is cs row epoch s r run o = said_by_lem row epoch s r o ∙ ap (λ (f : Frame). said_to f epoch s) (held_is cs row run)
