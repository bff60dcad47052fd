-- An offer to a row has one answer and leaves one row (offers-once), and each number is given exactly where its test is the first to fit
-- (offers-exactly).
-- Assumes nothing.
use mathlib.Core.Path.{◌≡◌, refl, sym, ap, ap₂, ◌∙◌}
use mathlib.Core.List.{List, [], ◌∷◌, ◌++◌}
use mathlib.Core.Bool.{Bool, true, false, not, ◌&&◌}
use Prim.Native.Nat.{ℕ, zero, suc}
use native.Mathlib.Omega.{arith}
use borrow.Author.Tests.{ne_eqb, not-false}
use lib.Dec.{eqb, leb}
use lib.ListN.{get_or}
use Rattle.strings.specs.Pick.{pick}
use Rattle.strings.specs.declared.Refusal.{Refusal}
use Rattle.channel.specs.declared.TakenString.{TakenString}
use Rattle.std.specs.Prelude.{Result, Err, Ok}
use Rattle.strings.specs.declared.Verdict.{Verdict}
use Rattle.strings.specs.Numbers.{Test, Exactly, left_by, first_of, place_of, said_by}
use Rattle.strings.specs.Calls.{sound_tests}
use Rattle.strings.proofs.Answer.{exactly}
use Rattle.channel.specs.declared.News.TheVariants.{AlreadyHeld, Kept, RecordBuilt, RecordOutOfRange}
use Rattle.channel.specs.declared.Row.{Row}
use Rattle.channel.specs.declared.Offered.{Offered}
use Rattle.words.specs.Calls.{number_in}
use Rattle.strings.specs.Number.{number_of}
use Rattle.relative.specs.declared.Polarity.{Polarity}
use Rattle.relative.specs.Polarity.{polarity_of}
use Rattle.relative.proofs.RelativeCode.{polarity_told}
use Rattle.channel.specs.Frame.{Frame, with_string, start_of, is_here, frame_for, is_complete, is_readable, news_at, news_of}
use Rattle.tallies.specs.Tallies.Outcome.{Taken as TAKEN}
use Rattle.channel.specs.Row.{frame_of, held_with, counted}
use Rattle.hearing.specs.Hears.{whole_of, verdict_in}
use Rattle.channel.specs.Offers.{told_of, told_to, answer_paper, offer_tests, Offers, taken_row, is_taken, is_new, is_stored, stores_it, took}
use Rattle.channel.proofs.Answers.{answer_same}
use Rattle.channel.proofs.HeldFrame.{offered_is, taken_exactly}

-- ---- NO SECOND ANSWER FITS, and no second row
pub offers_once : (row : Row) (epoch : ℕ) (s : List ℕ) (r q : Offered) → Offers row epoch s r → Offers row epoch s q → r ≡ q
unfolding Offers
offers_once row epoch s r q a b =
    ap₂ (λ (x : Row) (y : Result TakenString Refusal). record { row = x; answer = y }) (a.left ∙ sym b.left) (answer_same r.answer q.answer (a.answer ∙ sym b.answer))

-- ---- "The first that fits is given, and given only then"
pub offers_exactly : (row : Row) (epoch : ℕ) (s : List ℕ) (r : Offered) → Offers row epoch s r → Exactly (offer_tests (frame_of row) epoch s) (answer_paper r.answer)
unfolding Offers sound_tests
offers_exactly row epoch s r a =
    exactly tt (record { answer = a.answer; output = refl {a = left_by (first_of (offer_tests (frame_of row) epoch s)) [] []} })

-- ---- WHETHER THE OFFER STORED A STRING is told by its answer: where it is taken, and its string was not held
-- a string newly in a frame is never called already held
new_at : (f : Frame) (m : ℕ) → is_new (news_at f m) ≡ true
new_at f m = by (leb m 4 && is_complete f) (is_readable f)
  where
    by : (a b : Bool) → is_new (pick a (pick b RecordBuilt RecordOutOfRange) Kept) ≡ true
    by true true = refl
    by true false = refl
    by false b = refl

new_of : (f : Frame) (epoch n : ℕ) → is_new (news_of f epoch n) ≡ not (is_here f epoch n)
new_of f epoch n = by (is_here f epoch n)
  where
    by : (t : Bool) → is_new (pick t AlreadyHeld (news_at (with_string (frame_for f (start_of epoch n)) n) (number_in n))) ≡ not t
    by true = refl
    by false = new_at (with_string (frame_for f (start_of epoch n)) n) (number_in n)

pub stored_said : (row : Row) (epoch : ℕ) (s : List ℕ) (r : Offered) → Offers row epoch s r → is_stored r.answer ≡ stores_it (frame_of row) epoch s
unfolding Offers
stored_said row epoch s r o = by r.answer (first_of tests) refl o.answer
  where
    tests : List Test
    tests = offer_tests (frame_of row) epoch s

    by : (a : Result TakenString Refusal) (k : ℕ) → first_of tests ≡ k
        → answer_paper a ≡ said_by k (place_of tests) (told_to (frame_of row) epoch s)
        → is_stored a ≡ (eqb k 0 && not (is_here (frame_of row) epoch (whole_of s)))
    by a zero e q =
        let n = whole_of s in
        let told = told_of (frame_of row) epoch n (verdict_in s) in
        let p = q ∙ ap (λ (b : ℕ). 0 ∷ (told ++ (b ∷ []))) (sym (polarity_told (number_of s))) in
        ap is_stored (answer_same a (took (number_in n) (verdict_in s) (news_of (frame_of row) epoch n) (polarity_of (number_of s))) p) ∙ new_of (frame_of row) epoch n
    by (Ok said) (suc k) e q = let z : ◌≡◌ {A = ℕ} 0 (suc k) = ap (λ (l : List ℕ). get_or l 0 0) q in absurd (omega arith)
    by (Err p) (suc k) e q = ap (λ (t : Bool). t && not (is_here (frame_of row) epoch (whole_of s))) (sym (ne_eqb (suc k) 0 (λ z. omega arith)))

-- ---- "ONE ALREADY HELD CHANGES ONLY TALLIES"
pub held_only : (row : Row) (epoch : ℕ) (s : List ℕ) (r : Offered) (m : ℕ) (v : Verdict) (p : Polarity) → Offers row epoch s r
    → r.answer ≡ took m v AlreadyHeld p → r.row ≡ counted (TAKEN (verdict_in s)) row
unfolding taken_row held_with
held_only row epoch s r m v p o e =
    let t : eqb (first_of (offer_tests (frame_of row) epoch s)) 0 ≡ true = sym (taken_exactly row epoch s r o) ∙ ap is_taken e in
    let n : not (is_here (frame_of row) epoch (whole_of s)) ≡ false =
    sym (ap (λ (b : Bool). b && not (is_here (frame_of row) epoch (whole_of s))) t) ∙ sym (stored_said row epoch s r o) ∙ ap is_stored e
    in
    let h : is_here (frame_of row) epoch (whole_of s) ≡ true = not-false (is_here (frame_of row) epoch (whole_of s)) n in
    rw (t, h) at (offered_is row epoch s r o)
