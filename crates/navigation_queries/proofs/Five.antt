-- The words of string 5: what `five_of` finds (five-shut, five-missing, five-there), once (fives-once), by a card's own rows alone (fives-alike), and over
-- any calls by the held frame (five-after).
-- Assumes nothing.
use Prim.Native.Nat.{ℕ}
use mathlib.Core.Bool.{Bool, true, false, not, ◌&&◌, false≢true}
use mathlib.Core.List.{List, [], ◌∷◌}
use mathlib.Core.Path.{◌≡◌, refl, sym, ap, ◌∙◌}
use borrow.Author.Tests.{eq-eqb, ne_eqb}
use Rattle.strings.specs.Pick.{pick}
use Rattle.std.specs.Prelude.{Result, Ok, Err}
use Rattle.strings.specs.declared.Refusal.{Refusal}
use Rattle.strings.specs.declared.Refusal.TheVariants.{Nothing}
use Rattle.strings.specs.Numbers.{Test, test, answer_of}
use Rattle.strings.proofs.Answer.{refusal_same, not_taken}
use Rattle.strings.proofs.Below.{both}
use Rattle.records.specs.declared.named.String5.{String5}
use Rattle.channel.specs.declared.Row.{Row}
use Rattle.channel.specs.Frame.{Frame}
use Rattle.immediate.specs.Kept.{has_record}
use Rattle.channel.specs.Row.{is_present, holds_frame, string_in, frame_of, still_holds}
use Rattle.channel.specs.History.{held_after}
use Rattle.channel.proofs.Frames.{present_held}
use Rattle.channel.proofs.HeldFrame.{held_is}
use Rattle.channel.proofs.StillHeld.{still_held}
use Rattle.station.specs.declared.Station.{Station}
use Rattle.station.specs.Station.{row_at, held_at, is_served, Enters}
use Rattle.station.specs.History.{Call, calls_on, Runs}
use Rattle.station.specs.Isolation.{AgreeFor}
use Rattle.station.proofs.Served.{open_says, shut_says_lem, entered, shut_not_zero, served_below, owner_is}
use Rattle.station.proofs.ChannelRuns.{in_step}
use Rattle.station.proofs.Isolation.{by_row}
use Rattle.navigation_queries.specs.Five.{has_five, five_of, is_five_at, five_at, five_paper, FindsFive}
use Rattle.navigation_queries.specs.Laws.{has_both, FiveAfter}

-- what was found is one thing, and a query that was refused found nothing
pub one_five : {w v : String5} → ◌≡◌ {A = Result String5 Refusal} (Ok w) (Ok v) → w ≡ v
one_five q = cc

pub no_five : {r : Refusal} {w v : String5} → Err r ≡ Ok w → w ≡ v
no_five q = cc

-- ---- whether a row has it
module _ (row : Row) where
  pub no_record_no_five : has_record row.immediate ≡ false → false ≡ has_five row
  unfolding has_five
  no_record_no_five e = rw e

  pub apart_no_five : (row.immediate.start ≡ row.start → ⊥) → false ≡ has_five row
  unfolding has_five
  apart_no_five n = rw (ne_eqb row.immediate.start row.start n) (by (has_record row.immediate) (holds_frame row.present) (is_present row.present 5))
    where
      by : (t u v : Bool) → false ≡ ((t && (u && false)) && v)
      by true true v = refl
      by true false v = refl
      by false u v = refl

  -- a row that has string 5 holds a frame
  pub five_present : has_record row.immediate ≡ true → row.immediate.start ≡ row.start → is_present row.present 5 ≡ has_five row
  unfolding has_five
  five_present r e =
      rw (r, eq-eqb row.immediate.start row.start e) (by (holds_frame row.present) (is_present row.present 5) (present_held row.present 5))
    where
      by : (u v : Bool) → (v ≡ true → u ≡ true) → v ≡ ((u && true) && v)
      by true v h = refl
      by false true h = absurd (false≢true (h refl))
      by false false h = refl

  pub text_there : has_five row ≡ true → (frame_of row).text 5 ≡ string_in row.strings 5
  unfolding has_five
  text_there h = rw (both (still_holds row) (is_present row.present 5) h).1

abbrev missing : Row → List Test
missing row = test 13 (not (has_five row)) ∷ []

-- ---- what the code finds
pub five_shut : (st : Station) (card c : ℕ) (why : Refusal) → Enters card c (Err why) → FindsFive st card c (Err why)
five_shut st card c why n = record { answer = n.1 ∙ sym (shut_says_lem card c (missing (row_at st c)) [] n.0); words = λ w q. no_five q }

module _ (st : Station) (card c i : ℕ) (n : Enters card c (Ok i)) where
  pub five_missing : has_five (row_at st i) ≡ false → FindsFive st card c (Err Nothing)
  five_missing h =
      entered (λ (k : ℕ). FindsFive st card k (Err Nothing)) card n
      (λ f. record { answer = sym (open_says card i (missing (row_at st i)) [] f ∙ rw h); words = λ w q. no_five q })

  pub five_there : has_five (row_at st i) ≡ true → (w : String5) → w ≡ five_at st i → FindsFive st card c (Ok w)
  five_there h w e =
      entered (λ (k : ℕ). FindsFive st card k (Ok w)) card n
      (λ f. record { answer = sym (open_says card i (missing (row_at st i)) [] f ∙ rw h); words = λ v q. sym (one_five q) ∙ e })

  -- string 5 that is there is the one among the row's strings
  pub five_found : has_five (row_at st i) ≡ true → (w : String5) → w ≡ five_of (string_in (row_at st i).strings 5) → FindsFive st card c (Ok w)
  five_found h w e = five_there h w (e ∙ ap five_of (sym (text_there (row_at st i) h)))

-- NO SECOND ANSWER FITS
pub fives_once : (st : Station) (card c : ℕ) (r q : Result String5 Refusal) → FindsFive st card c r → FindsFive st card c q → r ≡ q
fives_once st card c (Ok w) (Ok v) a b = ap Ok (a.words w refl ∙ sym (b.words v refl))
fives_once st card c (Ok w) (Err q) a b = absurd (not_taken q [] (b.answer ∙ sym a.answer))
fives_once st card c (Err p) (Ok v) a b = absurd (not_taken p [] (a.answer ∙ sym b.answer))
fives_once st card c (Err p) (Err q) a b = ap Err (refusal_same p q (a.answer ∙ sym b.answer))

-- ---- a card's own rows
-- A CARD'S ANSWER IS BY ITS OWN ROWS
module _ (card : ℕ) (st st' : Station) (agree : AgreeFor card st st') where
  pub fives_alike : (c : ℕ) (r r' : Result String5 Refusal) → FindsFive st card c r → FindsFive st' card c r' → r ≡ r'
  fives_alike c r r' a b = by r r' (a.answer ∙ by_row card st st' agree c missing (λ x. []) ∙ sym b.answer) a b
    where
      by : (r r' : Result String5 Refusal) → five_paper r ≡ five_paper r' → FindsFive st card c r → FindsFive st' card c r' → r ≡ r'
      by (Ok w) (Ok v) e a b = ap Ok (words (is_served card c) refl)
        where
          words : (t : Bool) → is_served card c ≡ t → w ≡ v
          words true q = a.words w refl ∙ ap (λ (x : Row). five_of ((frame_of x).text 5)) (agree c (served_below card c q) (owner_is card c q)) ∙ sym (b.words v refl)
          words false q = absurd (shut_not_zero card c q (a.answer ∙ shut_says_lem card c (missing (row_at st c)) [] q))
      by (Ok w) (Err q) e a b = absurd (not_taken q [] (sym e))
      by (Err p) (Ok v) e a b = absurd (not_taken p [] e)
      by (Err p) (Err q) e a b = ap Err (refusal_same p q e)

-- ---- over any calls
module _ (cs : List Call) (st : Station) (run : Runs cs st) (card c : ℕ) (served : is_served card c ≡ true) where
  abbrev frame : Frame
  frame = held_after (calls_on c cs)

  frame_is : held_at st c ≡ frame
  frame_is = held_is (calls_on c cs) (row_at st c) ((in_step cs st run).run c (served_below card c served))

  there_is : is_five_at st c ≡ has_both frame
  unfolding has_five
  there_is =
      ap (λ (t : Bool). t && (held_at st c).has 5) (still_held (calls_on c cs) (row_at st c) ((in_step cs st run).run c (served_below card c served)))
      ∙ ap has_both frame_is

  -- STRING 5 IS THERE EXACTLY WHERE THE HELD FRAME IS THE RECORD'S AND HAS IT
  pub five_after : FiveAfter cs st card c
  five_after =
      record {
        answer = λ r a. a.answer ∙ open_says card c (missing (row_at st c)) [] served ∙ ap (λ (t : Bool). answer_of (test 13 (not t) ∷ []) []) there_is ∙ by (has_both frame);
        words = ap (λ (f : Frame). five_of (f.text 5)) frame_is;
      }
    where
      by : (t : Bool) → answer_of (test 13 (not t) ∷ []) [] ≡ pick t (0 ∷ []) (13 ∷ [])
      by true = refl
      by false = refl
