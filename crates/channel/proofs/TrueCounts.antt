-- The tallies of a row are the true counts of the answers since the reset (tallies-are): each is the lesser of 4,294,967,295 and how many answers of its
-- sort the calls determine. The sorts add up to offered and the causes to refused (tallies-add-up).
-- Assumes nothing.
use mathlib.Core.Path.{◌≡◌, refl, sym, ap, ap₂, subst, ◌∙◌}
use mathlib.Core.Bool.{Bool, true, false}
use mathlib.Core.List.{List, [], ◌∷◌, ◌++◌}
use mathlib.Core.Logic.{◌⊎◌, inl, inr}
use Prim.Native.Nat.{ℕ, zero, suc}
use native.Mathlib.Omega.{arith}
use borrow.Author.Tests.{ne_eqb}
use lib.Dec.{eqb}
use Rattle.strings.specs.Pick.{pick}
use Rattle.strings.specs.declared.Verdict.{Verdict}
use Rattle.strings.specs.declared.Verdict.TheVariants.{Clean, Repaired}
use Rattle.strings.specs.Numbers.{first_of, place_of, said_by}
use Rattle.words.specs.Calls.{number_in}
use Rattle.channel.specs.declared.News.{News}
use Rattle.channel.specs.declared.Row.{Row}
use Rattle.tallies.specs.declared.Tallies.{Tallies}
use Rattle.tallies.specs.Tallies.{Outcome, after_offer, after_offers}
use Rattle.tallies.specs.Tallies.Outcome.{Refused, Taken}
use Rattle.tallies.specs.Counts.{TrueCounts, has_cause, have_causes, OneCause, AddUp}
use Rattle.channel.specs.Frame.{Frame, news_of}
use Rattle.channel.specs.Row.{frame_of, empty_row, counted}
use Rattle.hearing.specs.Hears.{whole_of, verdict_in}
use Rattle.channel.specs.Offers.{told_as, taken_row, offer_tests, offered_row}
use Rattle.channel.specs.History.{Call, Offer, Reset, held_after, said_to, said_since, counts_as, outcomes, Runs, fresh, offering, resetting}
use Rattle.tallies.proofs.Counts.{true_counts_lem}
use Rattle.tallies.proofs.AddUp.{add_up_lem}
use Rattle.channel.proofs.HeldFrame.{offered_is, held_is}
use Rattle.channel.proofs.Counting.{ten_are_all}

-- ---- what an answer counts as
counts_as_lem : (k : ℕ) (place : List ℕ) (m : ℕ) (v : Verdict) (w : News) (b : ℕ) → counts_as (said_by k place (told_as m v w ++ (b ∷ []))) ≡ pick (eqb k 0) (Taken v) (Refused k)
counts_as_lem zero place m Clean w b = refl
counts_as_lem zero place m (Repaired i) w b = refl
counts_as_lem (suc k) place m v w b = rw (ne_eqb (suc k) 0 (λ z. omega arith))

-- ---- the tallies move by what the answer counts as, in any row
pub tallies_after : (row : Row) (epoch : ℕ) (s : List ℕ) → (offered_row row epoch s).tallies ≡ after_offer (counts_as (said_to (frame_of row) epoch s)) row.tallies
unfolding counted taken_row
tallies_after row epoch s =
    let tests = offer_tests (frame_of row) epoch s in
    ap₂ (λ (o : Outcome) (t : Tallies). after_offer o t)
    (sym (counts_as_lem (first_of tests) (place_of tests) (number_in (whole_of s)) (verdict_in s) (news_of (frame_of row) epoch (whole_of s)) _)) (by (eqb (first_of tests) 0))
  where
    -- nothing before counts
    by : (t : Bool) → (pick t (taken_row row epoch (whole_of s)) row).tallies ≡ row.tallies
    by true = refl
    by false = refl

-- ---- over a history
tallies_run : (cs : List Call) (row : Row) → Runs cs row → row.tallies ≡ after_offers (outcomes cs)
unfolding said_since empty_row
tallies_run cs row fresh = refl
tallies_run cs row (offering epoch s ds before r run o) =
    ap (λ (x : Row). x.tallies) (offered_is before epoch s r o) ∙ tallies_after before epoch s
    ∙ ap₂ (λ (f : Frame) (t : Tallies). after_offer (counts_as (said_to f epoch s)) t) (held_is ds before run) (tallies_run ds before run)
tallies_run cs row (resetting ds before run) = refl

-- THE TALLIES ARE THE TRUE COUNTS SINCE THE RESET, and stay at their limit
pub tallies_are : (cs : List Call) (row : Row) → Runs cs row → TrueCounts (outcomes cs) row.tallies
tallies_are cs row run = subst (TrueCounts (outcomes cs)) (sym (tallies_run cs row run)) (true_counts_lem (outcomes cs))

-- each answer that says no has one of the ten numbers
caused : (v : Verdict) (k : ℕ) → (k ≡ 0) ⊎ OneCause k → has_cause (pick (eqb k 0) (Taken v) (Refused k)) ≡ true
caused v k (inl z) = rw z
caused v k (inr c) = by (eqb k 0)
  where
    by : (t : Bool) → has_cause (pick t (Taken v) (Refused k)) ≡ true
    by true = refl
    by false = c.among

has_cause_lem : (f : Frame) (epoch : ℕ) (s : List ℕ) → has_cause (counts_as (said_to f epoch s)) ≡ true
has_cause_lem f epoch s =
    let tests = offer_tests f epoch s in
    ap has_cause (counts_as_lem (first_of tests) (place_of tests) (number_in (whole_of s)) (verdict_in s) (news_of f epoch (whole_of s)) _)
    ∙ caused _ (first_of tests) (ten_are_all f epoch s)

have_causes_lem : (cs : List Call) → have_causes (outcomes cs) ≡ true
unfolding said_since
have_causes_lem [] = refl
have_causes_lem (Offer epoch s ∷ cs) = rw (has_cause_lem (held_after cs) epoch s) (have_causes_lem cs)
have_causes_lem (Reset ∷ cs) = refl

pub tallies_add_up : (cs : List Call) (row : Row) → Runs cs row → AddUp (outcomes cs) row.tallies
tallies_add_up cs row run = add_up_lem (outcomes cs) row.tallies (have_causes_lem cs) (tallies_are cs row run)
