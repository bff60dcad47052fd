-- What an offer counts, in any row. The ten causes are all (ten-are-all): so a refused offer changes nothing but three tallies, of which one is that of the
-- number it was answered (refused-only). A taken one moves no cause (taken-counted).
-- Assumes nothing.
use mathlib.Core.Path.{◌≡◌, refl, sym, ap, subst, ◌∙◌}
use mathlib.Core.Bool.{Bool, true, false, ◌||◌, true≢false}
use mathlib.Core.List.{List, [], ◌∷◌, ◌++◌}
use mathlib.Core.Logic.{◌⊎◌, inl, inr, ⊎_elim}
use Prim.Native.Nat.{ℕ}
use borrow.Author.Tests.{eq-eqb, ne_eqb}
use lib.Dec.{eqb}
use lib.ListN.{get_or}
use Rattle.strings.specs.Pick.{pick, is_one_of}
use Rattle.strings.specs.Number.{number_of}
use Rattle.strings.specs.Numbers.{Test, first_of, place_of, said_by, numbers_of}
use Rattle.strings.specs.Calls.{sound_tests}
use Rattle.words.specs.Calls.{number_in}
use Rattle.relative.specs.Polarity.{polarity_of}
use Rattle.relative.proofs.RelativeCode.{polarity_told}
use Rattle.tallies.specs.Tallies.{Outcome, is_clean, is_repaired, causes, cause_of, one_more_if, causes_after}
use Rattle.tallies.specs.Tallies.Outcome.{Refused, Taken}
use Rattle.tallies.specs.Counts.{OneCause}
use Rattle.tallies.proofs.Whose.{cause_after}
use Rattle.tallies.proofs.AddUp.{one_cause}
use Rattle.channel.specs.declared.Row.{Row}
use Rattle.channel.specs.declared.Offered.{Offered}
use Rattle.channel.specs.Frame.{Frame, news_of}
use Rattle.channel.specs.Row.{frame_of, counted}
use Rattle.hearing.specs.Hears.{whole_of, verdict_in}
use Rattle.channel.specs.Offers.{told_as, number_said, outcome_of, is_taken, OnlyCounted, TakenCounted, taken_row, offer_tests, Offers}
use Rattle.channel.specs.Laws.{TenAreAll}
use Rattle.channel.proofs.Answers.{counts_by}
use Rattle.channel.proofs.HeldFrame.{offered_is, said_by_lem, first_said, taken_exactly}

-- ---- THE TEN ARE ALL
or_later : (a b : Bool) → b ≡ true → (a || b) ≡ true
or_later true b e = refl
or_later false b e = e

-- no test fits, or the number of the first that does is one of theirs
one_of_theirs : (ts : List Test) → (first_of ts ≡ 0) ⊎ (is_one_of (numbers_of ts) (first_of ts) ≡ true)
one_of_theirs [] = inl refl
one_of_theirs (t ∷ ts) = by t.fits (one_of_theirs ts)
  where
    by : (b : Bool) → (first_of ts ≡ 0) ⊎ (is_one_of (numbers_of ts) (first_of ts) ≡ true)
        → (pick b t.number (first_of ts) ≡ 0) ⊎ (is_one_of (numbers_of (t ∷ ts)) (pick b t.number (first_of ts)) ≡ true)
    by true later = inr (ap (λ (x : Bool). x || is_one_of (numbers_of ts) t.number) (eq-eqb t.number t.number refl))
    by false later = ⊎_elim inl (λ m. inr (or_later (eqb (first_of ts) t.number) (is_one_of (numbers_of ts) (first_of ts)) m)) later

pub ten_are_all : (f : Frame) (epoch : ℕ) (s : List ℕ) → TenAreAll f epoch s
unfolding sound_tests
ten_are_all f epoch s =
    let k = first_of (offer_tests f epoch s) in
    ⊎_elim inl (λ (m : is_one_of causes k ≡ true). inr (one_cause k m)) (one_of_theirs (offer_tests f epoch s))

-- ---- A REFUSED OFFER CHANGES NOTHING BUT THREE TALLIES
-- the tallies of a refusal with one of the ten
module _ (number : ℕ) (among : is_one_of causes number ≡ true) (row : Row) where
  only_counted : OnlyCounted number row (counted (Refused number) row)
  unfolding counted
  only_counted =
      record {
        strings = refl;
        start = refl;
        present = refl;
        immediate = refl;
        offered = refl;
        clean = refl;
        repaired = refl;
        refused = refl;
        among = among;
        cause = cause_after (Refused number) row.tallies number among ∙ ap (λ (t : Bool). one_more_if t (cause_of row.tallies number)) (eq-eqb number number refl);
        others = λ (k : ℕ) m other.
            cause_after (Refused number) row.tallies k m
            ∙ ap (λ (t : Bool). one_more_if t (cause_of row.tallies k)) (ne_eqb number k (λ q. other (sym q)));
      }

module _ (row : Row) (epoch : ℕ) (s : List ℕ) (r : Offered) (o : Offers row epoch s r) where
  abbrev the_first : ℕ
  the_first = first_of (offer_tests (frame_of row) epoch s)

  -- the number that was answered is that of the first test that fits
  first_answered : number_said r.answer ≡ the_first
  first_answered = ap (λ (l : List ℕ). get_or l 0 0) (said_by_lem row epoch s r o) ∙ first_said (offer_tests (frame_of row) epoch s) _

  -- the row by whether it is taken
  left_by_lem : (t : Bool) → is_taken r.answer ≡ t → r.row ≡ counted (pick t (Taken (verdict_in s)) (Refused the_first)) (pick t (taken_row row epoch (whole_of s)) row)
  left_by_lem t n =
      offered_is row epoch s r o
      ∙ ap (λ (t : Bool). counted (pick t (Taken (verdict_in s)) (Refused the_first)) (pick t (taken_row row epoch (whole_of s)) row)) (sym (taken_exactly row epoch s r o) ∙ n)

  pub refused_only : is_taken r.answer ≡ false → OnlyCounted (number_said r.answer) row r.row
  refused_only n =
      let refused : eqb the_first 0 ≡ false = sym (taken_exactly row epoch s r o) ∙ n in
      subst (λ (k : ℕ). OnlyCounted k row r.row) (sym first_answered)
      (subst (OnlyCounted the_first row) (sym (left_by_lem false n))
      (⊎_elim (λ z. absurd (true≢false (sym (eq-eqb the_first 0 z) ∙ refused))) (λ (c : OneCause the_first). only_counted the_first c.among row)
      (ten_are_all (frame_of row) epoch s)))

  -- ---- A TAKEN OFFER MOVES NO CAUSE
  taken_as : is_taken r.answer ≡ true → outcome_of r.answer ≡ Taken (verdict_in s)
  taken_as n =
      let tests = offer_tests (frame_of row) epoch s in
      let w = news_of (frame_of row) epoch (whole_of s) in
      let told : ℕ → List ℕ = λ (b : ℕ). said_by the_first (place_of tests) (told_as (number_in (whole_of s)) (verdict_in s) w ++ (b ∷ [])) in
      counts_by (place_of tests) (number_in (whole_of s)) (verdict_in s) w (polarity_of (number_of s)) r.answer the_first
      (said_by_lem row epoch s r o ∙ ap told (sym (polarity_told (number_of s))))
      ∙ ap (λ (t : Bool). pick t (Taken (verdict_in s)) (Refused the_first)) (sym (taken_exactly row epoch s r o) ∙ n)

  pub taken_counted : is_taken r.answer ≡ true → TakenCounted r.answer row.tallies r.row.tallies
  unfolding counted taken_row causes_after
  taken_counted n =
      subst (λ (x : Row). TakenCounted r.answer row.tallies x.tallies) (sym (left_by_lem true n))
      (record {
        offered = refl;
        clean = ap (λ (a : Outcome). one_more_if (is_clean a) row.tallies.clean) (sym (taken_as n));
        repaired = ap (λ (a : Outcome). one_more_if (is_repaired a) row.tallies.repaired) (sym (taken_as n));
        refused = refl;
        causes_stay = refl;
      })
