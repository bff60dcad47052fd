-- The news of a string that is taken, said of the mask and of the bits of strings 1 and 2 that it leaves (news).
-- Assumes nothing.
use mathlib.Core.Path.{◌≡◌, refl, sym, ap, ◌∙◌}
use mathlib.Core.Bool.{Bool, true, false, ◌&&◌}
use mathlib.Core.List.{List, [], ◌∷◌, ◌++◌}
use Prim.Native.Nat.{ℕ, zero, suc, ◌-◌, ◌/◌, ◌%◌, ◌^◌, ◌≤◌}
use native.Mathlib.Omega.{arith}
use borrow.Author.Tests.{eq-eqb, eqb-true, le-leb, leb-true}
use lib.Dec.{eqb, leb, lit≤}
use lib.ListN.{length, get_or}
use Rattle.strings.specs.Pick.{pick}
use Rattle.strings.specs.declared.Verdict.{Verdict}
use Rattle.strings.specs.declared.Verdict.TheVariants.{Clean, Repaired}
use Rattle.strings.proofs.Digits.{low_digit}
use Rattle.immediate.specs.Kept.{are_good}
use Rattle.immediate.specs.Ranges.{InRange}
use Rattle.immediate.proofs.Ranges.{good_exactly}
use Rattle.hearing.specs.Hears.{whole_of, verdict_in}
use Rattle.channel.specs.declared.News.{News}
use Rattle.channel.specs.declared.News.TheVariants.{AlreadyHeld, Kept, RecordBuilt, RecordOutOfRange}
use Rattle.channel.specs.declared.Row.{Row}
use Rattle.channel.specs.declared.Offered.{Offered}
use Rattle.channel.specs.Frame.{Frame, with_string, start_of, is_here, frame_for, after_string, news_at, news_of}
use Rattle.channel.specs.Row.{frame_of}
use Rattle.channel.specs.Offers.{news_number, told_as, Offers}
use Rattle.channel.specs.Laws.{said, IsTaken, m_in, IsHeld, FourPresent, Completes, NewsTold}
use Rattle.channel.proofs.Four.{low_four, news_is}
use Rattle.channel.proofs.HeldFrame.{offered_is, frame_after_lem}
use Rattle.channel.proofs.Tested.{is_here_lem, not_here, taken_passes, taken_told, taken_test}

-- ---- strings 1..4 are present where the four low bits of the mask are set
four_low : (row : Row) → FourPresent row → row.present % 16 ≡ 15
four_low row h =
    let a = h 1 (lit≤ tt) (lit≤ tt) in
    let b = h 2 (lit≤ tt) (lit≤ tt) in
    let c = h 3 (lit≤ tt) (lit≤ tt) in
    let d = h 4 (lit≤ tt) (lit≤ tt) in
    omega (arith, low_four row.present)

low_four_all : (row : Row) → row.present % 16 ≡ 15 → FourPresent row
low_four_all row e m l u = sym (low_digit row.present 4 (m - 1) (omega arith)) ∙ ap (λ (x : ℕ). x / 2 ^ (m - 1) % 2) e ∙ fifteen m l u
  where
    fifteen : (m : ℕ) → 1 ≤ m → m ≤ 4 → 15 / 2 ^ (m - 1) % 2 ≡ 1
    fifteen zero l u = absurd (omega arith)
    fifteen (suc zero) l u = refl
    fifteen (suc (suc zero)) l u = refl
    fifteen (suc (suc (suc zero))) l u = refl
    fifteen (suc (suc (suc (suc zero)))) l u = refl
    fifteen (suc (suc (suc (suc (suc m))))) l u = absurd (omega arith)

-- ---- the fifth number of a taken answer is its news
fifth : (m : ℕ) (v : Verdict) (w : News) (b : ℕ) → get_or (0 ∷ (told_as m v w ++ (b ∷ []))) 4 0 ≡ news_number w
fifth m Clean w b = refl
fifth m (Repaired i) w b = refl

module _ (row : Row) (epoch : ℕ) (s : List ℕ) (r : Offered) (long : length row.strings ≡ 165) (o : Offers row epoch s r) (t : IsTaken r) where
  abbrev n : ℕ
  n = whole_of s

  -- the frame with the string
  abbrev more : Frame
  more = with_string (frame_for (frame_of row) (start_of epoch n)) n

  abbrev news_by : Bool → News
  news_by here = pick here AlreadyHeld (news_at more (m_in s))

  news_said : (here : Bool) → is_here (frame_of row) epoch n ≡ here → said r 4 ≡ news_number (news_by here)
  news_said here e =
      ap (λ (l : List ℕ). get_or l 4 0) (taken_told row epoch s r o t) ∙ fifth (m_in s) (verdict_in s) (news_of (frame_of row) epoch n) _
      ∙ ap (λ (b : Bool). news_number (news_by b)) e

  least : 1 ≤ m_in s
  least = (taken_passes row epoch s r o t).numbered

  held : IsHeld row epoch s → said r 4 ≡ 0
  held h = news_said true (is_here_lem row epoch s least h)

  module _ (fresh : IsHeld row epoch s → ⊥) where
    -- the row then holds the frame with the string
    row_more : frame_of r.row ≡ more
    row_more =
        ap frame_of (offered_is row epoch s r o) ∙ frame_after_lem row epoch s long
        ∙ ap (λ (b : Bool). pick b (after_string (frame_of row) epoch n) (frame_of row)) (taken_test row epoch s r o t)
        ∙ ap (λ (b : Bool). pick b (frame_of row) more) (not_here row epoch s least fresh)

    abbrev completes : Bool
    completes = leb (m_in s) 4 && eqb (r.row.present % 16) 15

    news-new : said r 4 ≡ news_number (pick completes (pick (are_good r.row.strings) RecordBuilt RecordOutOfRange) Kept)
    news-new =
        news_said false (not_here row epoch s least fresh) ∙ ap (λ (f : Frame). news_number (news_at f (m_in s))) (sym row_more)
        ∙ ap news_number (news_is r.row.start r.row.present r.row.strings (m_in s))

    does : Completes s r → completes ≡ true
    does c = rw (le-leb (m_in s) 4 c.0, eq-eqb (r.row.present % 16) 15 (four_low r.row c.1))

    built : Completes s r → InRange r.row.strings → said r 4 ≡ 2
    built c i =
        news-new
        ∙ ap (λ (b : Bool). news_number (pick b (pick (are_good r.row.strings) RecordBuilt RecordOutOfRange) Kept)) (does c)
        ∙ ap (λ (b : Bool). news_number (pick b RecordBuilt RecordOutOfRange)) ((good_exactly r.row.strings).1 i)

    out_of_range : Completes s r → (InRange r.row.strings → ⊥) → said r 4 ≡ 3
    out_of_range c i =
        news-new
        ∙ ap (λ (b : Bool). news_number (pick b (pick (are_good r.row.strings) RecordBuilt RecordOutOfRange) Kept)) (does c)
        ∙ by (are_good r.row.strings) refl
      where
        by : (b : Bool) → are_good r.row.strings ≡ b → news_number (pick b RecordBuilt RecordOutOfRange) ≡ 3
        by true e = absurd (i ((good_exactly r.row.strings).0 e))
        by false e = refl

    kept : (Completes s r → ⊥) → said r 4 ≡ 1
    kept c = news-new ∙ by (leb (m_in s) 4) (eqb (r.row.present % 16) 15) refl refl
      where
        by : (a b : Bool) → leb (m_in s) 4 ≡ a → eqb (r.row.present % 16) 15 ≡ b
            → news_number (pick (a && b) (pick (are_good r.row.strings) RecordBuilt RecordOutOfRange) Kept) ≡ 1
        by true true p q = absurd (c (leb-true (m_in s) 4 p, low_four_all r.row (eqb-true (r.row.present % 16) 15 q)))
        by true false p q = refl
        by false b p q = refl

-- THE NEWS OF A STRING THAT IS TAKEN
pub news : (row : Row) (epoch : ℕ) (s : List ℕ) (r : Offered) → length row.strings ≡ 165 → Offers row epoch s r → IsTaken r → NewsTold row epoch s r
news row epoch s r long o t =
    record {
      held = held row epoch s r long o t;
      built = built row epoch s r long o t;
      out_of_range = out_of_range row epoch s r long o t;
      kept = kept row epoch s r long o t;
    }
