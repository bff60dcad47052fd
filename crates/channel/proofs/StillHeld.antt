-- Frames only go on, so a start tells a frame: a channel's record has a frame that is held, or one that began before it (not-later); and where the two starts are the
-- same, it is the held frame itself, whose strings 1..4 are there and in range (same_start). So of the row that any calls left (still-held).
-- Assumes nothing.
use mathlib.Core.Path.{◌≡◌, refl, sym, ap, ◌∙◌}
use mathlib.Core.Bool.{Bool, true, false, true≢false, false≢true}
use mathlib.Core.List.{List, [], ◌∷◌}
use Prim.Native.Nat.{ℕ, ◌≤◌, ◌<◌}
use native.Mathlib.Omega.{arith}
use borrow.Author.Tests.{eqb-true, eqb-false, eq-eqb, lt-leb, ltb-false}
use lib.Arith.{lt_of_le-ne}
use lib.Dec.{eqb, leb}
use Rattle.strings.specs.Pick.{pick}
use Rattle.strings.specs.Numbers.{first_of}
use Rattle.strings.proofs.Below.{both}
use Rattle.words.specs.Calls.{number_in}
use Rattle.hearing.specs.Hears.{whole_of}
use Rattle.immediate.specs.Kept.{has_record}
use Rattle.channel.specs.declared.Row.{Row}
use Rattle.channel.specs.Frame.{Frame, empty_frame, with_string, start_of, is_of_frame, is_here, frame_for, after_string, is_complete}
use Rattle.channel.specs.Row.{frame_of, still_holds}
use Rattle.channel.specs.Offers.{offer_tests}
use Rattle.channel.specs.History.{Call, Offer, Reset, frame_after, held_after, makes_record, four_of, of_latest, record_after, record_start, Runs}
use Rattle.channel.proofs.Tested.{none_fits_lem}
use Rattle.channel.proofs.HeldFrame.{taken_numbered, held_is}
use Rattle.channel.proofs.LatestRecord.{later_makes, record_now, not_empty, record_there, record_is, start_is}

-- a frame with a string is held
string_held : (cs : List Call) (m : ℕ) → (held_after cs).has m ≡ true → (held_after cs).held ≡ true
unfolding held_after
string_held [] m h = absurd (false≢true h)
string_held (Offer epoch s ∷ cs) m h =
    by (eqb (first_of (offer_tests (held_after cs) epoch s)) 0) (is_here (held_after cs) epoch (whole_of s)) (string_held cs m) h
  where
    by : (t u : Bool) → ((held_after cs).has m ≡ true → (held_after cs).held ≡ true)
        → (pick t (pick u (held_after cs) (with_string (frame_for (held_after cs) (start_of epoch (whole_of s))) (whole_of s))) (held_after cs)).has m ≡ true
        → (pick t (pick u (held_after cs) (with_string (frame_for (held_after cs) (start_of epoch (whole_of s))) (whole_of s))) (held_after cs)).held ≡ true
    by true true before e = before e
    by true false before e = refl
    by false u before e = before e
string_held (Reset ∷ cs) m h = absurd (false≢true h)

-- strings 1..4 of a frame that makes a record
module _ (f : Frame) (makes : makes_record f ≡ true) where
  four_there : f.has 1 ≡ true
  four_there = (both (f.has 1) _ (both (is_complete f) _ makes).0).0

  -- a string that is not there is above 4
  absent_above : (k : ℕ) → 1 ≤ k → f.has k ≡ false → leb k 4 ≡ false
  absent_above k least absent =
      let all = (both (is_complete f) _ makes).0 in
      let rest = (both (f.has 1) _ all).1 in
      let last = (both (f.has 2) _ rest).1 in
      let apart : (i : ℕ) → f.has i ≡ true → k ≡ i → ⊥ = (λ i there e. true≢false (sym there ∙ ap f.has (sym e) ∙ absent)) in
      let a : 1 < k = lt_of_le-ne least (λ e. apart 1 (both (f.has 1) _ all).0 (sym e)) in
      let b : 2 < k = lt_of_le-ne (omega (arith, a)) (λ e. apart 2 (both (f.has 2) _ rest).0 (sym e)) in
      let c : 3 < k = lt_of_le-ne (omega (arith, b)) (λ e. apart 3 (both (f.has 3) (f.has 4) last).0 (sym e)) in
      let d : 4 < k = lt_of_le-ne (omega (arith, c)) (λ e. apart 4 (both (f.has 3) (f.has 4) last).1 (sym e)) in
      lt-leb k 4 d

-- ---- the record's frame and the held one, after any calls
pub record Goes (start : ℕ) (f : Frame) : Type 0 where
  pub is_held : f.held ≡ true
  pub not_later : start ≤ f.start
  pub same_start : start ≡ f.start → makes_record f ≡ true

-- a string that is taken, in a frame where a record goes
module _ (f : Frame) (epoch : ℕ) (s : List ℕ) (start : ℕ) (goes : Goes start f) (taken : first_of (offer_tests f epoch s) ≡ 0) where
  abbrev n : ℕ
  n = whole_of s

  abbrev at : ℕ
  at = start_of epoch n

  -- one of a later frame starts later
  new_later : is_of_frame f at ≡ false → f.start < at
  new_later q =
      let z = none_fits_lem f epoch s taken in
      let h = goes.is_held in
      let from = ltb-false at f.start (rw h at z.seven) in
      let apart = eqb-false at f.start (rw h at q) in
      omega (arith, from, apart)

  stored_goes : is_here f epoch n ≡ false → Goes start (with_string (frame_for f at) n)
  stored_goes absent = by (is_of_frame f at) refl
    where
      by : (t : Bool) → is_of_frame f at ≡ t → Goes start (with_string (pick t f (empty_frame at)) n)
      by true q =
          record {
            is_held = refl;
            not_later = goes.not_later;
            same_start =
                λ e. let m = goes.same_start e in
                later_makes f n (absent_above f m (number_in n) (taken_numbered f epoch s taken) (rw q at absent)) ∙ m;
          }
      by false q =
          let l = new_later q in
          let u = goes.not_later in
          record { is_held = refl; not_later = omega arith; same_start = λ e. absurd (omega (arith, e)) }

  taken_goes : Goes start (after_string f epoch n)
  taken_goes = by (is_here f epoch n) refl
    where
      by : (t : Bool) → is_here f epoch n ≡ t → Goes start (pick t f (with_string (frame_for f at) n))
      by true q = goes
      by false q = stored_goes q

after_goes : (f : Frame) (epoch : ℕ) (s : List ℕ) (start : ℕ) → Goes start f → Goes start (frame_after f epoch s)
after_goes f epoch s start goes = by (eqb (first_of (offer_tests f epoch s)) 0) refl
  where
    by : (t : Bool) → eqb (first_of (offer_tests f epoch s)) 0 ≡ t → Goes start (pick t (after_string f epoch (whole_of s)) f)
    by true q = taken_goes f epoch s start goes (eqb-true (first_of (offer_tests f epoch s)) 0 q)
    by false q = goes

held_goes : (cs : List Call) (epoch : ℕ) (s : List ℕ) (start : ℕ) → Goes start (held_after cs) → Goes start (held_after (Offer epoch s ∷ cs))
unfolding held_after
held_goes cs epoch s start goes = after_goes (held_after cs) epoch s start goes

pub record_goes : (cs : List Call) → (record_after cs ≡ [] → ⊥) → Goes (record_start cs) (held_after cs)
unfolding of_latest
record_goes [] n = absurd (n refl)
record_goes (Offer epoch s ∷ cs) n = by (makes_record (held_after (Offer epoch s ∷ cs))) refl n (λ m. held_goes cs epoch s (record_start cs) (record_goes cs m))
  where
    by : (t : Bool) → makes_record (held_after (Offer epoch s ∷ cs)) ≡ t
        → (pick t (four_of (held_after (Offer epoch s ∷ cs))) (record_after cs) ≡ [] → ⊥) → ((record_after cs ≡ [] → ⊥) → Goes (record_start cs) (held_after (Offer epoch s ∷ cs)))
        → Goes (pick t (held_after (Offer epoch s ∷ cs)).start (record_start cs)) (held_after (Offer epoch s ∷ cs))
    by true q m before =
        record {
          is_held = string_held (Offer epoch s ∷ cs) 1 (four_there (held_after (Offer epoch s ∷ cs)) q);
          not_later = omega arith;
          same_start = λ e. q;
        }
    by false q m before = before m
record_goes (Reset ∷ cs) n = absurd (n refl)

-- ---- in the row
-- THE ROW STILL HOLDS THE FRAME OF ITS RECORD EXACTLY WHERE ITS FRAME HAS STRINGS 1..4, IN RANGE
pub still_held : (cs : List Call) (row : Row) → Runs cs row → still_holds row ≡ makes_record (frame_of row)
still_held cs row run = by (still_holds row) refl (makes_record (frame_of row)) refl
  where
    h : frame_of row ≡ held_after cs
    h = held_is cs row run

    by : (t : Bool) → still_holds row ≡ t → (u : Bool) → makes_record (frame_of row) ≡ u → t ≡ u
    by true p true q = refl
    by false p false q = refl
    by true p false q =
        let x = both (has_record row.immediate) _ p in
        let y = both (frame_of row).held _ x.1 in
        let g = record_goes cs (λ e. (record_there row.immediate).0 x.0 (record_is cs row run ∙ e)) in
        let e = sym (start_is cs row run) ∙ eqb-true row.immediate.start row.start y.1 ∙ ap (λ (f : Frame). f.start) h in
        absurd (true≢false (sym (g.same_start e) ∙ ap makes_record (sym h) ∙ q))
    by false p true q =
        let m = ap makes_record (sym h) ∙ q in
        let there = (record_there row.immediate).1 (λ e. not_empty _ _ (sym (record_is cs row run ∙ record_now [] four_of cs m) ∙ e)) in
        let held = ap (λ (f : Frame). f.held) h ∙ string_held cs 1 (four_there (held_after cs) m) in
        let same = start_is cs row run ∙ record_now 0 (λ (f : Frame). f.start) cs m ∙ ap (λ (f : Frame). f.start) (sym h) in
        absurd (true≢false (sym (rw (there, held, eq-eqb row.immediate.start row.start same)) ∙ p))
