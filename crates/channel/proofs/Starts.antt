-- While a frame is held, what is taken starts with it or 15 or more later, and nothing else; STALE and OFF BEAT are told of what starts elsewhere (starts).
-- Assumes nothing.
use mathlib.Core.Path.{◌≡◌, refl, ◌∙◌}
use mathlib.Core.Bool.{Bool, true, false, ◌&&◌}
use mathlib.Core.List.{List, [], ◌∷◌}
use mathlib.Core.Logic.{◌⊎◌, inl, inr}
use Prim.Native.Nat.{ℕ, ◌+◌, ◌%◌, ◌≤◌, ◌<◌}
use native.Mathlib.Omega.{arith}
use borrow.Author.Tests.{eq-eqb, ne_eqb, lt-ltb, le-ltb, ltb-false}
use lib.Dec.{ltb}
use Rattle.hearing.specs.Hears.{whole_of}
use Rattle.channel.specs.declared.Row.{Row}
use Rattle.channel.specs.declared.Offered.{Offered}
use Rattle.channel.specs.Row.{is_present, holds_frame, frame_of}
use Rattle.channel.specs.Offers.{answer_paper, Offers}
use Rattle.channel.specs.Laws.{IsTaken, m_in, start_at, mask_bit, HoldsFrame, Passes, Starts}
use Rattle.channel.proofs.Frames.{number_small}
use Rattle.channel.proofs.Tested.{held_true, held_false, present_is, none_fits_lem, taken_first, passed_said, passed_first}

module _ (row : Row) (epoch : ℕ) (s : List ℕ) (r : Offered) (o : Offers row epoch s r) where
  abbrev at : ℕ
  at = start_at epoch s

  only : HoldsFrame row → IsTaken r → (at ≡ row.start) ⊎ (row.start + 15 ≤ at)
  only h t =
      let z = none_fits_lem (frame_of row) epoch s (taken_first row epoch s r o t) in
      let u = held_true row h in
      let from = ltb-false at row.start (rw u at z.seven) in
      by from (ltb row.start at) (ltb at (row.start + 15)) refl refl (rw u at z.eight)
    where
      by : row.start ≤ at → (a b : Bool) → ltb row.start at ≡ a → ltb at (row.start + 15) ≡ b → (a && b) ≡ false
          → (at ≡ row.start) ⊎ (row.start + 15 ≤ at)
      by l true b p q e = inr (ltb-false at (row.start + 15) (q ∙ e))
      by l false b p q e = let m = ltb-false row.start at p in inl (omega arith)

  module _ (p : Passes epoch s) where
    stale : HoldsFrame row → at < row.start → answer_paper r.answer ≡ 7 ∷ []
    stale h l = passed_said row epoch s r o p ∙ rw (held_true row h, lt-ltb at row.start l)

    off_beat : HoldsFrame row → row.start < at → at < row.start + 15 → answer_paper r.answer ≡ 8 ∷ []
    off_beat h l u =
        passed_said row epoch s r o p
        ∙ rw (held_true row h, le-ltb at row.start (omega arith), lt-ltb row.start at l, lt-ltb at (row.start + 15) u)

    -- no number of 7 to 9 fits
    first : row.present % 32768 ≡ 0 → IsTaken r
    first e = passed_first row epoch s r o p ∙ rw (held_false row e)

    later : row.start + 15 ≤ at → IsTaken r
    later l = by (holds_frame row.present) refl
      where
        by : (u : Bool) → holds_frame row.present ≡ u → IsTaken r
        by true u =
            passed_first row epoch s r o p
            ∙ rw (
              u,
              le-ltb at row.start (omega arith),
              lt-ltb row.start at (omega arith),
              le-ltb at (row.start + 15) l,
              ne_eqb at row.start (λ q. omega arith),
            )
        by false u = passed_first row epoch s r o p ∙ rw u

    late : at ≡ row.start → mask_bit row (m_in s) ≡ 0 → IsTaken r
    late e b = by (holds_frame row.present) refl
      where
        absent : is_present row.present (m_in s) ≡ false
        absent = present_is row (m_in s) p.numbered (number_small (whole_of s)) ∙ ne_eqb (mask_bit row (m_in s)) 1 (λ q. omega arith)

        by : (u : Bool) → holds_frame row.present ≡ u → IsTaken r
        by true u =
            passed_first row epoch s r o p
            ∙ rw (u, le-ltb at row.start (omega arith), le-ltb row.start at (omega arith), eq-eqb at row.start e, absent)
        by false u = passed_first row epoch s r o p ∙ rw u

-- WHAT STARTS WHERE
pub starts : (row : Row) (epoch : ℕ) (s : List ℕ) (r : Offered) → Offers row epoch s r → Starts row epoch s r
starts row epoch s r o =
    record {
      only = only row epoch s r o;
      stale = λ h p. stale row epoch s r o p h;
      off_beat = λ h p. off_beat row epoch s r o p h;
      later = later row epoch s r o;
      first = first row epoch s r o;
      late = late row epoch s r o;
    }
