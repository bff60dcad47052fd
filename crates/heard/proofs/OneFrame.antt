-- Fifteen strings of one frame in order leave that frame whole.
-- Assumes nothing.
use mathlib.Core.Path.{◌≡◌, refl, sym, ap, subst, ◌∙◌}
use mathlib.Core.Bool.{Bool, true, false, ◌&&◌}
use mathlib.Core.List.{List, [], ◌∷◌}
use Prim.Native.Nat.{ℕ, zero, suc, ◌+◌, ◌≤◌, ◌<◌}
use native.Mathlib.Omega.{arith}
use borrow.Author.Tests.{eqb-true, eqb-false, le-leb, leb-true}
use lib.Arith.{lt_of_le-ne}
use lib.Dec.{eqb, leb}
use Rattle.strings.specs.Pick.{pick}
use Rattle.channel.specs.declared.News.TheVariants.{RecordBuilt, RecordOutOfRange}
use Rattle.immediate.specs.Kept.{four_good}
use Rattle.channel.specs.Frame.{Frame, with_string, frame_for, news_at}
use Rattle.channel.specs.Offers.{news_number}
use Rattle.channel.specs.History.{Call, held_after, said_to}
use Rattle.sky.specs.Line.{relative_bytes}
use Rattle.heard.specs.Heard.{Sendable, offers, in_order, OneFrame, Ready, HasFirst, news_in, FrameHeard}
use Rattle.heard.proofs.Taking.{Opens, opens_first, opens_next, opens_frame, opens_said, opens_has}

-- ---- the news
built : (b : Bool) → news_number (pick b RecordBuilt RecordOutOfRange) ≡ pick b 2 3
built true = refl
built false = refl

none_of : (a b c : Bool) → (a && (b && (c && false))) ≡ false
none_of true true true = refl
none_of true true false = refl
none_of true false c = refl
none_of false b c = refl

news_is : (string : ℕ → ℕ) (e m : ℕ) (f : Frame) → HasFirst string e m f → news_number (news_at f m) ≡ news_in string m
news_is string e m f i = by (eqb m 4) (leb m 4) refl refl
  where
    by : (a b : Bool) → eqb m 4 ≡ a → leb m 4 ≡ b → news_number (news_at f m) ≡ news_in string m
    by true b p q =
        let z = eqb-true m 4 p in
        rw (
          p,
          le-leb m 4 (omega arith),
          i.has 1 (omega arith) (omega arith),
          i.has 2 (omega arith) (omega arith),
          i.has 3 (omega arith) (omega arith),
          i.has 4 (omega arith) (omega arith),
          i.text 1 (omega arith) (omega arith),
          i.text 2 (omega arith) (omega arith),
          i.text 3 (omega arith) (omega arith),
          i.text 4 (omega arith) (omega arith),
        )
        (built (four_good (string 1) (string 2) (string 3) (string 4)))
    by false true p q =
        let l : m < 4 = lt_of_le-ne (leb-true m 4 q) (eqb-false m 4 p) in
        rw (p, q, i.rest 4 l, none_of (f.has 1) (f.has 2) (f.has 3))
    by false false p q = rw (p, q)

-- ---- fifteen strings
module _ (string : ℕ → ℕ) (e : ℕ) (before : List Call) (all : OneFrame string) (ready : Ready (held_after before) e) where
  abbrev after : ℕ → Frame
  after k = held_after (in_order string e k before)

  abbrev Next : ℕ → Type 0
  Next k = Opens string e k (string (suc k)) (after k)

  one : (k : ℕ) → k < 15 → Sendable (string (suc k)) (suc k)
  one k l = all (suc k) (omega arith) (omega arith)

  -- the frame after a string that comes next
  after_is : (k : ℕ) → k < 15 → Next k → after (suc k) ≡ with_string (frame_for (after k) e) (string (suc k))
  unfolding offers held_after
  after_is k l o = opens_frame string (after k) e k (string (suc k)) (one k l) o

  held_next : (k : ℕ) → k < 15 → Next k → (after (suc k)).held ≡ true
  held_next k l o = ap (λ (f : Frame). f.held) (after_is k l o)

  first_next : (k : ℕ) → k < 15 → Next k → HasFirst string e (suc k) (after (suc k))
  first_next k l o = subst (HasFirst string e (suc k)) (sym (after_is k l o)) (opens_has string (after k) e k (string (suc k)) (one k l) o refl)

  -- each comes next
  comes : (k : ℕ) → k < 15 → Next k
  unfolding offers
  comes zero l = opens_first string (held_after before) e 0 (string 1) (one 0 l) refl ready
  comes (suc k) l =
      let o = comes k (omega arith) in
      opens_next string (after (suc k)) e (suc k) (string (suc (suc k))) (one (suc k) l) (held_next k (omega arith) o) (first_next k (omega arith) o)

  said_next : (k : ℕ) → k < 15 → said_to (after k) (e + k) (relative_bytes (string (suc k))) ≡ 0 ∷ suc k ∷ 0 ∷ 0 ∷ news_in string (suc k) ∷ 0 ∷ []
  said_next k l =
      let o = comes k l in
      let f = with_string (frame_for (after k) e) (string (suc k)) in
      opens_said string (after k) e k (string (suc k)) (one k l) o
      ∙ ap (λ (w : ℕ). 0 ∷ suc k ∷ 0 ∷ 0 ∷ w ∷ 0 ∷ []) (news_is string e (suc k) f (opens_has string (after k) e k (string (suc k)) (one k l) o refl))

  -- FIFTEEN STRINGS OF ONE FRAME IN ORDER ARE TAKEN, CLEAN, AND LEAVE IT WHOLE
  pub frame_heard : FrameHeard string e before
  frame_heard = record { said = said_next; held = held_at_lem; first = first_at }
    where
      held_at_lem : (k : ℕ) → 1 ≤ k → k ≤ 15 → (after k).held ≡ true
      held_at_lem zero l u = absurd (omega arith)
      held_at_lem (suc k) l u = held_next k (omega arith) (comes k (omega arith))

      first_at : (k : ℕ) → 1 ≤ k → k ≤ 15 → HasFirst string e k (after k)
      first_at zero l u = absurd (omega arith)
      first_at (suc k) l u = first_next k (omega arith) (comes k (omega arith))
