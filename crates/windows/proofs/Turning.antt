-- A turn over a window: what holds at the head of its loop (Sofar), at its start (begin) and after a step (again), and its ends, in the last window (closed) and
-- in another (opened).
-- Assumes nothing.
use Prim.Native.Nat.{ℕ, ◌+◌, ◌-◌, ◌≤◌, ◌<◌, zero-le}
use native.Mathlib.Nat.{add-zero}
use native.Mathlib.Omega.{arith}
use mathlib.Core.Path.{◌≡◌, refl, sym, subst}
use mathlib.Core.Bool.{Bool, true, false}
use mathlib.Core.List.{List, []}
use mathlib.Core.Logic.{◌⊎◌, inl, inr, ⊎_elim}
use lib.ListN.{length}
use Rattle.digits.specs.Text.{Puts}
use Rattle.salvage.specs.Items.{Skipped}
use Rattle.salvage.proofs.Places.{not_zero}
use Rattle.windows.specs.declared.Wanted.{Wanted}
use Rattle.windows.specs.declared.Stands.{Stands}
use Rattle.windows.specs.declared.Stands.TheVariants.{Between, Since}
use Rattle.windows.specs.declared.Turn.{Turn}
use Rattle.windows.specs.Shown.{shown_of}
use Rattle.windows.specs.Window.{spare, goal_of, turn_at, Began, Works, Steps, Ends, Closes, Passes}
use Rattle.windows.proofs.Works.{works_none, works_then}
use Rattle.windows.proofs.Moves.{ends_there}

pub record Sofar (wanted : Wanted) (window : List ℕ) (last : Bool) (first : ℕ) (stands : Stands) (out₀ : List ℕ) (t : Turn) (out : List ℕ) : Type 0 where
  pub works : Works wanted window last first (turn_at 0 0 stands) out₀ t out
  pub idle : t.passed ≡ 0 → t.written ≡ 0

-- why the loop is left: the goal is reached, or there is too little room
abbrev pub Left : Bool → List ℕ → Turn → List ℕ → Type 0
Left last window t out = (goal_of last (length window) ≤ t.passed) ⊎ (length out < t.written + spare)

module _ {wanted : Wanted} {window : List ℕ} {last : Bool} {first : ℕ} {stands : Stands} {out₀ : List ℕ} where
  pub begin : Began stands first → Sofar wanted window last first stands out₀ (turn_at 0 0 stands) out₀
  begin b =
      record {
        works = works_none (turn_at 0 0 stands) out₀ zero-le zero-le (rw (add-zero first) b);
        idle = λ e. refl;
      }

  module _ {t : Turn} {out : List ℕ} (s : Sofar wanted window last first stands out₀ t out) where
    pub again : {r : Turn} {out' : List ℕ} → Steps wanted window last first t out r out' → Sofar wanted window last first stands out₀ r out'
    again {r} n = record { works = works_then s.works n.works; idle = λ e. absurd (omega (arith, e, n.further)) }

    moves : Left last window t out → spare ≤ length out₀ → 0 < goal_of last (length window) → 0 < t.passed
    moves l room goal =
        not_zero t.passed (λ z. ⊎_elim (λ (h : goal_of last (length window) ≤ t.passed). omega (arith, h, z, goal))
        (λ (h : length out < t.written + spare). omega (arith, h, s.idle z, s.works.long, room)) l)

    room-same : {A : Type 0} (w : ℕ) → (length out < w + spare) ⊎ A → (length out₀ < w + spare) ⊎ A
    room-same {A} w l = ⊎_elim (λ (h : length out < w + spare). inl (omega (arith, h, s.works.long))) (λ (h : A). inr h) l

    pub opened : last ≡ false → Left last window t out → Passes wanted window last first stands out₀ t out
    opened e l =
        record {
          works = s.works;
          far = rw e (⊎_elim (λ (h : goal_of last (length window) ≤ t.passed). inr (rw e at h)) (λ (h : length out < t.written + spare). inl (omega (arith, h, s.works.long))) l);
          gets_on = moves l;
        }

    pub closed : {r : Turn} {out' : List ℕ} → last ≡ true → Left last window t out → Closes wanted window first t out r out'
        → Passes wanted window last first stands out₀ r out'
    closed {r} {out'} e l d =
        let b : Works wanted window last first t out r out' = rw e d.works in
        let k : (length window ≤ t.passed) ⊎ (length out < t.written + spare) = rw e at l in
        record {
          works = works_then s.works b;
          far = rw e (room-same r.written (d.far k));
          gets_on = λ room goal. omega (arith, moves l room goal, d.works.onward);
        }

-- ---- the end of a turn over the last window
module _ {wanted : Wanted} {window : List ℕ} {first : ℕ} {out : List ℕ} (t : Turn) (p : t.passed ≤ length window) where
  module _ (w : t.written ≤ length out) (b : Began t.stands (first + t.passed)) where
    unclosed : ((length window ≤ t.passed) ⊎ (length out < t.written + spare) → (length out < t.written + spare) ⊎ Ends true (length window) t)
        → Closes wanted window first t out t out
    unclosed f = record { works = works_none t out p w b; far = f }

    -- no stretch is open; it goes on in the window; there is too little room
    pub closed_already : t.stands ≡ Between → Closes wanted window first t out t out
    closed_already e =
        unclosed (⊎_elim (λ (h : length window ≤ t.passed). inr (omega (arith, h, p), e)) (λ (h : length out < t.written + spare). inl h))

    pub not_there : t.passed < length window → Closes wanted window first t out t out
    not_there n =
        unclosed (⊎_elim (λ (h : length window ≤ t.passed). absurd (omega (arith, h, n))) (λ (h : length out < t.written + spare). inl h))

    pub no_room_lem : length out < t.written + spare → Closes wanted window first t out t out
    no_room_lem r = unclosed (λ l. inl r)

  -- the stretch ends with the file
  pub closes : {start end : ℕ} {out' : List ℕ} → t.stands ≡ Since start → length window ≤ t.passed
      → Puts out t.written (shown_of wanted [] (Skipped start (first + t.passed - start))) out' end → end ≤ length out
      → Closes wanted window first t out (turn_at t.passed end Between) out'
  closes {start} {end} {out'} e h q w =
      record {
        works = subst (λ (s : Stands). Works wanted window true first (turn_at t.passed t.written s) out (turn_at t.passed end Between) out') (sym e)
            (ends_there h p q w);
        far = λ l. inr (omega (arith, h, p), refl);
      }
