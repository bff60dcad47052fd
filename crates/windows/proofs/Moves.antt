-- The steps of the work on a window, one law for each answer of the code: a stretch begins (begins), a field is kept (keeps), a byte of a stretch is skipped
-- (goes_on), a stretch ends where it goes on (ends-here) or with the file (ends_there).
-- Assumes nothing.
use Prim.Native.Nat.{ℕ, ◌+◌, ◌-◌, ◌≤◌, ◌<◌}
use native.Mathlib.Omega.{arith}
use mathlib.Core.Path.{◌≡◌, refl, sym, ap, ◌∙◌}
use mathlib.Core.Bool.{Bool, true, false}
use mathlib.Core.List.{List, [], ◌∷◌}
use lib.ListN.{length}
use Rattle.fields.specs.Fields.{size_at}
use Rattle.fields.proofs.Near.{size_three}
use Rattle.digits.specs.Text.{Puts}
use Rattle.salvage.specs.Items.{Kept, Skipped, resumes}
use Rattle.salvage.proofs.Places.{not_zero}
use Rattle.salvage.proofs.Items.{field_in}
use Rattle.windows.specs.declared.Wanted.{Wanted}
use Rattle.windows.specs.declared.Stands.TheVariants.{Between, Since}
use Rattle.windows.specs.Shown.{shown_of}
use Rattle.windows.specs.Window.{goal_of, Window, left_at, turn_at, Works, Steps}
use Rattle.windows.proofs.Held.{goal_in, size_held, resumes_held, kept_held, skipped_held}
use Rattle.windows.proofs.Left.{left_bad, left_good, left_on, left_here, left_end}
use Rattle.windows.proofs.Works.{works_pass, works_tell}

-- a place of the window is one of the file
place : {file window : List ℕ} {first : ℕ} {last : Bool} → Window file first last window → (at : ℕ) → at < goal_of last (length window) → first + at < length file
place {window = window} {last = last} v at g = omega (arith, v.within, goal_in last (length window) at g)

onward_by : (first at n : ℕ) → first + at + n ≡ first + (at + n)
onward_by first at n = omega arith

module _ {wanted : Wanted} {window : List ℕ} {first at written : ℕ} {out : List ℕ} (last : Bool) (g : at < goal_of last (length window)) where
  pub begins : written ≤ length out → size_at window at ≡ 0
      → Steps wanted window last first (turn_at at written Between) out (turn_at (at + 1) written (Since (first + at))) out
  begins w z =
      record {
        works = works_pass (λ file v. left_bad file (first + at) (place v at g) (sym (size_held v at g) ∙ z)
            ∙ ap (λ (k : ℕ). left_at file k (Since (first + at))) (onward_by first at 1)) (omega arith) (omega (arith, goal_in last (length window) at g)) w (omega arith);
        further = omega arith;
      }

  pub keeps : {n end : ℕ} {out' : List ℕ} → n ≡ size_at window at → (n ≡ 0 → ⊥) → Puts out written (shown_of wanted window (Kept at n)) out' end
      → end ≤ length out → Steps wanted window last first (turn_at at written Between) out (turn_at (at + n) end Between) out'
  keeps {n} e z p w =
      let l : 3 ≤ n = rw e (size_three window at (rw (← e) (not_zero n z))) in
      let h : at + n ≤ length window = field_in window at n e z in
      record {
        works = works_tell p (omega (arith, p.past, w)) (Kept (first + at) n) (λ file v. (
          left_good file (first + at) n (place v at g) (e ∙ size_held v at g) z ∙ ap (λ (k : ℕ). Kept (first + at) n ∷ left_at file k Between) (onward_by first at n),
          kept_held v wanted at n l h,
        )) (omega arith) h tt;
        further = omega (arith, l);
      }

  pub goes_on : {start : ℕ} → written ≤ length out → start ≤ first + at → resumes window at ≡ false
      → Steps wanted window last first (turn_at at written (Since start)) out (turn_at (at + 1) written (Since start)) out
  goes_on {start} w b e =
      record {
        works = works_pass (λ file v. left_on file (first + at) start (place v at g) (sym (resumes_held v at g) ∙ e)
            ∙ ap (λ (k : ℕ). left_at file k (Since start)) (onward_by first at 1)) (omega arith) (omega (arith, goal_in last (length window) at g)) w (omega (arith, b));
        further = omega arith;
      }

  pub ends_here : {start end : ℕ} {out' : List ℕ} → resumes window at ≡ true → Puts out written (shown_of wanted [] (Skipped start (first + at - start))) out' end
      → end ≤ length out → Works wanted window last first (turn_at at written (Since start)) out (turn_at at end Between) out'
  ends_here {start} e p w =
      works_tell p (omega (arith, p.past, w)) (Skipped start (first + at - start)) (λ file v. (
        left_here file (first + at) start (place v at g) (sym (resumes_held v at g) ∙ e),
        skipped_held wanted file start (first + at - start),
      )) (omega arith) (omega (arith, goal_in last (length window) at g)) tt

pub ends_there : {wanted : Wanted} {window : List ℕ} {first at written start end : ℕ} {out out' : List ℕ} → length window ≤ at → at ≤ length window
    → Puts out written (shown_of wanted [] (Skipped start (first + at - start))) out' end → end ≤ length out
    → Works wanted window true first (turn_at at written (Since start)) out (turn_at at end Between) out'
ends_there {wanted} {first = first} {at = at} {start = start} h k p w =
    works_tell p (omega (arith, p.past, w)) (Skipped start (first + at - start)) (λ file v. (
      left_end file (first + at) start (omega (arith, v.ends refl)),
      skipped_held wanted file start (first + at - start),
    )) (omega arith) k tt
