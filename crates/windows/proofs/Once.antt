-- Two turns over a window that end at the same place have written the same (once).
-- Assumes nothing.
use Prim.Native.Nat.{ℕ, ◌+◌, ◌-◌, ◌≤◌, ◌<◌}
use native.Mathlib.Omega.{arith}
use mathlib.Core.Path.{◌≡◌, sym, ap, ap₂, ◌∙◌}
use mathlib.Core.Bool.{Bool}
use mathlib.Core.List.{List, ◌++◌, append_cancel_right}
use mathlib.Core.Logic.{⊎_elim}
use lib.ListN.{length, take, drop, get_or, replicate, length-append, length-replicate, get_or-replicate, take-append-drop, get_or-append}
use lib.Seq.{take-length, drop-append_seam, length-take-le, get_or-append-add}
use Rattle.strings.specs.Number.{Bytes}
use Rattle.salvage.specs.Items.{Item}
use Rattle.salvage.proofs.Places.{le_or}
use Rattle.windows.specs.declared.Wanted.{Wanted}
use Rattle.windows.specs.declared.Stands.{Stands}
use Rattle.windows.specs.declared.Turn.{Turn}
use Rattle.windows.specs.Shown.{shown}
use Rattle.windows.specs.Window.{Window, left_at, turn_at, Passes}

-- ---- there is a file with the window: zeros before it, and nothing behind
module _ (window : List ℕ) (first : ℕ) (last : Bool) (b : Bytes window) where
  abbrev before : List ℕ
  before = replicate first 0

  abbrev some : List ℕ
  some = before ++ window

  long : length before ≡ first
  long = length-replicate first 0

  some_bytes : Bytes some
  some_bytes k = ⊎_elim behind-it within-it (le_or first k)
    where
      behind-it : first ≤ k → get_or some k 0 < 256
      behind-it h =
          let e : length before + (k - first) ≡ k = omega (arith, long) in
          rw (← e) (rw (get_or-append-add before window (k - first) 0) (b (k - first)))

      within-it : k < first → get_or some k 0 < 256
      within-it h = rw (get_or-append before window 0 k (omega (arith, long)), get_or-replicate {A = ℕ} first k 0 0 h) (omega arith)

  there_is : Window some first last window
  there_is =
      let d : drop first some ≡ window = ap (λ (k : ℕ). drop k some) (sym long) ∙ drop-append_seam before window in
      record {
        bytes = some_bytes;
        here = sym (ap (take (length window)) d ∙ take-length window);
        within = omega (arith, length-append before window, long);
        ends = λ e. omega (arith, length-append before window, long);
      }

module _ (wanted : Wanted) (window : List ℕ) (last : Bool) (first : ℕ) (stands : Stands) (out : List ℕ) (b : Bytes window) {r q : Turn} {out' out'' : List ℕ}
    (x : Passes wanted window last first stands out r out') (y : Passes wanted window last first stands out q out'') (p : r.passed ≡ q.passed)
    (s : r.stands ≡ q.stands) where
  abbrev file : List ℕ
  file = some window first last b

  told_same : (x.works.tells file (there_is window first last b)).told ≡ (y.works.tells file (there_is window first last b)).told
  told_same =
      let t = x.works.tells file (there_is window first last b) in
      let u = y.works.tells file (there_is window first last b) in
      let e : left_at file (first + q.passed) q.stands ≡ left_at file (first + r.passed) r.stands =
      ap₂ (λ (n : ℕ) (z : Stands). left_at file (first + n) z) (sym p) (sym s)
      in
      append_cancel_right t.told u.told (left_at file (first + r.passed) r.stands)
      (sym t.items ∙ u.items ∙ ap (λ (l : List Item). u.told ++ l) e)

  text_same : take r.written out' ≡ take q.written out''
  text_same =
      let t = x.works.tells file (there_is window first last b) in
      let u = y.works.tells file (there_is window first last b) in
      t.shows ∙ ap (shown wanted file) told_same ∙ sym u.shows

  written_same : r.written ≡ q.written
  written_same =
      let m = length-take-le r.written out' (omega (arith, x.works.room, x.works.long)) in
      let n = length-take-le q.written out'' (omega (arith, y.works.room, y.works.long)) in
      sym m ∙ ap length text_same ∙ n

  pub once : (r ≡ q) × (out' ≡ out'')
  once = (
    ap₂ (λ (n w : ℕ). turn_at n w r.stands) p written_same ∙ ap (turn_at q.passed q.written) s,
    sym (take-append-drop r.written out')
        ∙ ap₂ (λ (l m : List ℕ). l ++ m) text_same (x.works.behind ∙ ap (λ (n : ℕ). drop n out) written_same ∙ sym y.works.behind)
        ∙ take-append-drop q.written out'',
  )
