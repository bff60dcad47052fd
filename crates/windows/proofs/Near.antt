-- Whether a salvage goes on at a place is told by the 131,076 bytes from there on, so that the file may be cut behind them (near).
-- Assumes nothing.
use Prim.Native.Nat.{ℕ, ◌+◌, ◌-◌, ◌*◌, ◌≤◌, ◌<◌}
use native.Mathlib.Omega.{arith}
use mathlib.Core.Path.{◌≡◌, refl, sym, ap, ◌∙◌}
use mathlib.Core.Bool.{Bool, true, false, not}
use mathlib.Core.List.{List}
use lib.Dec.{leb, eqb}
use lib.ListN.{length, take}
use lib.Seq.{take_all, length-take-le}
use borrow.Author.Tests.{leb-true, leb-false, eqb-true, eqb-false}
use Rattle.strings.specs.Number.{Bytes}
use Rattle.fields.specs.Fields.{size_at}
use Rattle.fields.proofs.Near.{size_small, near as near-size}
use Rattle.salvage.specs.Items.{resumes}
use Rattle.salvage.proofs.Places.{not_zero, resumes_none, resumes_next}
use Rattle.windows.specs.Window.{longest}

-- a file that goes on behind the cut
module _ (file : List ℕ) (at n : ℕ) (b : Bytes file) (h : 2 * longest ≤ n) (l : at + n < length file) where
  abbrev cut : List ℕ
  cut = take (at + n) file

  abbrev size : ℕ
  size = size_at file at

  cut_long : length cut ≡ at + n
  cut_long = length-take-le (at + n) file (omega arith)

  -- the first field, and the one behind it, which is as near
  first : size_at cut at ≡ size
  first = near-size file at n b (omega arith)

  second : size ≤ longest → size_at cut (at + size) ≡ size_at file (at + size)
  second s =
      let e : at + size + (n - size) ≡ at + n = omega arith in
      ap (λ (k : ℕ). size_at (take k file) (at + size)) (sym e) ∙ near-size file (at + size) (n - size) b (omega arith)

  by_size : (t : Bool) → eqb size 0 ≡ t → resumes cut at ≡ resumes file at
  by_size true e =
      let z : size ≡ 0 = eqb-true size 0 e in
      sym (resumes_none cut at (first ∙ z)) ∙ resumes_none file at z
  by_size false e =
      let z = eqb-false size 0 e in
      let s : size ≤ longest = size_small file at b (not_zero size z) in
      sym (resumes_next cut at (λ q. z (sym first ∙ q)) (omega (arith, first, cut_long)))
      ∙ ap (λ (k : ℕ). not (eqb k 0)) (ap (λ (k : ℕ). size_at cut (at + k)) first ∙ second s)
      ∙ resumes_next file at z (omega arith)

pub near : (file : List ℕ) (at n : ℕ) → Bytes file → 2 * longest ≤ n → resumes (take (at + n) file) at ≡ resumes file at
near file at n b h = by (leb (length file) (at + n)) refl
  where
    by : (t : Bool) → leb (length file) (at + n) ≡ t → resumes (take (at + n) file) at ≡ resumes file at
    by true e = ap (λ (l : List ℕ). resumes l at) (take_all (at + n) file (leb-true (length file) (at + n) e))
    by false e = by_size file at n b h (leb-false (length file) (at + n) e) (eqb (size_at file at) 0) refl
