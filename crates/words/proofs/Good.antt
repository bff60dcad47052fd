-- All words of a string are in range: said of its bits, by the reader's law `reading_fails`.
-- Assumes nothing.
use mathlib.Core.Path.{◌≡◌, refl, ap, ◌∙◌}
use mathlib.Core.Bool.{Bool, true, false}
use Prim.Native.Nat.{ℕ, ◌≤◌}
use native.Mathlib.Omega.{arith}
use borrow.Author.Tests.{ne_eqb}
use lib.Dec.{eqb}
use Rattle.strings.specs.Pick.{pick}
use Rattle.records.specs.declared.kinds.Kind.{Kind}
use Rattle.words.specs.Good.{is_good}
use Rattle.words.specs.Ranges.{readable, may_fail}
use Rattle.words.proofs.Ranges.{reading_fails}

-- of a kind that has a word that can be out of range
pub good_is : (k : Kind) (n : ℕ) → 1 ≤ may_fail k → is_good k n ≡ readable n k
unfolding is_good
good_is k n h = ap (λ (x : ℕ). eqb x 0) (reading_fails n k) ∙ by (readable n k)
  where
    by : (b : Bool) → eqb (pick b 0 (may_fail k)) 0 ≡ b
    by true = refl
    by false = ne_eqb (may_fail k) 0 (λ e. omega arith)
