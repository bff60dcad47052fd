-- What holds of a walk's summary s when i lines of es are passed (Passed): at the start (begins), after a line more (goes_on), and at the end (ends).
-- Assumes nothing.
use Prim.Native.Nat.{ℕ, suc, ◌+◌, ◌<◌, ◌≤◌}
use native.Mathlib.Omega.{arith}
use native.Mathlib.Numerals.{add-one}
use mathlib.Core.Path.{◌≡◌, refl, sym, ◌∙◌, ap}
use mathlib.Core.Bool.{Bool, true, false}
use mathlib.Core.List.{List, [], ◌∷◌}
use lib.ListN.{length, get_or, drop, drop_of_length-le}
use lib.Seq.{drop-cons}
use Rattle.book.specs.declared.Entry.{Entry}
use Rattle.book.specs.Entry.{blank}
use Rattle.summary.specs.declared.Summary.{Summary}
use Rattle.summary.specs.Walk.{none_filled, is_blank, with_line, walk_from, walk_of}

-- what is left to walk gives what the whole gives, and no more lines are counted than are passed
pub record Passed (es : List Entry) (i : ℕ) (s : Summary) : Type 0 where
  pub left : walk_from s (drop i es) ≡ walk_of es
  pub few : s.count ≤ i

pub begins : (es : List Entry) → Passed es 0 none_filled
unfolding walk_of none_filled
begins es = record { left = refl; few = omega arith }

one_more_lem : (s : Summary) (e : Entry) (i : ℕ) → s.count ≤ i → (with_line s e).count ≤ i + 1
unfolding with_line
one_more_lem s e i h = by (is_blank e) refl
  where
    by : (t : Bool) → is_blank e ≡ t → (with_line s e).count ≤ i + 1
    by true p = rw p (omega (arith, h))
    by false p = rw p (omega (arith, h))

pub from_cons : (s : Summary) (e : Entry) (es : List Entry) → walk_from s (e ∷ es) ≡ walk_from (with_line s e) es
unfolding walk_from
from_cons s e es = refl

pub goes_on : (es : List Entry) (i : ℕ) (s : Summary) → i < length es → Passed es i s → Passed es (i + 1) (with_line s (get_or es i blank))
goes_on es i s l p =
    record {
      left = ap (λ (j : ℕ). walk_from (with_line s (get_or es i blank)) (drop j es)) (add-one i)
          ∙ sym (from_cons s (get_or es i blank) (drop (suc i) es)) ∙ sym (ap (walk_from s) (drop-cons es i blank l)) ∙ p.left;
      few = one_more_lem s (get_or es i blank) i p.few;
    }

ended : (s : Summary) → walk_from s [] ≡ s
unfolding walk_from
ended s = refl

pub ends : (es : List Entry) (i : ℕ) (s : Summary) → length es ≤ i → Passed es i s → s ≡ walk_of es
ends es i s l p = sym (ended s) ∙ sym (ap (walk_from s) (drop_of_length-le es l)) ∙ p.left
