-- What the walk gives (walk-means): a line more at the front is a line more at the end (walk-cons), since two lines can be exchanged (lines-swap), so the meaning is shown line by line.
-- Assumes nothing.
use mathlib.Core.Path.{◌≡◌, refl, sym, ap, ap₂, subst, ◌∙◌}
use mathlib.Core.Bool.{Bool, true, false}
use mathlib.Core.Logic.{∥∥₁_elim}
use mathlib.Core.List.{List, [], ◌∷◌, ◌++◌, Perm, Permᴰ}
use Prim.Native.Nat.{ℕ, zero, suc, ◌+◌, ◌≤◌, ◌<◌, min, max}
use native.Mathlib.Nat.{ℕ_set, le_antisymm}
use native.Mathlib.Omega.{arith}
use borrow.Author.Tests.{eqb-true, eqb-false, ltb-true, ltb-false, ne_eqb}
use lib.Dec.{eqb, ltb}
use lib.ListN.{length, get_or}
use Rattle.book.specs.declared.Entry.{Entry}
use Rattle.book.specs.Entry.{blank}
use Rattle.summary.specs.declared.Summary.{Summary}
use Rattle.summary.specs.Walk.{none_filled, older_of, newer_of, with_line, walk_from, walk_of}
use Rattle.summary.specs.Means.{filled, Holds, Means, WalkMeans}
use Rattle.summary.proofs.Passed.{from_cons}

-- ---- the older and the newer of two days
older_least : (a d : ℕ) → (a ≡ 0 → ⊥) → older_of a d ≡ min a d
older_least a d n = by (ltb d a) refl
  where
    by : (t : Bool) → ltb d a ≡ t → older_of a d ≡ min a d
    by true p = let l = ltb-true d a p in rw (ne_eqb a 0 n, p) (omega arith)
    by false p = let l = ltb-false d a p in rw (ne_eqb a 0 n, p) (omega arith)

newer_most : (a d : ℕ) → newer_of a d ≡ max a d
newer_most a d = by (ltb a d) refl
  where
    by : (t : Bool) → ltb a d ≡ t → newer_of a d ≡ max a d
    by true p = let l = ltb-true a d p in rw p (omega arith)
    by false p = let l = ltb-false a d p in rw p (omega arith)

older_swap : (a d f : ℕ) → (d ≡ 0 → ⊥) → (f ≡ 0 → ⊥) → older_of (older_of a d) f ≡ older_of (older_of a f) d
older_swap zero d f m n = older_least d f m ∙ (let e : min d f ≡ min f d = omega arith in e) ∙ sym (older_least f d n)
older_swap (suc a) d f m n =
    rw (older_least (suc a) d (λ q. omega arith), older_least (suc a) f (λ q. omega arith))
    (older_least (min (suc a) d) f (λ q. omega arith)
    ∙ (let e : min (min (suc a) d) f ≡ min (min (suc a) f) d = omega arith in e)
    ∙ sym (older_least (min (suc a) f) d (λ q. omega arith)))

newer_swap : (a d f : ℕ) → newer_of (newer_of a d) f ≡ newer_of (newer_of a f) d
newer_swap a d f =
    rw (newer_most a d, newer_most a f)
    (newer_most (max a d) f ∙ (let e : max (max a d) f ≡ max (max a f) d = omega arith in e) ∙ sym (newer_most (max a f) d))

-- ---- a line more: a blank one, and a filled one
more : Summary → ℕ → Summary
more s d = record { count = s.count + 1; oldest = older_of s.oldest d; newest = newer_of s.newest d }

module _ (s : Summary) (e : Entry) where
  line_blank : eqb e.day 0 ≡ true → with_line s e ≡ s
  unfolding with_line
  line_blank p = rw p

  line_filled : eqb e.day 0 ≡ false → with_line s e ≡ more s e.day
  unfolding with_line more
  line_filled p = rw p

more_swap : (s : Summary) (d f : ℕ) → (d ≡ 0 → ⊥) → (f ≡ 0 → ⊥) → more (more s d) f ≡ more (more s f) d
unfolding more
more_swap s d f m n = rw (older_swap s.oldest d f m n, newer_swap s.newest d f)

-- EXCHANGE of two lines
lines_swap : (s : Summary) (e f : Entry) → with_line (with_line s e) f ≡ with_line (with_line s f) e
lines_swap s e f = by (eqb e.day 0) (eqb f.day 0) refl refl
  where
    by : (t u : Bool) → eqb e.day 0 ≡ t → eqb f.day 0 ≡ u → with_line (with_line s e) f ≡ with_line (with_line s f) e
    by true u p q = ap (λ (x : Summary). with_line x f) (line_blank s e p) ∙ sym (line_blank (with_line s f) e p)
    by false true p q = line_blank (with_line s e) f q ∙ sym (ap (λ (x : Summary). with_line x e) (line_blank s f q))
    by false false p q =
        ap (λ (x : Summary). with_line x f) (line_filled s e p)
        ∙ line_filled (more s e.day) f q
        ∙ more_swap s e.day f.day (eqb-false e.day 0 p) (eqb-false f.day 0 q)
        ∙ sym (line_filled (more s f.day) e p)
        ∙ sym (ap (λ (x : Summary). with_line x e) (line_filled s f q))

-- a line at the front can as well be the last
from_last : (s : Summary) (e : Entry) (es : List Entry) → walk_from (with_line s e) es ≡ with_line (walk_from s es) e
unfolding walk_from
from_last s e [] = refl
from_last s e (f ∷ es) = ap (λ (x : Summary). walk_from x es) (lines_swap s e f) ∙ from_last (with_line s f) e es

walk_none : walk_of [] ≡ none_filled
unfolding walk_of walk_from
walk_none = refl

pub walk_cons : (e : Entry) (es : List Entry) → walk_of (e ∷ es) ≡ with_line (walk_of es) e
unfolding walk_of walk_from
walk_cons e es = from_last none_filled e es

-- ---- any order of the lines
from_swap : (s : Summary) (e f : Entry) (es : List Entry) → walk_from s (e ∷ f ∷ es) ≡ walk_from s (f ∷ e ∷ es)
unfolding walk_from
from_swap s e f es = ap (λ (x : Summary). walk_from x es) (lines_swap s e f)

from_exchanged : (s : Summary) (before after : List Entry) (e f : Entry) → walk_from s (before ++ (e ∷ f ∷ after)) ≡ walk_from s (before ++ (f ∷ e ∷ after))
unfolding walk_from
from_exchanged s [] after e f = from_swap s e f after
from_exchanged s (b ∷ before) after e f = from_exchanged (with_line s b) before after e f

from_permuted : (es fs : List Entry) → Permᴰ es fs → (s : Summary) → walk_from s es ≡ walk_from s fs
from_permuted es fs Permᴰ.nil s = refl
from_permuted es fs (Permᴰ.cons {a} {b} {l₁} {l₂} p d) s =
    from_cons s a l₁ ∙ from_permuted l₁ l₂ d (with_line s a) ∙ ap (λ (x : Entry). walk_from (with_line s x) l₂) p ∙ sym (from_cons s b l₂)
from_permuted es fs (Permᴰ.swap {a} {b} {a'} {b'} {l} p q) s = from_swap s a b l ∙ ap₂ (λ (x y : Entry). walk_from s (x ∷ y ∷ l)) q p
from_permuted es fs (Permᴰ.trans {l₁} {l₂} {l₃} d₁ d₂) s = from_permuted l₁ l₂ d₁ s ∙ from_permuted l₂ l₃ d₂ s

-- a number of the walk is the same in any order
permuted : (number : Summary → ℕ) (es fs : List Entry) → Perm es fs → number (walk_of es) ≡ number (walk_of fs)
unfolding walk_of
permuted number es fs p = ∥∥₁_elim p (ℕ_set (number (walk_of es)) (number (walk_of fs))) (λ d. ap number (from_permuted es fs d none_filled))

abbrev made : ℕ → ℕ → ℕ → Summary
made c o n = record { count = c; oldest = o; newest = n }

same_numbers : (s t : Summary) → s.count ≡ t.count → s.oldest ≡ t.oldest → s.newest ≡ t.newest → s ≡ t
same_numbers s t c o n = ap (λ (x : ℕ). made x s.oldest s.newest) c ∙ ap₂ (made t.count) o n

any_order : (es fs : List Entry) → Perm es fs → walk_of es ≡ walk_of fs
any_order es fs p =
    same_numbers (walk_of es) (walk_of fs) (permuted (λ s. s.count) es fs p) (permuted (λ s. s.oldest) es fs p) (permuted (λ s. s.newest) es fs p)

-- ---- what it means, line by line: where a day is not 0 it stands in a line, and both are 0 only where no line is filled
record Kept (es : List Entry) (s : Summary) : Type 0 where
  count : s.count ≡ length (filled es)
  oldest_there : (s.oldest ≡ 0 → ⊥) → Holds es s.oldest
  oldest_met : (d : ℕ) → Holds es d → s.oldest ≡ 0 → ⊥
  oldest_first : (d : ℕ) → Holds es d → s.oldest ≤ d
  newest_there : (s.newest ≡ 0 → ⊥) → Holds es s.newest
  newest_last : (d : ℕ) → Holds es d → d ≤ s.newest
  none_counted : s.newest ≡ 0 → s.count ≡ 0
  none_older : s.newest ≡ 0 → s.oldest ≡ 0

-- no line, no entry
none_held : (d : ℕ) → Holds [] d → ⊥
none_held d h = h.entry (sym h.day)

kept_none : Kept [] none_filled
unfolding none_filled
kept_none =
    record {
      count = refl;
      oldest_there = λ n. absurd (n refl);
      oldest_met = λ d h. absurd (none_held d h);
      oldest_first = λ d h. absurd (none_held d h);
      newest_there = λ n. absurd (n refl);
      newest_last = λ d h. absurd (none_held d h);
      none_counted = λ e. refl;
      none_older = λ e. refl;
    }

module _ (e : Entry) (es : List Entry) where
  -- what lines hold they hold with one more before them
  held_behind : (d : ℕ) → Holds es d → Holds (e ∷ es) d
  held_behind d h = record { line = suc h.line; there = omega (arith, h.there); day = h.day; entry = h.entry }

  held_first_lem : (e.day ≡ 0 → ⊥) → Holds (e ∷ es) e.day
  held_first_lem n = record { line = 0; there = omega arith; day = refl; entry = n }

  -- and what they hold with one more is the day of that one, or they hold it
  data Where (d : ℕ) : Type 0 where
    First : e.day ≡ d → Where d
    Behind : Holds es d → Where d

  where_held : (d : ℕ) → Holds (e ∷ es) d → Where d
  where_held d h = by h.line h.there h.day
    where
      by : (k : ℕ) → k < length (e ∷ es) → (get_or (e ∷ es) k blank).day ≡ d → Where d
      by zero l q = First q
      by (suc k) l q = Behind (record { line = k; there = omega (arith, l); day = q; entry = h.entry })

kept_blank : (e : Entry) (es : List Entry) (s : Summary) → eqb e.day 0 ≡ true → Kept es s → Kept (e ∷ es) s
kept_blank e es s p k =
    record {
      count = rw p k.count;
      oldest_there = λ n. held_behind e es s.oldest (k.oldest_there n);
      oldest_met = λ d h. k.oldest_met d (behind d h);
      oldest_first = λ d h. k.oldest_first d (behind d h);
      newest_there = λ n. held_behind e es s.newest (k.newest_there n);
      newest_last = λ d h. k.newest_last d (behind d h);
      none_counted = k.none_counted;
      none_older = k.none_older;
    }
  where
    behind : (d : ℕ) → Holds (e ∷ es) d → Holds es d
    behind d h = elim (where_held e es d h) [ First q ↦ absurd (h.entry (sym q ∙ eqb-true e.day 0 p)) | Behind b ↦ b ]

-- of two days the new one is chosen, or the one before it
data Older (a d : ℕ) : Type 0 where
  NewOlder : older_of a d ≡ d → ((a ≡ 0 → ⊥) → d ≤ a) → Older a d
  OldOlder : older_of a d ≡ a → (a ≡ 0 → ⊥) → a ≤ d → Older a d

data Newer (a d : ℕ) : Type 0 where
  NewNewer : newer_of a d ≡ d → a ≤ d → Newer a d
  OldNewer : newer_of a d ≡ a → d ≤ a → Newer a d

older : (a d : ℕ) → Older a d
older zero d = NewOlder refl (λ n. absurd (n refl))
older (suc a) d = by (ltb d (suc a)) refl
  where
    first : eqb (suc a) 0 ≡ false
    first = ne_eqb (suc a) 0 (λ q. omega arith)

    by : (t : Bool) → ltb d (suc a) ≡ t → Older (suc a) d
    by true p = NewOlder (rw (first, p)) (λ n. omega (arith, ltb-true d (suc a) p))
    by false p = OldOlder (rw (first, p)) (λ q. omega arith) (ltb-false d (suc a) p)

newer : (a d : ℕ) → Newer a d
newer a d = by (ltb a d) refl
  where
    by : (t : Bool) → ltb a d ≡ t → Newer a d
    by true p = NewNewer (rw p) (omega (arith, ltb-true a d p))
    by false p = OldNewer (rw p) (ltb-false a d p)

module _ (e : Entry) (es : List Entry) (s : Summary) (k : Kept es s) (p : eqb e.day 0 ≡ false) where
  day_there : e.day ≡ 0 → ⊥
  day_there = eqb-false e.day 0 p

  abbrev oldest' : ℕ
  oldest' = older_of s.oldest e.day

  abbrev newest' : ℕ
  newest' = newer_of s.newest e.day

  oldest_there : Holds (e ∷ es) oldest'
  oldest_there =
      elim (older s.oldest e.day) [
        | NewOlder q l ↦ subst (Holds (e ∷ es)) (sym q) (held_first_lem e es day_there)
        | OldOlder q n l ↦ subst (Holds (e ∷ es)) (sym q) (held_behind e es s.oldest (k.oldest_there n))
      ]

  oldest_first : (d : ℕ) → Holds (e ∷ es) d → oldest' ≤ d
  oldest_first d h = by (older s.oldest e.day) (where_held e es d h)
    where
      by : Older s.oldest e.day → Where e es d → oldest' ≤ d
      by (NewOlder q l) (First r) = omega arith
      by (NewOlder q l) (Behind b) = omega (arith, l (k.oldest_met d b), k.oldest_first d b)
      by (OldOlder q n l) (First r) = omega arith
      by (OldOlder q n l) (Behind b) = omega (arith, k.oldest_first d b)

  newest_there : Holds (e ∷ es) newest'
  newest_there =
      elim (newer s.newest e.day) [
        | NewNewer q l ↦ subst (Holds (e ∷ es)) (sym q) (held_first_lem e es day_there)
        | OldNewer q l ↦ subst (Holds (e ∷ es)) (sym q) (held_behind e es s.newest (k.newest_there (λ z. day_there (omega arith))))
      ]

  newest_last : (d : ℕ) → Holds (e ∷ es) d → d ≤ newest'
  newest_last d h = by (newer s.newest e.day) (where_held e es d h)
    where
      by : Newer s.newest e.day → Where e es d → d ≤ newest'
      by (NewNewer q l) (First r) = omega arith
      by (NewNewer q l) (Behind b) = omega (arith, k.newest_last d b)
      by (OldNewer q l) (First r) = omega arith
      by (OldNewer q l) (Behind b) = omega (arith, k.newest_last d b)

  kept_filled : Kept (e ∷ es) (more s e.day)
  unfolding more
  kept_filled =
      record {
        count = rw p (omega (arith, k.count));
        oldest_there = λ n. oldest_there;
        oldest_met = λ d h. oldest_there.entry;
        oldest_first = oldest_first;
        newest_there = λ n. newest_there;
        newest_last = newest_last;
        none_counted = λ z. absurd (newest_there.entry z);
        none_older = λ z. absurd (newest_there.entry z);
      }

kept_line : (e : Entry) (es : List Entry) (s : Summary) → Kept es s → Kept (e ∷ es) (with_line s e)
kept_line e es s k = by (eqb e.day 0) refl
  where
    by : (t : Bool) → eqb e.day 0 ≡ t → Kept (e ∷ es) (with_line s e)
    by true p = subst (Kept (e ∷ es)) (sym (line_blank s e p)) (kept_blank e es s p k)
    by false p = subst (Kept (e ∷ es)) (sym (line_filled s e p)) (kept_filled e es s k p)

kept : (es : List Entry) → Kept es (walk_of es)
kept [] = subst (Kept []) (sym walk_none) kept_none
kept (e ∷ es) = subst (Kept (e ∷ es)) (sym (walk_cons e es)) (kept_line e es (walk_of es) (kept es))

all_zero : (s : Summary) → s.count ≡ 0 → s.oldest ≡ 0 → s.newest ≡ 0 → s ≡ none_filled
unfolding none_filled
all_zero s c o n = same_numbers s none_filled c o n

-- WHAT THE WALK GIVES
means : (es : List Entry) → Means es (walk_of es)
means es =
    let k = kept es in
    record {
      count = k.count;
      oldest_there = λ d h. k.oldest_there (k.oldest_met d h);
      oldest_first = k.oldest_first;
      newest_there = λ d h. k.newest_there (λ z. h.entry (omega (arith, k.newest_last d h)));
      newest_last = k.newest_last;
      empty = λ n. by n (eqb (walk_of es).newest 0) refl;
    }
  where
    by : ((d : ℕ) → Holds es d → ⊥) → (t : Bool) → eqb (walk_of es).newest 0 ≡ t → walk_of es ≡ none_filled
    by n true p = let z = eqb-true (walk_of es).newest 0 p in all_zero (walk_of es) ((kept es).none_counted z) ((kept es).none_older z) z
    by n false p = absurd (n (walk_of es).newest ((kept es).newest_there (eqb-false (walk_of es).newest 0 p)))

-- AND NOTHING ELSE IS THIS
only : (es : List Entry) (s : Summary) → Means es s → s ≡ walk_of es
only es s m = by (eqb (walk_of es).newest 0) refl
  where
    w : Means es (walk_of es)
    w = means es

    by : (t : Bool) → eqb (walk_of es).newest 0 ≡ t → s ≡ walk_of es
    by true p =
        let none : (d : ℕ) → Holds es d → ⊥ = λ d h. h.entry (omega (arith, eqb-true (walk_of es).newest 0 p, w.newest_last d h)) in
        m.empty none ∙ sym (w.empty none)
    by false p =
        let n = (kept es).newest_there (eqb-false (walk_of es).newest 0 p) in
        let o = w.oldest_there (walk_of es).newest n in
        same_numbers s (walk_of es) (m.count ∙ sym w.count)
        (le_antisymm (m.oldest_first (walk_of es).oldest o) (w.oldest_first s.oldest (m.oldest_there (walk_of es).newest n)))
        (le_antisymm (w.newest_last s.newest (m.newest_there (walk_of es).newest n)) (m.newest_last (walk_of es).newest n))

exchanged : (before after : List Entry) (e f : Entry) → walk_of (before ++ (e ∷ f ∷ after)) ≡ walk_of (before ++ (f ∷ e ∷ after))
unfolding walk_of
exchanged before after e f = from_exchanged none_filled before after e f

pub walk_means : WalkMeans
walk_means = record { means = means; only = only; exchanged = exchanged; any_order = any_order }
