-- `hamming::highest_of` meets its contract. Assumes nothing.
use mathlib.Core.Path.{◌≡◌, sym, subst, ◌∙◌}
use mathlib.Core.Bool.{Bool, ◌||◌}
use Prim.Native.Nat.{ℕ, ◌≤◌, ◌<◌}
use native.Mathlib.Omega.{arith}
use borrow.Author.Tests.{le-leb, lt-leb, ne_eqb}
use lib.Dec.{T, eqb, leb, eqb→eq}
use Rattle.strings.specs.Pick.{pick}
use Rattle.strings.specs.Hamming.{highest}
use Rattle.strings.proofs.Below.{below, below_at}
use Rattle.strings.proofs.hamming.highest_of.Goals as goal

-- the code's cuts say the highest set sum, at each S of 1..127: computed once
abbrev cuts : ℕ → ℕ
cuts s =
    pick (leb 64 s) 7
    (pick (leb 32 s) 6
    (pick (leb 16 s) 5
    (pick (leb 8 s) 4
    (pick (leb 4 s) 3
    (pick (leb 2 s) 2
    1)))))

abbrev cut_test : ℕ → Bool
cut_test s = eqb s 0 || eqb (highest s) (cuts s)

all_cuts : T (below 128 cut_test)
unfolding highest
all_cuts = tt

by_cuts : {k : ℕ} (s : ℕ) → (1 ≤ s) × (s < 128) → k ≡ cuts s → k ≡ highest s
by_cuts s h e =
    e ∙ sym (eqb→eq (highest s) (cuts s) (subst (λ (b : Bool). T (b || eqb (highest s) (cuts s))) (ne_eqb s 0 (λ z. omega arith)) (below_at 128 cut_test all_cuts s h.1)))

pub returns-then-s-ge64 : goal.returns-then-s-ge64
returns-then-s-ge64 c = by_cuts _ c.requires (simp (le-leb _ _ c.if-s-ge64.true))

pub returns-then-s-ge32 : goal.returns-then-s-ge32
returns-then-s-ge32 c = by_cuts _ c.requires (simp (le-leb _ _ c.if-s-ge32.true, lt-leb _ _ c.if-s-ge64.false))

pub returns-then-s-ge16 : goal.returns-then-s-ge16
returns-then-s-ge16 c = by_cuts _ c.requires (simp (le-leb _ _ c.if-s-ge16.true, lt-leb _ _ c.if-s-ge32.false, lt-leb _ _ c.if-s-ge64.false))

pub returns-then-s-ge8 : goal.returns-then-s-ge8
returns-then-s-ge8 c = by_cuts _ c.requires (simp (le-leb _ _ c.if-s-ge8.true, lt-leb _ _ c.if-s-ge16.false, lt-leb _ _ c.if-s-ge32.false, lt-leb _ _ c.if-s-ge64.false))

pub returns-then-s-ge4 : goal.returns-then-s-ge4
returns-then-s-ge4 c = by_cuts _ c.requires (simp (le-leb _ _ c.if-s-ge4.true, lt-leb _ _ c.if-s-ge8.false, lt-leb _ _ c.if-s-ge16.false, lt-leb _ _ c.if-s-ge32.false, lt-leb _ _ c.if-s-ge64.false))

pub returns-then-s-ge2 : goal.returns-then-s-ge2
returns-then-s-ge2 c = by_cuts _ c.requires (simp (le-leb _ _ c.if-s-ge2.true, lt-leb _ _ c.if-s-ge4.false, lt-leb _ _ c.if-s-ge8.false, lt-leb _ _ c.if-s-ge16.false, lt-leb _ _ c.if-s-ge32.false, lt-leb _ _ c.if-s-ge64.false))

pub returns-else-s-ge2 : goal.returns-else-s-ge2
returns-else-s-ge2 c = by_cuts _ c.requires (simp (lt-leb _ _ c.if-s-ge2.false, lt-leb _ _ c.if-s-ge4.false, lt-leb _ _ c.if-s-ge8.false, lt-leb _ _ c.if-s-ge16.false, lt-leb _ _ c.if-s-ge32.false, lt-leb _ _ c.if-s-ge64.false))
