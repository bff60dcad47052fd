-- `hamming::judge_sums` meets its contract. Assumes nothing.
use mathlib.Core.Path.{◌≡◌, sym, ap, ◌∙◌}
use Prim.Native.Nat.{ℕ, ◌-◌, ◌^◌}
use native.Mathlib.Omega.{arith}
use borrow.Author.Tests.{eq-eqb, ne_eqb}
use Rattle.strings.specs.Hamming.{highest, sums_set, judge}
use Rattle.strings.proofs.Judge.{Weighed, weighed, shifted}
use Rattle.strings.proofs.hamming.judge_sums.Goals as goal

-- past the tests for 0: C is 1, S is not 0, and the code's K is the paper's
one_c : (c : goal.Then-s-k) → c.args.c ≡ 1
one_c c = omega arith

-- past the tests for 0: C is 1, S is not 0, and the code's K is the paper's
one_c-2 : (c : goal.After-place) → c.args.c ≡ 1
one_c-2 c = omega arith

weighed_at : (c : goal.After-highest_of-k) → Weighed c.args.s
weighed_at c = weighed c.args.s c.if-s-eq0-2.false (omega arith)

weighed_at-2 : (c : goal.Then-s-k) → Weighed c.args.s
weighed_at-2 c = weighed c.args.s c.if-s-eq0-2.false (omega arith)

weighed_at-3 : (c : goal.Else-s-k) → Weighed c.args.s
weighed_at-3 c = weighed c.args.s c.if-s-eq0-2.false (omega arith)

weighed_at-4 : (c : goal.After-place) → Weighed c.args.s
weighed_at-4 c = weighed c.args.s c.if-s-eq0-2.false (omega arith)

pub returns-then-s-eq0 : goal.returns-then-s-eq0
unfolding judge
returns-then-s-eq0 c = simp (eq-eqb _ _ c.if-c-eq0.true, eq-eqb _ _ c.if-s-eq0.true)

pub returns-then-c-eq0 : goal.returns-then-c-eq0
unfolding judge
returns-then-c-eq0 c = simp (c.if-c-eq0.true, ne_eqb _ _ c.if-s-eq0.false)

pub returns-then-s-eq0-2 : goal.returns-then-s-eq0-2
unfolding judge sums_set
returns-then-s-eq0-2 c =
    let e : c.args.c ≡ 1 = omega arith in
    rw (e, c.if-s-eq0-2.true)

pub overflow_sub-k : goal.overflow_sub-k
overflow_sub-k c = omega (arith, (weighed_at c).least)

pub overflow_shl-k : goal.overflow_shl-k
overflow_shl-k c = omega (arith, (weighed_at c).most)

pub returns-then-s-k : goal.returns-then-s-k
unfolding judge
returns-then-s-k c =
    let k = c.highest_of-k.result in
    let e = c.highest_of-k.ensures in
    let w = weighed_at-2 c in
    let q = c.if-s-k.true ∙ shifted k (omega arith) ∙ ap (λ (x : ℕ). 2 ^ (x - 1)) e in
    simp (e, one_c c, ne_eqb _ _ c.if-s-eq0-2.false, w.one, eq-eqb _ _ q)

pub overflow_sub-s : goal.overflow_sub-s
overflow_sub-s c = omega (arith, (weighed_at-3 c).most)

pub returns : goal.returns
unfolding judge
returns c =
    let s = c.args.s in
    let k = c.highest_of-k.result in
    let e = c.highest_of-k.ensures in
    let w = weighed_at-4 c in
    let q : s ≡ 2 ^ (highest s - 1) → ⊥ = (λ p. c.if-s-k.false (p ∙ ap (λ (x : ℕ). 2 ^ (x - 1)) (sym e) ∙ sym (shifted k (omega arith)))) in
    simp (c.place.ensures, e, one_c-2 c, ne_eqb _ _ c.if-s-eq0-2.false, w.one, w.more, ne_eqb _ _ q)
