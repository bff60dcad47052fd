-- `searching::goes_on` meets its contract: each return by the tests that led to it. Assumes nothing.
use Prim.Native.Nat.{ℕ, ◌+◌, ◌≤◌}
use native.Mathlib.Omega.{arith}
use mathlib.Core.Bool.{not}
use mathlib.Core.Path.{◌≡◌, ◌∙◌, ap, sym}
use lib.Dec.{eqb}
use lib.ListN.{length}
use Rattle.fields.specs.Fields.{size_at}
use Rattle.salvage.proofs.Places.{resumes_none, resumes_end, resumes_next}
use Rattle.salvage.proofs.Items.{field_in}
use Rattle.salvage.proofs.searching.goes_on.Goals as goal

-- past the first test there is a good field, and it is whole
some : (c : goal.Then-e-s) → size_at c.args.s.now c.args.at ≡ 0 → ⊥
some c e = c.if-n-eq0.false (c.size_at-n.ensures ∙ e)

-- past the first test there is a good field, and it is whole
some-2 : (c : goal.After-size_at) → size_at c.args.s.now c.args.at ≡ 0 → ⊥
some-2 c e = c.if-n-eq0.false (c.size_at-n.ensures ∙ e)

inside : (c : goal.Else-n-eq0) → c.args.at + c.size_at-n.result ≤ length c.args.s.now
inside c = field_in c.args.s.now c.args.at c.size_at-n.result c.size_at-n.ensures c.if-n-eq0.false

inside-2 : (c : goal.After-size_at) → c.args.at + c.size_at-n.result ≤ length c.args.s.now
inside-2 c = field_in c.args.s.now c.args.at c.size_at-n.result c.size_at-n.ensures c.if-n-eq0.false

pub returns-then-n-eq0 : goal.returns-then-n-eq0
returns-then-n-eq0 c =
    resumes_none c.args.s.now c.args.at (sym c.size_at-n.ensures ∙ c.if-n-eq0.true)

pub overflow_add-e : goal.overflow_add-e
overflow_add-e c = omega (arith, inside c, c.well_formed)

pub returns-then-e-s : goal.returns-then-e-s
returns-then-e-s c =
    resumes_end c.args.s.now c.args.at (some c) (ap (λ (x : ℕ). c.args.at + x) (sym c.size_at-n.ensures) ∙ c.if-e-s.true)

pub returns : goal.returns
returns c =
    let s = c.args.s.now in
    let e = c.size_at-n.ensures in
    ap (λ (x : ℕ). not (eqb x 0)) (c.size_at.ensures ∙ ap (λ (x : ℕ). size_at s (c.args.at + x)) e)
    ∙ resumes_next s c.args.at (some-2 c) (omega (arith, inside-2 c, e, c.if-e-s.false))
