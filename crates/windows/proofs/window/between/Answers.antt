-- `window::between` meets its contract: a stretch begins, or a field is kept (`Moves`). Assumes nothing.
use Prim.Native.Nat.{◌+◌, ◌≤◌}
use native.Mathlib.Omega.{arith}
use mathlib.Core.Path.{◌∙◌, sym}
use lib.ListN.{length}
use Rattle.salvage.proofs.Places.{not_zero}
use Rattle.fields.proofs.Near.{size_in_lem, size_three, size_small}
use Rattle.windows.specs.Window.{longest}
use Rattle.windows.proofs.Moves.{begins, keeps}
use Rattle.windows.proofs.window.between.Goals as goal

-- the good field has three bytes at least, lies within the window, and is no longer than a field can be
small : (c : goal.After-put_field-arg-1)
    → (3 ≤ c.size_at-n.result) × ((c.args.at + c.size_at-n.result ≤ length c.args.window.now) × (c.size_at-n.result ≤ longest))
small c =
    let e = c.size_at-n.ensures in
    let w = c.args.window.now in
    let h = rw e at (not_zero c.size_at-n.result c.if-n-eq0.false) in
    rw e
    (size_three w c.args.at h, (size_in_lem w c.args.at h, size_small w c.args.at (λ k. (c.type_inv.window k).fits) h))

-- the good field has three bytes at least, lies within the window, and is no longer than a field can be
small-2 : (c : goal.After-slice_known-2-1)
    → (3 ≤ c.size_at-n.result) × ((c.args.at + c.size_at-n.result ≤ length c.args.window.now) × (c.size_at-n.result ≤ longest))
small-2 c =
    let e = c.size_at-n.ensures in
    let w = c.args.window.now in
    let h = rw e at (not_zero c.size_at-n.result c.if-n-eq0.false) in
    rw e
    (size_three w c.args.at h, (size_in_lem w c.args.at h, size_small w c.args.at (λ k. (c.type_inv.window k).fits) h))

pub returns-then-n-eq0 : goal.returns-then-n-eq0
returns-then-n-eq0 c last g = begins last g (omega (arith, c.requires.room)) (sym c.size_at-n.ensures ∙ c.if-n-eq0.true)

pub put_field-end-requires : goal.put_field-end-requires
put_field-end-requires c =
    let n = small c in
    (n.0, (n.1.0, omega (arith, n.1.1, c.requires.room)))

pub overflow_add-result-2 : goal.overflow_add-result-2
overflow_add-result-2 c = let n = small-2 c in omega (arith, n.1.0, c.requires.places)

pub returns : goal.returns
returns c last g =
    let p = c.put_field-end.ensures in
    keeps last g c.size_at-n.ensures c.if-n-eq0.false p.0 (omega (arith, p.1, (small-2 c).1.1, c.requires.room))
