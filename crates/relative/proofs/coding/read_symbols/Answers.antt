-- `coding::read_symbols` meets its contract. The loop's invariant: `before` is the byte sent before the byte at k, the first symbol standing before
-- the first byte, and the bytes of `out` below k are made.
-- Assumes nothing.
use mathlib.Core.Path.{◌≡◌, refl, ap₂, ◌∙◌}
use Prim.Native.Nat.{ℕ, ◌+◌, ◌*◌, ◌%◌}
use native.Mathlib.Omega.{arith}
use native.Mathlib.Numerals.{add-one}
use lib.ListN.{get_or, length-set}
use borrow.Author.Count.{below_none}
use Rattle.strings.proofs.Value.{Bytes}
use Rattle.strings.proofs.Shape.{shaped}
use Rattle.relative.proofs.Symbols.{with_above, made, made_at, set_more, all_read}
use Rattle.relative.proofs.coding.read_symbols.Goals as goal

bytes_ok : (c : goal.After-wide-in-loop-k) → Bytes c.args.s.now
bytes_ok c = λ k. (c.type_inv.s k).fits

bytes_ok-2 : (c : goal.After-slice_known-2-1) → Bytes c.args.s.now
bytes_ok-2 c = λ k. (c.type_inv.s k).fits

pub bounds-s-0 : goal.bounds-s-0
bounds-s-0 c = omega (arith, (shaped _ c.requires.0).0)

pub loop-k-init : goal.loop-k-init
loop-k-init c =
    ((omega arith, ((shaped _ c.requires.0).0, c.requires.1)), (refl, λ j. below_none (λ (i : ℕ). get_or c.args.out.now i 0 ≡ get_or (made c.args.s.now) i 0) j))

pub loop-k-preserved : goal.loop-k-preserved
loop-k-preserved c =
    let k = c.loop-k.k in
    let s = c.args.s.now in
    let i = c.loop-k.invariant in
    let both = ap₂ (λ (x y : ℕ). with_above (x * 256 + y) % 256) (c.wide.ensures.0 ∙ i.1.0) c.wide-in-loop-k.ensures.0 in
    ((omega arith, (i.0.1.0, simp length-set i.0.1.1)), (rw add-one, set_more c.loop-k.out (made s) k _ (omega arith) (both ∙ made_at s k (bytes_ok c) (omega arith)) i.1.1))

pub returns : goal.returns
returns c =
    let i = c.loop-k.invariant in
    all_read c.args.s.now c.loop-k.out (bytes_ok-2 c) i.0.1.0 i.0.1.1 (λ j h. i.1.1 j (omega arith))
