-- `sky::line::write_halves` meets its contract. Assumes nothing.
use native.Mathlib.Omega.{arith}
use native.Mathlib.Numerals.{add-one}
use native.Mathlib.Nat.{add-zero}
use Prim.Native.Nat.{ℕ, ◌+◌, ◌-◌, ◌*◌, ◌≤◌}
use mathlib.Core.Path.{◌≡◌, refl}
use mathlib.Core.List.{List, [], ◌∷◌, ◌++◌, append-nil, append_assoc}
use lib.ListN.{length, take, drop}
use Rattle.sky.specs.Line.{symbol_of, halves}
use Rattle.sky.specs.Front.{Front}
use Rattle.sky.proofs.Front.{front_start, front_more, two_set}
use Rattle.sky.proofs.line.write_halves.Goals as goal

start : (s o : List ℕ) (at : ℕ) → Front o (take at o ++ halves s 0) o (at + 2 * 0)
unfolding halves
start s o at = rw (append-nil (take at o), add-zero at) (front_start o at)

more : (s o out : List ℕ) (at j b : ℕ) → Front o (take at o ++ halves s j) out (at + 2 * j) → at + 2 * j + 2 ≤ length o → b ≡ symbol_of s j → (out' : List ℕ)
    → out' ≡ take (at + 2 * j) out ++ ((b ∷ (1 - b) ∷ []) ++ drop (at + 2 * j + 2) out) → Front o (take at o ++ halves s (j + 1)) out' (at + 2 * (j + 1))
unfolding halves
more s o out at j b f h e out' q =
    let d : at + 2 * (j + 1) ≡ at + 2 * j + 2 = omega arith in
    rw (d, add-one j, ← append_assoc (take at o) (halves s j) (symbol_of s j ∷ (1 - symbol_of s j) ∷ []), ← e)
    (front_more f (b ∷ (1 - b) ∷ []) out' 2 refl h q)

pub loop-j-init : goal.loop-j-init
loop-j-init c = start c.args.s.now c.args.out.now c.args.at

pub loop-j-preserved : goal.loop-j-preserved
loop-j-preserved c =
    more c.args.s.now c.args.out.now c.loop-j.out c.args.at c.loop-j.j c.symbol-b.result c.loop-j.invariant (omega (arith, c.requires.1)) c.symbol-b.ensures _
    (two_set c.loop-j.out (c.args.at + 2 * c.loop-j.j) c.symbol-b.result (1 - c.symbol-b.result) (omega (arith, c.requires.1, c.loop-j.invariant.long)))
