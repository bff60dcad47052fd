-- No kind has a string number above 15: with the table of 0..15 (specs/Kinds.antt), which m a kind has.
-- Assumes nothing.
use mathlib.Core.Path.{◌≡◌, refl}
use mathlib.Core.Bool.{Bool, true, false, ◌&&◌}
use Prim.Native.Nat.{ℕ, ◌%◌, ◌≤◌, ◌<◌}
use native.Mathlib.Omega.{arith}
use borrow.Author.Tests.{lt-leb, ne_eqb}
use lib.Dec.{eqb, leb}
use Rattle.records.specs.declared.kinds.Kind.{Kind}
use Rattle.records.specs.declared.kinds.Kind.TheVariants.{One, Two, Three, Four, Five, Even, Odd, Fourteen}
use Rattle.layout.specs.Layout.{of_kind}

not_above : (m c : ℕ) → c < m → eqb m c ≡ false
not_above m c h = ne_eqb m c (λ e. omega arith)

half_above : (m u : ℕ) (a b : Bool) → u < m → (a && (leb m u && b)) ≡ false
half_above m u true b h = rw (lt-leb m u h)
half_above m u false b h = refl

pub none_above : (k : Kind) (m : ℕ) → 16 ≤ m → of_kind k m ≡ false
none_above One m h = not_above m 1 (omega arith)
none_above Two m h = not_above m 2 (omega arith)
none_above Three m h = not_above m 3 (omega arith)
none_above Four m h = not_above m 4 (omega arith)
none_above Five m h = not_above m 5 (omega arith)
none_above Even m h = half_above m 14 (leb 6 m) (eqb (m % 2) 0) (omega arith)
none_above Odd m h = half_above m 15 (leb 7 m) (eqb (m % 2) 1) (omega arith)
none_above Fourteen m h = not_above m 14 (omega arith)
