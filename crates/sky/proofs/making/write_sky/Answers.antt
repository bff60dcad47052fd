-- `sky::making::write_sky` meets its contract. Assumes nothing.
use native.Mathlib.Omega.{arith}
use native.Mathlib.Numerals.{add-one}
use Prim.Native.Nat.{ℕ, suc, ◌+◌, ◌*◌}
use mathlib.Core.Path.{◌≡◌, ap, ◌∙◌}
use mathlib.Core.List.{List, ◌++◌}
use lib.ListN.{length, take, drop}
use Rattle.superframe.specs.declared.Sky.{Sky}
use Rattle.superframe.specs.Sky.{sky_string}
use Rattle.sky.specs.Front.{Front}
use Rattle.sky.specs.Line.{relative_bytes, line_of, lines_of, sky_lines}
use Rattle.sky.proofs.Lines.{lines_none, lines_more, lines_done}
use Rattle.sky.proofs.making.write_sky.Goals as goal

-- the strings that are sent, from 0
abbrev sent : Sky → ℕ → List ℕ
sent sky i = relative_bytes (sky_string sky (suc i))

next : (sky : Sky) (i : ℕ) → relative_bytes (sky_string sky (i + 1)) ≡ sent sky i
next sky i = ap (λ (k : ℕ). relative_bytes (sky_string sky k)) (add-one i)

all : (sky : Sky) (o out : List ℕ) → length o ≡ 15000 → Front o (lines_of (sent sky) 75) out 15000 → out ≡ sky_lines sky
unfolding sky_lines
all sky o out h g = lines_done (sent sky) o out h g

pub loop-i-init : goal.loop-i-init
loop-i-init c = lines_none (sent c.args.sky) c.args.out.now

pub loop-i-preserved : goal.loop-i-preserved
loop-i-preserved c =
    let k = c.loop-i.i in
    lines_more (sent c.args.sky) c.args.out.now c.loop-i.out _ k c.loop-i.invariant (omega (arith, c.requires.1))
    (c.write_line.ensures
    ∙ ap (λ (x : List ℕ). take (200 * k) c.loop-i.out ++ (line_of x ++ drop (200 * k + 200) c.loop-i.out)) (c.relative_in-s.ensures ∙ next c.args.sky k))

pub returns : goal.returns
returns c =
    let e : c.loop-i.i ≡ 75 = omega arith in
    all c.args.sky c.args.out.now c.loop-i.out c.requires.1 (rw e at c.loop-i.invariant)
