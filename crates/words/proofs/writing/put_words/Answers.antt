-- `writing::put_words` meets its contract: before place j, the words of the places from j on are still to be added. Assumes nothing.
use mathlib.Core.Path.{◌≡◌, sym, ap, ap₂, ◌∙◌}
use mathlib.Core.List.{List}
use Prim.Native.Nat.{ℕ, ◌+◌, ◌*◌, ◌^◌, ◌≤◌}
use native.Mathlib.Nat.{add_assoc, add-zero}
use native.Mathlib.Omega.{arith}
use borrow.Author.Rules.{rules}
use lib.IntN.{ℤ, pos}
use lib.ListN.{length, get_or, drop, drop_of_length-le}
use mir.Syntax.{w32}
use mir.Val.{SFits}
use mir.Facts.{to_z-of_z}
use Rattle.strings.specs.Number.{value_of, bytes_of}
use Rattle.strings.proofs.Value.{length_bytes, bytes_value}
use Rattle.layout.specs.declared.table.Word.{Word}
use Rattle.layout.specs.Layout.{layout}
use Rattle.words.specs.Values.{code_in, data_of}
use Rattle.layout.proofs.Rows.{layout_long}
use Rattle.words.proofs.Loops.{data_step}
use Rattle.words.proofs.Carrying.{bytes_are, bytes_add}
use Rattle.words.proofs.writing.put_words.Goals as goal

-- the value at the place
abbrev value : (c : goal.After-slice_known-in-loop-j-1) → ℤ
value c = get_or c.args.v c.loop-j.j (pos 0)

-- what the words from place j on add
abbrev left : (c : goal.After-slice_known-in-loop-j-1) → ℕ → ℕ
left c j = data_of (drop j (layout c.args.k)) (drop j c.args.v) * 8

-- what `code_of` says, of the value itself
coded : (c : goal.After-slice_known-in-loop-j-1) → c.code_of-bits.result ≡ code_in c.word_at-w.result (value c)
coded c =
    let f : SFits w32 (value c) = search rules in
    simp (to_z-of_z f) at c.code_of-bits.ensures.0

long : (c : goal.After-slice_known-in-loop-j-1) → length c.args.v ≡ 8
long c = search rules

-- the word's bits, and the data of the places after it, are the data of the places from it on
step : (c : goal.After-slice_known-in-loop-j-1)
    → c.code_of-bits.result * 2 ^ (c.word_at-w.result.low + 2) + left c (c.loop-j.j + 1)
    ≡ left c c.loop-j.j
step c =
    let a = c.args in
    let w = c.word_at-w.result in
    let j = c.loop-j.j in
    let h = c.loop-j-test.true in
    ap (λ (x : ℕ). x * 2 ^ (w.low + 2) + left c (j + 1)) (coded c)
    ∙ data_step (layout a.k) a.v j w (rw (layout_long a.k) h) (rw (long c) h) c.word_at-w.ensures.0 c.word_at-w.ensures.1.first

pub loop-j-preserved : goal.loop-j-preserved
loop-j-preserved c =
    let out = c.add_at.ensures in
    let l = c.loop-j in
    let v = value_of l.out in
    let x = c.code_of-bits.result * 2 ^ (c.word_at-w.result.low + 2) in
    let y = left c (l.j + 1) in (
      (omega arith, (ap length out ∙ length_bytes 11 (v + x), rw out (bytes_are 11 (v + x)))),
      ap (λ (o : List ℕ). bytes_of 11 (value_of o + y)) out ∙ bytes_add 11 (v + x) y
          ∙ ap (bytes_of 11) (add_assoc v x y ∙ ap (λ (n : ℕ). v + n) (step c)) ∙ l.invariant.1,
    )

pub returns : goal.returns
unfolding data_of
returns c =
    let l = c.loop-j in
    let a = c.args in
    let v = value_of l.out in
    let r : length (layout a.k) ≤ l.j = omega (arith, layout_long a.k) in
    let z = ap (λ (ws : List Word). data_of ws (drop l.j a.v)) (drop_of_length-le (layout a.k) r) in
    sym (bytes_value l.out l.invariant.0.1.1)
    ∙ ap₂ bytes_of l.invariant.0.1.0 (sym (add-zero v) ∙ ap (λ (n : ℕ). v + n * 8) (sym z))
    ∙ l.invariant.1
