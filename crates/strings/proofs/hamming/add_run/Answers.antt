-- `hamming::add_run` meets its contract: before bit i the sums are those of the bits below it, and `bits` is the rest of the run. Assumes nothing.
use mathlib.Core.Path.{◌≡◌, sym, ap, ◌∙◌}
use Prim.Native.Nat.{ℕ, ◌+◌, ◌-◌, ◌/◌, ◌%◌, ◌^◌, ◌≤◌}
use native.Mathlib.Omega.{arith}
use lib.Pow.{shr-shr}
use Rattle.strings.specs.Number.{number_of, bit_of, word_of}
use Rattle.strings.specs.Hamming.{position}
use Rattle.strings.proofs.WordOf.{bit_in_word}
use Rattle.strings.proofs.Runs.{sums_of, added}
use Rattle.strings.proofs.hamming.add_run.Goals as goal

pub loop-i-preserved : goal.loop-i-preserved
loop-i-preserved c =
    let l = c.loop-i in
    let a = c.args in
    let n = number_of a.s.now in
    let w = word_of n a.top a.low in
    let i = c.loop-i.i in
    let from : a.low ≤ i = l.invariant.0.0 in
    let to : i ≤ a.top = omega arith in
    let next : i ≡ i + 1 - 1 = omega arith in
    let past : i - a.low + 1 ≡ i + 1 - a.low = omega arith in
    let bit : l.bits % 2 ≡ bit_of n i = ap (λ (x : ℕ). x % 2) l.invariant.1.1 ∙ sym (bit_in_word n i a.top a.low c.requires.le_low.0.0 from to) in
    let at : i - a.less ≡ position i = sym (c.requires.by_index i from to) in (
      (omega arith, omega arith),
      (
        c.add_bit-t.ensures ∙ added n i (omega arith) (omega arith) l.invariant.1.0 bit at ∙ ap (λ (k : ℕ). sums_of (n % 2 ^ k)) next,
        ap (λ (x : ℕ). x / 2) l.invariant.1.1 ∙ shr-shr w (i - a.low) 1 ∙ ap (λ (k : ℕ). w / 2 ^ k) past,
      ),
    )
