-- `coding::send_symbols` meets its contract: the symbol before a bit is sent already, so each turn sends one bit more (`part_sent`). Assumes nothing.
use mathlib.Core.Path.{◌≡◌, sym, ap, ◌∙◌}
use Prim.Native.Nat.{ℕ, ◌+◌, ◌-◌}
use native.Mathlib.Omega.{arith}
use Rattle.strings.specs.Number.{bit_of, number_of, flip, bytes_of_string}
use Rattle.strings.proofs.Value.{Bytes, number_lt, bytes_of_string_lem}
use Rattle.strings.proofs.Shape.{shaped}
use Rattle.relative.proofs.Symbols.{part_sent, sent_none, sent_all, sends_one, sends_zero}
use Rattle.relative.proofs.coding.send_symbols.Goals as goal

-- the symbol sent before, as the code reads it
above : (n x k : ℕ) {r : ℕ} → x ≡ part_sent n k → r ≡ bit_of x (k + 1) → bit_of (part_sent n k) (k + 1) ≡ r
above n x k e f = ap (λ (y : ℕ). bit_of y (k + 1)) (sym e) ∙ sym f

pub loop-i-init : goal.loop-i-init
loop-i-init c =
    let s = c.args.s.now in
    let h = shaped s c.requires in
    let b : Bytes s = (λ k. (c.type_inv.s k).fits) in
    (h.0, (sym (sent_none (number_of s) (number_lt s b h.0)), (h.1, b)))

pub loop-i-preserved-then-bit-eq1 : goal.loop-i-preserved-then-bit-eq1
loop-i-preserved-then-bit-eq1 c =
    let n = number_of c.args.s.now in
    let k = c.loop-i.i - 1 in
    let i = c.loop-i.invariant in
    let b = above n (number_of c.loop-i.s) k i.1.0 c.bit.ensures in (
      c.flip_bit.auto.s ∙ i.0,
      (
        c.flip_bit.ensures.0 ∙ ap (λ (x : ℕ). flip x k) i.1.0 ∙ sends_one n k (omega arith) (omega arith) (b ∙ c.if-bit-eq1.true),
        (c.flip_bit.ensures.1 ∙ i.1.1.0, λ j. (c.type_inv.s j).fits),
      ),
    )

pub loop-i-preserved : goal.loop-i-preserved
loop-i-preserved c =
    let n = number_of c.args.s.now in
    let k = c.loop-i.i - 1 in
    let i = c.loop-i.invariant in
    let b = above n (number_of c.loop-i.s) k i.1.0 c.bit.ensures in
    (i.0, (i.1.0 ∙ sends_zero n k (omega arith) (omega arith) (λ q. c.if-bit-eq1.false (sym b ∙ q)), i.1.1))

pub returns : goal.returns
returns c =
    let i = c.loop-i.invariant in
    let n = number_of c.args.s.now in
    let z : c.loop-i.i - 1 ≡ 0 = omega arith in
    sym (bytes_of_string_lem c.loop-i.s i.1.1.1 i.0 i.1.1.0) ∙ ap bytes_of_string (i.1.0 ∙ ap (part_sent n) z ∙ sent_all n)
