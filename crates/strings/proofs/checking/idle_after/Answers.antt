-- `checking::idle_after` meets its contract. Assumes nothing.
use mathlib.Core.Path.{sym, subst}
use native.Mathlib.Omega.{arith}
use borrow.Author.Tests.{eq-eqb, ne_eqb}
use Rattle.strings.specs.Number.{number_of}
use Rattle.strings.specs.Hamming.{NamesBit}
use Rattle.strings.proofs.Digits.{bit_flip}
use Rattle.strings.proofs.checking.idle_after.Goals as goal

pub returns-then-i-eq85 : goal.returns-then-i-eq85
returns-then-i-eq85 c =
    let n = number_of c.args.s.now in
    let e = rw (eq-eqb 85 c.in-Repaired.i (sym c.if-i-eq85.true)) at (bit_flip n 85 c.in-Repaired.i (omega arith) (subst NamesBit c.in-Repaired.is c.requires.1).0) in
    rw c.in-Repaired.is (omega (arith, e, c.bit-b.ensures))

pub returns-else-i-eq85 : goal.returns-else-i-eq85
returns-else-i-eq85 c =
    let n = number_of c.args.s.now in
    let e = rw (ne_eqb 85 c.in-Repaired.i (λ q. c.if-i-eq85.false (sym q))) at (bit_flip n 85 c.in-Repaired.i (omega arith) (subst NamesBit c.in-Repaired.is c.requires.1).0) in
    rw c.in-Repaired.is (omega (arith, e, c.bit-b.ensures))
