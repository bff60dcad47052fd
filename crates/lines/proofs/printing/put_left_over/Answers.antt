-- `printing::put_left_over` meets its contract: nothing, or the word and the number (`Decimal`, `Pieces`). Assumes nothing.
use native.Mathlib.Omega.{arith}
use borrow.Author.Tests.{eq-eqb, ne_eqb}
use Rattle.lines.specs.Text.{left_over}
use Rattle.digits.proofs.Decimal.{cell_length}
use Rattle.digits.proofs.Pieces.{puts_room, puts_more, puts_none}
use Rattle.lines.proofs.printing.put_left_over.Goals as goal

pub returns-then-count-eq0 : goal.returns-then-count-eq0
unfolding left_over
returns-then-count-eq0 c = rw (eq-eqb c.args.count 0 c.if-count-eq0.true) (puts_none, omega arith)

pub put_number-requires : goal.put_number-requires
put_number-requires c =
    omega (arith, c.requires, cell_length 2 c.args.count 10 (omega arith) (omega (arith, c.requires.1)), c.put-number.ensures.past, puts_room c.put-number.ensures)

pub returns : goal.returns
unfolding left_over
returns c =
    rw (ne_eqb c.args.count 0 c.if-count-eq0.false) (
      puts_more c.put-number.ensures c.put_number.ensures,
      omega (arith, cell_length 2 c.args.count 10 (omega arith) (omega (arith, c.requires.1)), c.put-number.ensures.past, c.put_number.ensures.past),
    )
