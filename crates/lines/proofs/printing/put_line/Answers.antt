-- `printing::put_line` meets its contract: its numbers in a row, and no number longer than it can be (`Row`). Assumes nothing.
use mathlib.Core.Path.{ap}
use native.Mathlib.Omega.{arith}
use lib.ListN.{length}
use Rattle.digits.specs.Text.{row}
use Rattle.lines.specs.Text.{line_digits, line_text}
use Rattle.digits.proofs.Pieces.{puts_as}
use Rattle.digits.proofs.Row.{row_length}
use Rattle.lines.proofs.printing.put_line.Goals as goal

pub put_numbers-requires : goal.put_numbers-requires
put_numbers-requires c =
    let e = c.numbers_of-numbers.ensures in
    (omega (arith, c.requires, row_length line_digits c.numbers_of-numbers.result e.1), omega (arith, ap length e.0))

pub returns : goal.returns
unfolding line_text
returns c =
    let p = c.put_numbers.ensures in
    let n = c.numbers_of-numbers in
    (puts_as (ap row n.ensures.0) p, omega (arith, p.past, row_length line_digits n.result n.ensures.1))
