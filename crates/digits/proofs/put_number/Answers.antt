-- `put_number` meets its contract: the digits, then the byte (`Decimal`, `Pieces`). Assumes nothing.
use mathlib.Core.Path.{ap}
use mathlib.Core.List.{[], ◌∷◌}
use native.Mathlib.Omega.{arith}
use lib.ListN.{length, length-append}
use Rattle.digits.specs.Text.{decimal}
use Rattle.digits.proofs.Decimal.{spelled}
use Rattle.digits.proofs.Pieces.{puts_room, puts_as, puts_more}
use borrow.Author.Rules.{rules}
use Rattle.digits.proofs.put_number.Goals as goal

pub put-end-requires : goal.put-end-requires
put-end-requires c =
    let e = spelled _ _ _ (search rules) c.decimal-k.ensures.in_bounds c.decimal-k.ensures.len c.decimal-k.ensures.digits in
    let l = length-append (decimal c.args.n) (c.args.after ∷ []) in
    omega (arith, c.requires, l, e.1, ap length e.0)

pub put-requires : goal.put-requires
put-requires c =
    let e = spelled _ _ _ (search rules) c.decimal-k.ensures.in_bounds c.decimal-k.ensures.len c.decimal-k.ensures.digits in
    let l = length-append (decimal c.args.n) (c.args.after ∷ []) in
    omega (arith, c.requires, l, ap length e.0, c.put-end.ensures.past, puts_room c.put-end.ensures)

pub returns : goal.returns
returns c =
    puts_more (puts_as (spelled _ _ _ (search rules) c.decimal-k.ensures.in_bounds c.decimal-k.ensures.len c.decimal-k.ensures.digits).0 c.put-end.ensures) c.put.ensures
