-- `superframe::refusing::in_order` meets its contract. Assumes nothing.
use borrow.Author.Rules.{rules}
use mathlib.Core.Path.{◌≡◌, refl}
use mathlib.Core.Bool.{true, false}
use Rattle.std.proofs.Common.{tests}
use Rattle.std.proofs.lemmas.Iterator.{cases_from_all, YieldsList-from_range}
use Rattle.superframe.proofs.Lowest.{carries, slots_found}
use Rattle.superframe.proofs.refusing.in_order.Goals as goal

pub returns : goal.returns
returns c =
    let sky = c.args.sky in
    slots_found sky c.all.result
    (cases_from_all _ _ c.all.result (λ k. carries sky k ≡ true) (λ k. carries sky k ≡ false) c.all.ensures.ran (YieldsList-from_range 1 25 24 refl refl)
    (λ x q k. search (rules, tests)) (λ x q k. search (rules, tests)))
