-- `superframe::refusing::lowest_bad` meets its contract. Assumes nothing.
use borrow.Author.Rules.{rules}
use mathlib.Core.Path.{◌≡◌, ◌∙◌}
use mathlib.Core.Bool.{true, false}
use Rattle.std.proofs.Common.{tests}
use Rattle.std.proofs.lemmas.Iterator.{first_from_Range}
use Rattle.superframe.specs.Refused.{string_bad}
use Rattle.superframe.proofs.Lowest.{lowest_found}
use Rattle.superframe.proofs.refusing.lowest_bad.Goals as goal

pub returns : goal.returns
returns c =
    let sky = c.args.sky in
    c.unwrap_or.ensures
    ∙ lowest_found sky c.find.result
    (first_from_Range _ _ _ c.find.result (λ i. string_bad sky i ≡ true) (λ i. string_bad sky i ≡ false) c.find.ensures.ran (λ x q k. search (rules, tests))
    (λ x q k. (search rules, search (rules, tests))))
