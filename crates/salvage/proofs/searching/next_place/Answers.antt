-- `searching::next_place` meets its contract: what is found is the first place after the refused one. Assumes nothing.
use borrow.Author.Rules.{rules}
use mathlib.Core.Path.{◌≡◌, ◌∙◌}
use mathlib.Core.Bool.{true, false}
use Rattle.std.proofs.Common.{tests}
use Rattle.std.proofs.lemmas.Iterator.{first_from_Range}
use Rattle.salvage.specs.Items.{resumes}
use Rattle.salvage.proofs.Places.{next_found}
use Rattle.salvage.proofs.searching.next_place.Goals as goal

pub returns : goal.returns
returns c =
    let s = c.args.s.now in
    c.unwrap_or.ensures
    ∙ next_found s c.args.at c.find.result c.requires
    (first_from_Range _ _ _ c.find.result (λ q. resumes s q ≡ true) (λ q. resumes s q ≡ false) c.find.ensures.ran (λ x q k. search (rules, tests))
    (λ x q k. (search rules, search (rules, tests))))
