-- `five_words` meets its contract: string 5 stands in bytes 44 to 54. Assumes nothing.
use mathlib.Core.Path.{ap, ◌∙◌}
use Rattle.records.specs.Records.{string5_of}
use Rattle.navigation_queries.specs.Five.{five_of}
use Rattle.navigation_queries.proofs.five_words.Goals as goal

pub returns : goal.returns
unfolding five_of
returns c = c.string5_of.ensures ∙ ap string5_of c.values_in.ensures
