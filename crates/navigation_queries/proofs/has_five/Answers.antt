-- `has_five` meets its contract: by the record, the two starts, and the mask. Assumes nothing.
use mathlib.Core.Path.{◌∙◌}
use Rattle.shows.proofs.Shows.{is_so, is_not}
use Rattle.navigation_queries.proofs.Five.{no_record_no_five, apart_no_five, five_present}
use Rattle.navigation_queries.proofs.has_five.Goals as goal

pub returns-then-not-has_record : goal.returns-then-not-has_record
returns-then-not-has_record c = no_record_no_five c.args.row (is_not c.has_record.ensures c.if-not-has_record.true)

pub returns-then-kept-row : goal.returns-then-kept-row
returns-then-kept-row c = apart_no_five c.args.row c.if-kept-row.true

pub returns : goal.returns
returns c =
    let row = c.args.row in
    c.has_string.ensures ∙ five_present row (is_so c.has_record.ensures c.if-not-has_record.false) c.if-kept-row.false
