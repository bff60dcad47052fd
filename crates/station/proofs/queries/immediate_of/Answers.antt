-- `queries::immediate_of` meets its contract: by where the call entered, and whether there is a record. Assumes nothing.
use mathlib.Core.Path.{◌∙◌, sym}
use Rattle.station.specs.Station.{no_row}
use Rattle.station.proofs.Served.{opened, shut}
use Rattle.station.proofs.Asked.{record_shut, record_missing, record_there}
use Rattle.std.proofs.lemmas.Result.{err_from_is_err_and}
use Rattle.station.proofs.queries.immediate_of.Goals as goal

pub returns-in_err-four : goal.returns-in_err-four
returns-in_err-four c =
    let a = c.args in
    let p = err_from_is_err_and c.from_residual.result c.from_residual.ensures.1 in
    rw (p.1, p.2) (record_shut a.st a.card a.channel _ (shut a.card a.channel c.enter.ensures c.in_err-four.was))

pub returns-else-has_record : goal.returns-else-has_record
unfolding no_row
returns-else-has_record c =
    let a = c.args in
    record_missing a.st a.card a.channel _ (opened a.card a.channel c.enter.ensures c.in_ok-four.was) (sym c.has_record.ensures ∙ c.if-has_record.false)

pub returns-then-has_record : goal.returns-then-has_record
unfolding no_row
returns-then-has_record c =
    let a = c.args in
    record_there a.st a.card a.channel _ (opened a.card a.channel c.enter.ensures c.in_ok-four.was) (sym c.has_record.ensures ∙ c.if-has_record.true) _ c.immediate_words.ensures
