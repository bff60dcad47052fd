-- `queries::health_of` meets its contract: by where the call entered. Assumes nothing.
use Rattle.station.specs.Station.{no_row}
use Rattle.station.proofs.Served.{opened, shut}
use Rattle.station.proofs.Asked.{health_shut, health_there}
use Rattle.std.proofs.lemmas.Result.{err_from_is_err_and}
use Rattle.station.proofs.queries.health_of.Goals as goal

pub returns-in_err-kept : goal.returns-in_err-kept
returns-in_err-kept c =
    let a = c.args in
    let p = err_from_is_err_and c.from_residual.result c.from_residual.ensures.1 in
    rw (p.1, p.2) (health_shut a.st a.card a.channel _ (shut a.card a.channel c.enter.ensures c.in_err-kept.was))

pub returns : goal.returns
unfolding no_row
returns c =
    let a = c.args in
    health_there a.st a.card a.channel _ (opened a.card a.channel c.enter.ensures c.in_ok-kept.was) _ c.health_by.ensures
