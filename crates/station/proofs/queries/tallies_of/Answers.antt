-- `queries::tallies_of` meets its contract: by where the call entered. Assumes nothing.
use Rattle.station.specs.Station.{no_row}
use Rattle.station.proofs.Served.{opened, shut}
use Rattle.station.proofs.Asked.{tallies_shut, tallies_there}
use Rattle.std.proofs.lemmas.Result.{err_from_is_err_and}
use Rattle.station.proofs.queries.tallies_of.Goals as goal

pub returns-in_err-t : goal.returns-in_err-t
returns-in_err-t c =
    let a = c.args in
    let p = err_from_is_err_and c.from_residual.result c.from_residual.ensures.1 in
    rw (p.1, p.2) (tallies_shut a.st a.card a.channel _ (shut a.card a.channel c.enter.ensures c.in_err-t.was))

pub returns : goal.returns
unfolding no_row
returns c =
    let a = c.args in
    tallies_there a.st a.card a.channel _ (opened a.card a.channel c.enter.ensures c.in_ok-t.was)
