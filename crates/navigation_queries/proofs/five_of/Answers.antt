-- `five_of` meets its contract: by where the call entered, and whether string 5 is there. Assumes nothing.
use Rattle.shows.proofs.Shows.{is_so, is_not}
use Rattle.station.specs.Station.{no_row}
use Rattle.station.proofs.Served.{opened}
use Rattle.navigation_queries.proofs.Five.{five_missing, five_found}
use Rattle.navigation_queries.proofs.five_of.Goals as goal

pub returns-else-has_five : goal.returns-else-has_five
unfolding no_row
returns-else-has_five c =
    let a = c.args in
    five_missing a.st a.card a.channel _ (opened a.card a.channel c.enter.ensures c.in_ok-row.was) (is_not c.has_five.ensures c.if-has_five.false)

pub returns-then-has_five : goal.returns-then-has_five
unfolding no_row
returns-then-has_five c =
    let a = c.args in
    five_found a.st a.card a.channel _ (opened a.card a.channel c.enter.ensures c.in_ok-row.was) (is_so c.has_five.ensures c.if-has_five.true) _ c.five_words.ensures
