-- `offering::offer` meets its contract: the row taken out, offered the string and put back, the book and its summary. Assumes nothing.
use Rattle.station.specs.Station.{no_row}
use Rattle.station.proofs.Served.{opened, shut}
use Rattle.station.proofs.AfterOffer.{offer_shut, after_offer_lem, offer_open}
use Rattle.station.proofs.offering.offer.Goals as goal

pub returns-in-Err : goal.returns-in-Err
returns-in-Err c =
    let a = c.args in
    offer_shut a.st a.card a.channel a.epoch a.s.now _ (shut a.card a.channel c.enter-gate.ensures c.in-Err.is)

pub returns-in-Ok : goal.returns-in-Ok
unfolding no_row
returns-in-Ok c =
    let b = c.bring_if-brought in
    let a = c.args in
    offer_open a.st a.card a.channel _ a.epoch a.s.now _ (opened a.card a.channel c.enter-gate.ensures c.in-Ok.is)
    (λ f.
    after_offer_lem a.st a.card _ a.epoch a.s.now c.offer-offered.result b.result.book b.result.changed c.next_summary-kept.result
    f c.offer-offered.ensures b.ensures.0 b.ensures.1 c.next_summary-kept.ensures)
