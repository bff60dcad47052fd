-- `record_lines::list_record` meets its contract: what the offer answers, and what is seen of the string (`Tells`). Assumes nothing.
use Rattle.lines.proofs.Tells.{lists_by}
use Rattle.lines.proofs.record_lines.list_record.Goals as goal

pub returns : goal.returns
returns c =
    lists_by c.args.st c.args.rec.now _ _ _ _ _ _ c.channel_in-channel.ensures c.epoch_in-epoch.ensures c.symbols_in-symbols.ensures
    c.offer-stepped.ensures c.number_told.ensures c.seen_by-seen.ensures
