-- `taking::offer_field` meets its contract: the offer of the sixteen bytes, and its answer. Assumes nothing.
use Rattle.blocks.proofs.Found.{makes_offer}
use Rattle.blocks.proofs.taking.offer_field.Goals as goal

pub returns : goal.returns
returns c =
    makes_offer c.args.st c.args.card c.args.body.now c.offer-stepped.result c.channel_in-channel.ensures c.epoch_in-epoch.ensures
    c.symbols_in.ensures c.offer-stepped.ensures
