-- `entering::enter` meets its contract. Assumes nothing.
use mathlib.Core.Path.{refl, sym, ◌∙◌}
use Rattle.shows.proofs.Shows.{is_so, is_not}
use Rattle.station.proofs.Served.{enters_no_card, enters_no_channel, enters_not_owner, enters_open}
use Rattle.station.proofs.entering.enter.Goals as goal

pub returns-then-not-is_card : goal.returns-then-not-is_card
returns-then-not-is_card c = let a = c.args in enters_no_card a.card a.channel (is_not c.is_card.ensures c.if-not-is_card.true)

pub returns-then-channel-gt-LAST_CHANNEL : goal.returns-then-channel-gt-LAST_CHANNEL
returns-then-channel-gt-LAST_CHANNEL c =
    let a = c.args in
    enters_no_channel a.card a.channel (is_so c.is_card.ensures c.if-not-is_card.false) c.if-channel-gt-LAST_CHANNEL.true

pub returns-then-owner_of-card : goal.returns-then-owner_of-card
returns-then-owner_of-card c =
    let a = c.args in
    enters_not_owner a.card a.channel (is_so c.is_card.ensures c.if-not-is_card.false) c.if-channel-gt-LAST_CHANNEL.false
    (λ e. c.if-owner_of-card.true (c.owner_of.ensures ∙ e))

pub returns : goal.returns
returns c =
    let a = c.args in
    enters_open a.card a.channel _ (is_so c.is_card.ensures c.if-not-is_card.false) c.if-channel-gt-LAST_CHANNEL.false
    (sym c.owner_of.ensures ∙ c.if-owner_of-card.false) refl
