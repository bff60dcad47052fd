-- `asking::asked_at` meets its contract, by what was found (`Asks`). Assumes nothing.
use native.Mathlib.Omega.{arith}
use Rattle.blocks.proofs.Found.{offer_room, reset_room}
use Rattle.lent_blocks.proofs.Asks.{asks_offer, asks_reset, asks_end, asks_remark, asks_refused}
use Rattle.lent_blocks.proofs.asking.asked_at.Goals as goal

pub overflow_add-sixteen : goal.overflow_add-sixteen
overflow_add-sixteen c =
    let h = offer_room c.next_at-found.ensures _ c.in-Offer.is in
    omega (arith, h)

pub slice_bounds-sixteen-end : goal.slice_bounds-sixteen-end
slice_bounds-sixteen-end c = offer_room c.next_at-found.ensures _ c.in-Offer.is

pub bounds-block-body : goal.bounds-block-body
bounds-block-body c = reset_room c.next_at-found.ensures _ c.in-Reset.is

pub returns-in-End : goal.returns-in-End
returns-in-End c = asks_end c.next_at-found.ensures c.in-End.is

pub returns-in-Offer : goal.returns-in-Offer
returns-in-Offer c = rw (c.channel_in.ensures, c.epoch_in.ensures) (asks_offer c.next_at-found.ensures _ c.in-Offer.is)

pub returns-in-Reset : goal.returns-in-Reset
returns-in-Reset c = asks_reset c.next_at-found.ensures _ c.in-Reset.is

pub returns-in-Remark : goal.returns-in-Remark
returns-in-Remark c = asks_remark c.next_at-found.ensures c.in-Remark.is

pub returns-in-Refused : goal.returns-in-Refused
returns-in-Refused c = rw c.why_number.ensures (asks_refused c.next_at-found.ensures _ _ c.in-Refused.is)
