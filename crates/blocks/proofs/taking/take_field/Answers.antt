-- `taking::take_field` meets its contract: a field at a time, by what was found (`Found`). Assumes nothing.
use Rattle.blocks.proofs.Found.{offer_room, takes_offer, reset_room, takes_reset, takes_end, takes_refused, takes_remark}
use native.Mathlib.Omega.{arith}
use Rattle.blocks.proofs.taking.take_field.Goals as goal

pub overflow_add-body : goal.overflow_add-body
overflow_add-body c =
    let h = offer_room c.next_at-found.ensures _ c.in-Offer.is in
    omega (arith, h)

pub slice_bounds-offer_field-end : goal.slice_bounds-offer_field-end
slice_bounds-offer_field-end c = offer_room c.next_at-found.ensures _ c.in-Offer.is

pub bounds-block-body : goal.bounds-block-body
bounds-block-body c = reset_room c.next_at-found.ensures _ c.in-Reset.is

pub returns-in-End : goal.returns-in-End
returns-in-End c = takes_end c.next_at-found.ensures c.in-End.is c.no_call.ensures

pub returns-in-Offer : goal.returns-in-Offer
returns-in-Offer c =
    takes_offer c.next_at-found.ensures _ c.in-Offer.is c.offer_field.ensures

pub returns-in-Reset : goal.returns-in-Reset
returns-in-Reset c =
    takes_reset c.next_at-found.ensures _ c.in-Reset.is c.reset_field.ensures

pub returns-in-Remark : goal.returns-in-Remark
returns-in-Remark c = takes_remark c.next_at-found.ensures c.in-Remark.is c.no_call-in-Remark.ensures

pub returns-in-Refused : goal.returns-in-Refused
returns-in-Refused c = takes_refused c.next_at-found.ensures _ _ c.in-Refused.is c.no_call-in-Refused.ensures
