-- `whole::measured_offers` meets its contract: one record after the other is offered and its answer added up (`Offered`).
-- Assumes nothing.
use Rattle.std.proofs.lemmas.List.{length_push}
use Rattle.fields.proofs.Cut.{cut_none, cut_next, cut_more, cut_all}
use Rattle.measured.proofs.Offered.{none_yet, one_more_lem, all_told}
use Rattle.measured.proofs.whole.measured_offers.Goals as goal

pub loop-rec-init : goal.loop-rec-init
loop-rec-init c =
    let items = c.chunks_exact-rec-items.ensures in
    (none_yet _ _ c.fresh-st.ensures, cut_none c.into_iter-rec-iterator.ensures.into_iter_gives items.size items.rest)

pub loop-rec-preserved : goal.loop-rec-preserved
loop-rec-preserved c =
    let cut = c.loop-rec.invariant.1 in
    let rec = c.in-Some.rec in
    let left = c.next.new.self in
    let told = one_more_lem c.loop-rec.invariant.0 (cut_next cut rec left c.in-Some.ensures.steps) c.offer_record-stepped.ensures c.byte_told-sum.ensures in
    (rw (length_push c.loop-rec.yielded rec) told, cut_more cut rec left c.in-Some.ensures.steps)

pub returns : goal.returns
returns c =
    all_told c.loop-rec.invariant.0 (cut_all c.loop-rec.invariant.1 c.next.new.self c.in-None.ensures.steps) c.top_of_slot_1.ensures
