-- `printing::print_records` meets its contract: one record after the other is printed (`Block`), and then the bytes left over.
-- Assumes nothing.
use native.Mathlib.Omega.{arith}
use Rattle.std.proofs.lemmas.List.{length_push}
use Rattle.fields.proofs.Cut.{cut_none, cut_next, cut_more, cut_all}
use Rattle.lines.proofs.Block.{none_yet, one_more_lem, all_printed}
use Rattle.lines.proofs.printing.print_records.Goals as goal

pub loop-rec-init : goal.loop-rec-init
loop-rec-init c =
    let items = c.chunks_exact-rec-items.ensures in
    (none_yet, cut_none c.into_iter-rec-iterator.ensures.into_iter_gives items.size items.rest)

pub loop-rec-preserved : goal.loop-rec-preserved
loop-rec-preserved c =
    let cut = c.loop-rec.invariant.1 in
    let rec = c.in-Some.rec in
    let left = c.next.new.self in
    let next = cut_next cut rec left c.in-Some.ensures.steps in
    let printed = one_more_lem _ c.loop-rec.invariant.0 next c.list_record-listed.ensures c.put_line-end.ensures.0 c.put_line-end.ensures.1 in
    (rw (length_push c.loop-rec.yielded rec) printed, cut_more cut rec left c.in-Some.ensures.steps)

pub returns : goal.returns
returns c =
    let s = c.loop-rec.invariant.0 in
    let all = cut_all c.loop-rec.invariant.1 c.next.new.self c.in-None.ensures.steps in
    all_printed _ s all c.put_left_over.ensures.0 (omega (arith, c.put_left_over.ensures.1, s.bound, all, c.requires))
