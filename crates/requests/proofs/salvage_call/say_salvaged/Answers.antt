-- `salvage_call::say_salvaged` meets its contract: what a salvage wrote lies within the output and the list. Assumes nothing.
use Rattle.std.proofs.Common.{◌*◌, ◌≤◌, length, arith}
use Rattle.salvage.proofs.Ends.{left_in_lem}
use Rattle.salvage.proofs.Parts.{within}
use Rattle.requests.proofs.salvage_call.say_salvaged.Goals as goal

-- what a salvage wrote, where it was called
fits : (c : goal.After-struct_known-1) → 2 * c.salvage-salvaged.result.stretches ≤ length c.args.list.now
fits c =
    let args = c.args in
    (within args.file.now args.out.now args.list.now _ _ _ c.salvage-salvaged.ensures).1

lies : (c : goal.After-put_stretches-arg-1) → (c.salvage-salvaged.result.written ≤ length c.salvage-salvaged.new.out) × (2 * c.salvage-salvaged.result.stretches ≤ length c.salvage-salvaged.new.list)
lies c =
    let args = c.args in
    left_in_lem args.file.now args.out.now args.list.now _ _ _ c.salvage-salvaged.ensures

pub overflow_mul-told : goal.overflow_mul-told
overflow_mul-told c = omega (arith, fits c, c.well_formed)

pub slice_bounds-put_stretches-end : goal.slice_bounds-put_stretches-end
slice_bounds-put_stretches-end c = omega (arith, (lies c).1)
