-- `stream::write_header` is safe: the text is as long as the header (`Pieces`). Assumes nothing.
use native.Mathlib.Omega.{arith}
use Rattle.navfile.proofs.Pieces.{header_long}
use Rattle.navfile.proofs.Telling.{written_length}
use Rattle.navfile.proofs.stream.write_header.Goals as goal

pub slice_bounds-text-end : goal.slice_bounds-text-end
slice_bounds-text-end g c = omega (arith, header_long, c.put_header-end.ensures.past)

pub slice_bounds-write_all-end : goal.slice_bounds-write_all-end
slice_bounds-write_all-end g c =
    let p = c.put_header-end in
    written_length p.ensures (omega (arith, header_long, p.ensures.past))
