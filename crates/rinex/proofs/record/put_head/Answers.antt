-- `record::put_head` meets its contract. Assumes nothing.
use borrow.Author.Rules.{rules}
use mathlib.Core.Path.{◌≡◌}
use lib.Dec.{lit≤}
use mir.Syntax.{w32}
use mir.Val.{to_z, of_z}
use mir.ValLaws.{to_z-of_z}
use Rattle.rinex.specs.Record.{head_of}
use Rattle.rinex.proofs.Naturals.{same, kept}
use Rattle.rinex.proofs.record.put_head.Goals as goal

pub returns : goal.returns
unfolding head_of
returns c =
    let w = c.args.words in
    let p = c.requires.writable in
    let tau : to_z w32 (of_z w32 w.four.tau) ≡ w.four.tau = search rules in
    let g = c.struct_told-1.given in
    let gamma : to_z w32 (of_z w32 w.three.gamma) ≡ w.three.gamma = to_z-of_z w32 w.three.gamma (record { sfits = g.1.1.0.1.1.1.0.1 }) in
    let time = kept c.frame_time-time.result _ c.frame_time-time.ensures in
    let n4 = same c.args.n4 p.four_years (lit≤ tt) in
    let nt = same w.four.nt p.day (lit≤ tt) in
    let tb = same w.two.tb p.interval (lit≤ tt) in
    let tk = same w.one.tk p.time (lit≤ tt) in
    let n = same w.four.n p.satellite (lit≤ tt) in
    cc (c.put_first.ensures, c.epoch_of-e.ensures, c.frame_time-time.ensures)
