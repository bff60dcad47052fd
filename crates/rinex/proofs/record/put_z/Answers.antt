-- `record::put_z` meets its contract. Assumes nothing.
use borrow.Author.Rules.{rules}
use mathlib.Core.Path.{◌≡◌}
use mir.Syntax.{w32}
use mir.Val.{to_z, of_z}
use mir.ValLaws.{to_z-of_z}
use Rattle.rinex.proofs.record.put_z.Goals as goal

pub returns : goal.returns
returns c =
    let w = c.args.words in
    let g = c.struct_told-1.given in
    let e1 : to_z w32 (of_z w32 w.three.z) ≡ w.three.z = to_z-of_z w32 w.three.z (record { sfits = g.1.1.1.1.1.1.0.1 }) in
    let e2 : to_z w32 (of_z w32 w.three.zvel) ≡ w.three.zvel = search rules in
    let e3 : to_z w32 (of_z w32 w.three.zacc) ≡ w.three.zacc = search rules in
    let f = c.struct_told-4-1.given in
    let e4 : to_z w32 (of_z w32 w.four.e) ≡ w.four.e = to_z-of_z w32 w.four.e (record { sfits = f.1.1.1.0.1.1.1.1.0.1 }) in
    cc c.put_other.ensures
