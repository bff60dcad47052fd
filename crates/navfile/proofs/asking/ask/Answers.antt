-- `asking::ask` meets its contract, by what the call that writes a record answered (`Telling`). Assumes nothing.
use mathlib.Core.Path.{refl}
use native.Mathlib.Omega.{arith}
use Rattle.navfile.proofs.Telling.{satellite_most, record_long, tells_ask, tells_unwritten}
use Rattle.navfile.proofs.asking.ask.Goals as goal

pub put_new-requires : goal.put_new-requires
put_new-requires c =
    let n = satellite_most c.args.card c.args.office c.args.channel _ _ c.args.text.now c.args.at _ refl c.write_record-answer.ensures _ _ c.in-Ok.is in
    let l = record_long c.args.card c.args.office c.args.channel _ _ c.args.text.now c.args.at _ refl c.write_record-answer.ensures _ _ c.in-Ok.is in
    (omega arith, omega (arith, c.requires))

pub returns-in-Ok : goal.returns-in-Ok
returns-in-Ok c =
    tells_ask c.args.card c.args.office c.args.channel _ _ c.args.text.now c.args.at _ refl c.write_record-answer.ensures _ _ c.in-Ok.is _ _ c.put_new.ensures

pub returns-in-Err : goal.returns-in-Err
returns-in-Err c =
    tells_unwritten c.args.card c.args.office c.args.channel _ _ c.args.text.now c.args.at _ refl c.write_record-answer.ensures _ c.in-Err.is
