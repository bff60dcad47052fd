-- `superframe::placing::string_in` meets its contract. Assumes nothing.
use mathlib.Core.Path.{refl}
use Rattle.superframe.proofs.Encoder.{string_is}
use Rattle.superframe.proofs.placing.string_in.Goals as goal

pub returns : goal.returns
returns c =
    let r = c.record_in-r in
    let w = c.write_words in
    string_is c.args.sky c.args.i c.requires.0.0 c.requires.0.1 r.result r.ensures _ _ w.result refl w.ensures c.requires.1
