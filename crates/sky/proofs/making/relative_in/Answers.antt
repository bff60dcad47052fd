-- `sky::making::relative_in` meets its contract. Assumes nothing.
use mathlib.Core.Path.{refl}
use Rattle.superframe.specs.Sky.{sky_string}
use Rattle.superframe.proofs.Lowest.{none_told}
use Rattle.sky.proofs.Strings.{string_small, sent_as}
use Rattle.sky.proofs.making.relative_in.Goals as goal

pub string_in-s-requires : goal.string_in-s-requires
string_in-s-requires c = ((c.requires.1.0, c.requires.1.1), none_told c.args.sky c.requires.0 c.args.i c.requires.1.0 c.requires.1.1)

pub returns : goal.returns
returns c =
    let w = c.to_relative in
    let s = c.string_in-s in
    sent_as (sky_string c.args.sky c.args.i) (string_small c.args.sky c.requires.0 c.args.i c.requires.1.0 c.requires.1.1) _ _ _ w.result refl s.ensures w.ensures
