-- `sky::line::write_line` meets its contract. Assumes nothing.
use mathlib.Core.Path.{refl}
use Rattle.sky.specs.Mark.{mark}
use Rattle.sky.specs.Line.{halves, line_of}
use Rattle.sky.proofs.Front.{ended}
use Rattle.sky.proofs.line.write_line.Goals as goal

pub returns : goal.returns
unfolding line_of
returns c =
    ended c.args.out.now c.write_halves.new.out (halves c.args.s.now 85) mark c.copy_from_slice.new.self c.args.at c.write_halves.ensures c.requires.1 refl c.copy_from_slice.ensures.after
