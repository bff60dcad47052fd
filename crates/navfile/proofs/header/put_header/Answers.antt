-- `header::put_header` meets its contract: its three lines one after the other. Assumes nothing.
use mathlib.Core.Path.{refl}
use Rattle.digits.proofs.Pieces.{puts_as, puts_more}
use Rattle.navfile.specs.Header.{header, version_line, program_line, end_line}
use Rattle.navfile.proofs.header.put_header.Goals as goal

pub returns : goal.returns
unfolding header version_line program_line end_line
returns c =
    puts_as refl (puts_more c.put-program.ensures (puts_more c.put-end.ensures c.put.ensures))
