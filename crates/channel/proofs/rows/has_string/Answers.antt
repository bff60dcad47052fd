-- `rows::has_string` meets its contract: m is 1 to 15, so only the bit is asked. Assumes nothing.
use borrow.Author.Tests.{le-leb}
use Rattle.channel.specs.Row.{is_present}
use Rattle.channel.proofs.rows.has_string.Goals as goal

pub returns : goal.returns
unfolding is_present
returns c = rw (le-leb 1 c.args.m c.requires.0, le-leb c.args.m 15 c.requires.1)
