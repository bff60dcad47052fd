-- `superframe::placing::early_in` meets its contract. Assumes nothing.
use Rattle.std.proofs.Common.{arith}
use Rattle.superframe.proofs.Places.{one_is, two_is, three_is, four_is, five_is}
use Rattle.superframe.proofs.placing.early_in.Goals as goal

pub returns-in-1 : goal.returns-in-1
returns-in-1 c = let a = c.args in one_is a.sky a.m c.in-1.is

pub returns-in-2 : goal.returns-in-2
returns-in-2 c = let a = c.args in two_is a.sky a.m c.in-2.is

pub returns-in-3 : goal.returns-in-3
returns-in-3 c = let a = c.args in three_is a.sky a.m c.in-3.is

pub returns-in-4 : goal.returns-in-4
returns-in-4 c = let a = c.args in four_is a.sky a.m c.in-4.is

pub returns-in_default : goal.returns-in_default
returns-in_default c = five_is c.args.sky c.args.m (omega arith)
