-- `named::record_of` meets its contract, arm by arm. Assumes nothing.
use mathlib.Core.Path.{ap}
use Rattle.records.specs.declared.named.Record.TheVariants.{One as One', Two as Two', Three as Three', Four as Four', Five as Five', Even as Even', Odd as Odd', Fourteen as Fourteen'}
use Rattle.records.specs.Records.{record_of}
use Rattle.records.proofs.named.record_of.Goals as goal

pub returns-in-One : goal.returns-in-One
unfolding record_of
returns-in-One c = rw c.in-One.is (ap One' c.string1_of.ensures)

pub returns-in-Two : goal.returns-in-Two
unfolding record_of
returns-in-Two c = rw c.in-Two.is (ap Two' c.string2_of.ensures)

pub returns-in-Three : goal.returns-in-Three
unfolding record_of
returns-in-Three c = rw c.in-Three.is (ap Three' c.string3_of.ensures)

pub returns-in-Four : goal.returns-in-Four
unfolding record_of
returns-in-Four c = rw c.in-Four.is (ap Four' c.string4_of.ensures)

pub returns-in-Five : goal.returns-in-Five
unfolding record_of
returns-in-Five c = rw c.in-Five.is (ap Five' c.string5_of.ensures)

pub returns-in-Even : goal.returns-in-Even
unfolding record_of
returns-in-Even c = rw c.in-Even.is (ap Even' c.even_of.ensures)

pub returns-in-Odd : goal.returns-in-Odd
unfolding record_of
returns-in-Odd c = rw c.in-Odd.is (ap Odd' c.odd_of.ensures)

pub returns-in-Fourteen : goal.returns-in-Fourteen
unfolding record_of
returns-in-Fourteen c = rw c.in-Fourteen.is (ap Fourteen' c.string14_of.ensures)
