-- `are_good` meets its contract: strings 3 and 4 have no word that can be out of range. Assumes nothing.
use Rattle.words.specs.Immediate.{string_at}
use Rattle.immediate.proofs.Good.{four_good_lem}
use Rattle.immediate.proofs.are_good.Goals as goal

pub returns-then-has_time : goal.returns-then-has_time
returns-then-has_time c =
    let s = c.args.strings.now in
    rw (four_good_lem (string_at s 0) (string_at s 1) (string_at s 2) (string_at s 3), ← c.has_time.ensures, c.if-has_time.true) c.has_interval.ensures
