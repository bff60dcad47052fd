-- `hear` meets its contract: the relative code refuses, or the check decides (`Hearing`). Assumes nothing.
use mathlib.Core.Path.{refl}
use Rattle.hearing.proofs.Hearing.{hears_no, hears_on}
use Rattle.std.proofs.lemmas.Result.{err_from_is_err_and}
use Rattle.hearing.proofs.hear.Goals as goal

pub returns-in_err-from_relative : goal.returns-in_err-from_relative
returns-in_err-from_relative c =
    let p = err_from_is_err_and c.from_residual.result c.from_residual.ensures.1 in
    rw (p.1, p.2) (hears_no _ _ _ _ refl c.from_relative.ensures _ _ c.in_err-from_relative.was)

pub returns : goal.returns
returns c =
    hears_on _ _ _ _ refl c.from_relative.ensures _ _ c.in_ok-from_relative.was _ _ c.requires c.check.ensures
