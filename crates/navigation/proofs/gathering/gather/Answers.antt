-- `gathering::gather` meets its contract: by what each query answers. Assumes nothing.
use mathlib.Core.Path.{◌≡◌, subst}
use lib.Dec.{lit≤}
use mir.Syntax.{w32}
use mir.Val.{to_z, of_z}
use Rattle.station.specs.Queries.{FindsRecord}
use Rattle.navigation_queries.specs.Five.{FindsFive}
use Rattle.navigation_queries.specs.Carrier.{FindsCarrier}
use Rattle.navigation.proofs.Read.{byte_fits, byte_is}
use Rattle.navigation.proofs.Found.{five_refused, n_read, no_entry, all_there}
use borrow.Author.Rules.{rules}
use Rattle.std.proofs.lemmas.Result.{err_from_is_err_and}
use Rattle.navigation.proofs.gathering.gather.Goals as goal

pub overflow_cast-words : goal.overflow_cast-words
overflow_cast-words c =
    let a = c.args in
    let found = subst (FindsRecord a.st a.card a.channel) c.in_ok-words.was c.immediate_of.ensures in
    byte_fits _ (n_read a.st a.card a.channel _ _ found) (lit≤ tt)

pub returns-in_err-string5 : goal.returns-in_err-string5
returns-in_err-string5 c =
    let a = c.args in
    let p = err_from_is_err_and c.from_residual-in_err-string5.result c.from_residual-in_err-string5.ensures.1 in
    rw (p.1, p.2) (five_refused a.st a.card a.channel _ (subst (FindsFive a.st a.card a.channel) c.in_err-string5.was c.five_of.ensures))

pub returns-in-Err : goal.returns-in-Err
returns-in-Err c =
    let a = c.args in
    let found = subst (FindsRecord a.st a.card a.channel) c.in_ok-words.was c.immediate_of.ensures in
    let n = byte_is _ (n_read a.st a.card a.channel _ _ found) (lit≤ tt) in
    no_entry a.st a.card a.channel _ _ found _ n _ (subst (FindsCarrier a.st a.card _) c.in-Err.is c.carrier_of-carrier.ensures)

pub returns-in-Ok : goal.returns-in-Ok
returns-in-Ok c =
    let a = c.args in
    let found = subst (FindsRecord a.st a.card a.channel) c.in_ok-words.was c.immediate_of.ensures in
    let five = subst (FindsFive a.st a.card a.channel) c.in_ok-string5.was c.five_of.ensures in
    let n = byte_is _ (n_read a.st a.card a.channel _ _ found) (lit≤ tt) in
    let carrier = subst (FindsCarrier a.st a.card _) c.in-Ok.is c.carrier_of-carrier.ensures in
    let string5 = c.in_ok-string5.string5 in
    let h = c.in-Ok.h in
    let n4_same : to_z w32 (of_z w32 string5.n4) ≡ string5.n4 = search rules in
    let h-same : to_z w32 (of_z w32 h) ≡ h = search rules in
    rw (n4_same, h-same) (all_there a.st a.card a.channel _ _ found _ n _ five _ carrier)
