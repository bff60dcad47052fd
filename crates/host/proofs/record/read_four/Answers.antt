-- `record::read_four` meets its contract: string by string. Assumes nothing.
use Rattle.std.proofs.lemmas.Result.{err_from_is_err_and}
use Rattle.host.proofs.FourStrings.{four_1, four_2, four_3, four_4, all_four}
use Rattle.host.proofs.record.read_four.Goals as goal

pub returns-in_err-a : goal.returns-in_err-a
returns-in_err-a c =
    let p = err_from_is_err_and c.from_residual.result c.from_residual.ensures.1 in
    rw (p.1, p.2) (four_1 _ _ _ _ _ c.read_kind.ensures _ c.in_err-a.was)

pub returns-in_err-b : goal.returns-in_err-b
returns-in_err-b c =
    let p = err_from_is_err_and c.from_residual-in_err-b.result c.from_residual-in_err-b.ensures.1 in
    rw (p.1, p.2) (four_2 _ _ _ _ _ c.read_kind.ensures _ c.in_ok-a.was _ c.read_kind-2.ensures _ c.in_err-b.was)

pub returns-in_err-c : goal.returns-in_err-c
returns-in_err-c c =
    let p = err_from_is_err_and c.from_residual-in_err-c.result c.from_residual-in_err-c.ensures.1 in
    rw (p.1, p.2)
    (four_3 _ _ _ _ _ c.read_kind.ensures _ c.in_ok-a.was _ c.read_kind-2.ensures _ c.in_ok-b.was _ c.read_kind-3.ensures _ c.in_err-c.was)

pub returns-in_err-d : goal.returns-in_err-d
returns-in_err-d c =
    let p = err_from_is_err_and c.from_residual-in_err-d.result c.from_residual-in_err-d.ensures.1 in
    rw (p.1, p.2)
    (four_4 _ _ _ _ _ c.read_kind.ensures _ c.in_ok-a.was _ c.read_kind-2.ensures _ c.in_ok-b.was _ c.read_kind-3.ensures _ c.in_ok-c.was
    _ c.read_kind-4.ensures _ c.in_err-d.was)

pub returns : goal.returns
returns c =
    all_four _ _ _ _ _ c.read_kind.ensures _ c.in_ok-a.was _ c.read_kind-2.ensures _ c.in_ok-b.was _ c.read_kind-3.ensures _ c.in_ok-c.was
    _ c.read_kind-4.ensures _ c.in_ok-d.was
