-- `sky::making::make_sky` meets its contract. Assumes nothing.
use native.Mathlib.Omega.{arith}
use mathlib.Core.Path.{◌≡◌, sym, ◌∙◌}
use lib.ListN.{length}
use Rattle.strings.proofs.Shape.{shape_told}
use Rattle.superframe.proofs.Lowest.{lowest_most}
use Rattle.sky.proofs.Laws.{no_room_lem, no_order, no_range, is_made}
use borrow.Author.Rules.{rules}
use Rattle.sky.proofs.making.make_sky.Goals as goal

pub returns-then-out-ne15000 : goal.returns-then-out-ne15000
returns-then-out-ne15000 c =
    let d = c.args in
    no_room_lem d.sky d.out.now c.if-out-ne15000.true

pub returns-then-not-in_order : goal.returns-then-not-in_order
returns-then-not-in_order c =
    let d = c.args in
    let h : length d.out.now ≡ 15000 = search rules in
    no_order d.sky d.out.now h (shape_told c.in_order.ensures c.if-not-in_order.true)

pub overflow_cast-result : goal.overflow_cast-result
overflow_cast-result c =
    let d = c.args in
    omega (arith, c.lowest_bad-place.ensures, lowest_most d.sky 75)

pub returns-then-place-ne0 : goal.returns-then-place-ne0
returns-then-place-ne0 c =
    let d = c.args in
    let h : length d.out.now ≡ 15000 = search rules in
    no_range d.sky d.out.now h (shape_told c.in_order.ensures c.if-not-in_order.false) c.lowest_bad-place.result c.lowest_bad-place.ensures c.if-place-ne0.true

pub returns : goal.returns
returns c =
    let d = c.args in
    let h : length d.out.now ≡ 15000 = search rules in
    let z : c.lowest_bad-place.result ≡ 0 = search rules in
    is_made d.sky d.out.now h (shape_told c.in_order.ensures c.if-not-in_order.false) (sym c.lowest_bad-place.ensures ∙ z) _ c.write_sky.ensures
