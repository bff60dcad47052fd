-- `showing::frame_by` meets its contract: each return rewrites with the tests that led there. Assumes nothing.
use borrow.Author.Tests.{eq-eqb, ne_eqb}
use Rattle.shows.specs.Shows.{frame_by}
use Rattle.shows.proofs.showing.frame_by.Goals as goal

pub returns-then-na-eq1 : goal.returns-then-na-eq1
unfolding frame_by
returns-then-na-eq1 c =
    let na = c.args.na in
    rw (eq-eqb na 1 c.if-na-eq1.true)

pub returns-then-na-eq6 : goal.returns-then-na-eq6
unfolding frame_by
returns-then-na-eq6 c =
    let na = c.args.na in
    rw (ne_eqb na 1 c.if-na-eq1.false, eq-eqb na 6 c.if-na-eq6.true)

pub returns-then-na-eq11 : goal.returns-then-na-eq11
unfolding frame_by
returns-then-na-eq11 c =
    let na = c.args.na in
    rw (ne_eqb na 1 c.if-na-eq1.false, ne_eqb na 6 c.if-na-eq6.false, eq-eqb na 11 c.if-na-eq11.true)

pub returns-then-na-eq16 : goal.returns-then-na-eq16
unfolding frame_by
returns-then-na-eq16 c =
    let na = c.args.na in
    rw (
      ne_eqb na 1 c.if-na-eq1.false,
      ne_eqb na 6 c.if-na-eq6.false,
      ne_eqb na 11 c.if-na-eq11.false,
      eq-eqb na 16 c.if-na-eq16.true,
    )

pub returns-then-na-eq21 : goal.returns-then-na-eq21
unfolding frame_by
returns-then-na-eq21 c =
    let na = c.args.na in
    rw (
      ne_eqb na 1 c.if-na-eq1.false,
      ne_eqb na 6 c.if-na-eq6.false,
      ne_eqb na 11 c.if-na-eq11.false,
      ne_eqb na 16 c.if-na-eq16.false,
      eq-eqb na 21 c.if-na-eq21.true,
    )

pub returns-else-na-eq21 : goal.returns-else-na-eq21
unfolding frame_by
returns-else-na-eq21 c =
    let na = c.args.na in
    rw (
      ne_eqb na 1 c.if-na-eq1.false,
      ne_eqb na 6 c.if-na-eq6.false,
      ne_eqb na 11 c.if-na-eq11.false,
      ne_eqb na 16 c.if-na-eq16.false,
      ne_eqb na 21 c.if-na-eq21.false,
    )
