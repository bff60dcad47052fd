-- `telling::put_navigation` meets its contract: by whether string 5 and the entry are there, and then by what `write_all` answers. Assumes nothing.
use mathlib.Core.Path.{◌≡◌}
use borrow.Author.Rules.{rules}
use borrow.Author.Tests.{ne_eqb}
use mir.Syntax.{w32}
use mir.Val.{to_z, of_z}
use Rattle.shows.proofs.Shows.{is_so}
use Rattle.lent_navigation.proofs.Told.{put_written, row_read}
use Rattle.lent_navigation.proofs.telling.put_navigation.Goals as goal

pub write_all-requires : goal.write_all-requires
write_all-requires c =
    let a = c.args in
    let n4 : to_z w32 (of_z w32 c.five_words-five.result.n4) ≡ c.five_words-five.result.n4 = search rules in
    rw (n4, c.five_words-five.ensures, c.immediate_words-words.ensures) (row_read a.row (is_so c.has_five.ensures c.if-not-has_five.false))

pub returns : goal.returns
returns c =
    let a = c.args in
    let n4 : to_z w32 (of_z w32 c.five_words-five.result.n4) ≡ c.five_words-five.result.n4 = search rules in
    let carrier : to_z w32 (of_z w32 c.odd_words-odd.result.h) ≡ c.odd_words-odd.result.h = search rules in
    put_written a.row a.e a.out.now c.write_all.result _ _ (rw (is_so c.has_five.ensures c.if-not-has_five.false, ne_eqb a.e.day 0 c.if-e-eq0.false))
    (rw (n4, carrier, c.five_words-five.ensures, c.odd_words-odd.ensures, c.immediate_words-words.ensures) at c.write_all.ensures) c.navigation_told.ensures
