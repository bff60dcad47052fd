-- `writing::write_record` meets its contract: by what was gathered (`Answered`). Assumes nothing.
use mathlib.Core.Path.{◌≡◌, subst}
use borrow.Author.Rules.{rules}
use mir.Syntax.{w32}
use mir.Val.{to_z, of_z}
use Rattle.navigation.specs.Gathers.{Gathers}
use Rattle.navigation.proofs.Found.{gathered_read}
use Rattle.navigation.proofs.Answered.{writes_refused, writes_gathered}
use Rattle.std.proofs.lemmas.Result.{err_from_is_err_and}
use Rattle.navigation.proofs.writing.write_record.Goals as goal

pub write_all-requires : goal.write_all-requires
write_all-requires c =
    let a = c.args in
    let n4 : to_z w32 (of_z w32 c.in_ok-words.n4) ≡ c.in_ok-words.n4 = search rules in
    rw n4 (gathered_read a.st a.card a.channel _ _ _ (subst (Gathers a.st a.card a.channel) c.in_ok-words.was c.gather.ensures))

pub returns-in_err-words : goal.returns-in_err-words
returns-in_err-words c =
    let a = c.args in
    let p = err_from_is_err_and c.from_residual.result c.from_residual.ensures.1 in
    rw (p.1, p.2) (writes_refused a.st a.card a.channel _ _ (subst (Gathers a.st a.card a.channel) c.in_err-words.was c.gather.ensures))

pub returns : goal.returns
returns c =
    let a = c.args in
    let n4 : to_z w32 (of_z w32 c.in_ok-words.n4) ≡ c.in_ok-words.n4 = search rules in
    let h : to_z w32 (of_z w32 c.in_ok-words.carrier) ≡ c.in_ok-words.carrier = search rules in
    writes_gathered a.st a.card a.channel _ _ _ _ _ _ (subst (Gathers a.st a.card a.channel) c.in_ok-words.was c.gather.ensures) (rw (n4, h) at c.write_all.ensures)
