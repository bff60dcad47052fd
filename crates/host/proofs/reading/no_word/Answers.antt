-- `reading::no_word` meets its contract: what the check says, and then the string number. Assumes nothing.
use mathlib.Core.Path.{refl}
use borrow.Author.Tests.{eq-eqb, ne_eqb}
use Rattle.host.proofs.NoWord.{refused_no_word, taken_no_word}
use Rattle.host.proofs.reading.no_word.Goals as goal

pub returns-in-Err : goal.returns-in-Err
returns-in-Err c = refused_no_word _ _ _ _ refl c.check.ensures _ c.in-Err.is

pub returns-in-Ok : goal.returns-in-Ok
returns-in-Ok c =
    rw (eq-eqb c.number_in.result 0 c.if-number_in-eq0.true) at
    (taken_no_word _ _ _ _ refl c.check.ensures _ _ c.in-Ok.is (λ i. (c.type_inv.s i).fits) c.number_in.ensures)

pub returns-in-Ok-2 : goal.returns-in-Ok-2
returns-in-Ok-2 c =
    rw (ne_eqb c.number_in.result 0 c.if-number_in-eq0.false) at
    (taken_no_word _ _ _ _ refl c.check.ensures _ _ c.in-Ok-2.is (λ i. (c.type_inv.s i).fits) c.number_in.ensures)
