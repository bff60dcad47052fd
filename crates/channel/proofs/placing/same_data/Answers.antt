-- `placing::same_data` meets its contract: bits 80..9 are the words 80..73, 72..41 and 40..9. Assumes nothing.
use borrow.Author.Tests.{eq-eqb, ne_eqb}
use Rattle.strings.specs.Number.{number_of}
use Rattle.channel.proofs.SameData.{same_data_is}
use Rattle.channel.proofs.placing.same_data.Goals as goal

pub returns-then-word_in : goal.returns-then-word_in
returns-then-word_in c =
    let a = c.args in
    rw (
      same_data_is (number_of a.a.now) (number_of a.b.now),
      ← c.word_in.ensures,
      ← c.word_in-2.ensures,
      ne_eqb c.word_in.result c.word_in-2.result c.if-word_in.true,
    )

pub returns-then-word_in-2 : goal.returns-then-word_in-2
returns-then-word_in-2 c =
    let a = c.args in
    rw (
      same_data_is (number_of a.a.now) (number_of a.b.now),
      ← c.word_in.ensures,
      ← c.word_in-2.ensures,
      eq-eqb c.word_in.result c.word_in-2.result c.if-word_in.false,
      ← c.word_in-3.ensures,
      ← c.word_in-4.ensures,
      ne_eqb c.word_in-3.result c.word_in-4.result c.if-word_in-2.true,
    )

pub returns : goal.returns
returns c =
    let a = c.args in
    rw (
      same_data_is (number_of a.a.now) (number_of a.b.now),
      ← c.word_in.ensures,
      ← c.word_in-2.ensures,
      eq-eqb c.word_in.result c.word_in-2.result c.if-word_in.false,
      ← c.word_in-3.ensures,
      ← c.word_in-4.ensures,
      eq-eqb c.word_in-3.result c.word_in-4.result c.if-word_in-2.false,
      c.word_in-5.ensures,
      c.word_in-6.ensures,
    )
