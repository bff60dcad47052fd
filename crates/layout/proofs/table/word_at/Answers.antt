-- `table::word_at` meets its contract: each kind's words, all of them placed (`Rows`). Assumes nothing.
use Rattle.records.specs.declared.kinds.Kind.TheVariants.{One, Two, Three, Four, Five, Even, Odd, Fourteen}
use Rattle.layout.proofs.Rows.{told_at}
use Rattle.layout.proofs.table.word_at.Goals as goal

pub returns-in-One : goal.returns-in-One
returns-in-One c = told_at c.args.k One c.args.j _ c.in-One.is c.string_1.ensures c.requires

pub returns-in-Two : goal.returns-in-Two
returns-in-Two c = told_at c.args.k Two c.args.j _ c.in-Two.is c.string_2.ensures c.requires

pub returns-in-Three : goal.returns-in-Three
returns-in-Three c = told_at c.args.k Three c.args.j _ c.in-Three.is c.string_3.ensures c.requires

pub returns-in-Four : goal.returns-in-Four
returns-in-Four c = told_at c.args.k Four c.args.j _ c.in-Four.is c.string_4.ensures c.requires

pub returns-in-Five : goal.returns-in-Five
returns-in-Five c = told_at c.args.k Five c.args.j _ c.in-Five.is c.string_5.ensures c.requires

pub returns-in-Even : goal.returns-in-Even
returns-in-Even c = told_at c.args.k Even c.args.j _ c.in-Even.is c.even_string.ensures c.requires

pub returns-in-Odd : goal.returns-in-Odd
returns-in-Odd c = told_at c.args.k Odd c.args.j _ c.in-Odd.is c.odd_string.ensures c.requires

pub returns-in-Fourteen : goal.returns-in-Fourteen
returns-in-Fourteen c = told_at c.args.k Fourteen c.args.j _ c.in-Fourteen.is c.string_14.ensures c.requires
