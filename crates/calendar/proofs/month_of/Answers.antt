-- `month_of` meets its contract: the table ascends, and the first day of four years is one of its first month. Assumes nothing.
use borrow.Author.Rules.{rules}
use lib.Dec.{leb}
use Rattle.std.proofs.lemmas.List.Sorted.{IsPartitionPoint-from_clause, IsPartitionedBy-leb}
use Rattle.calendar.specs.FourYears.{starts}
use Rattle.calendar.proofs.Months.{ascending, month_found}
use Rattle.calendar.proofs.month_of.Goals as goal

pub overflow_sub-result : goal.overflow_sub-result
unfolding starts
overflow_sub-result c =
    let day = c.args.rest in
    let point = IsPartitionPoint-from_clause (λ y. leb y day) starts _ c.partition_point.ensures.partitioned (IsPartitionedBy-leb (λ y. y) starts day ascending) (λ a r q k. search rules) in
    (month_found day c.partition_point.result c.requires point).0

pub returns : goal.returns
unfolding starts
returns c =
    let day = c.args.rest in
    let point = IsPartitionPoint-from_clause (λ y. leb y day) starts _ c.partition_point.ensures.partitioned (IsPartitionedBy-leb (λ y. y) starts day ascending) (λ a r q k. search rules) in
    (month_found day c.partition_point.result c.requires point).1
