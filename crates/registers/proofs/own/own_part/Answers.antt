use Rattle.std.proofs.Common.{rules, leb, ltb}
use Rattle.std.proofs.lemmas.List.Sorted.{IsPartitionPoint-from_clause, IsPartitionedBy-leb, IsPartitionedBy-ltb}
use Rattle.registers.proofs.Owned.{own_between}
use Rattle.registers.proofs.own.own_part.Goals as goal

pub returns-clause-part : goal.returns-clause-part
returns-clause-part g c up =
    let es = c.args.entries.now in
    let s = c.args.supplier in
    let a = c.partition_point-start in
    let b = c.partition_point-end in
    own_between es s a.result b.result c.max.result b.ensures.bound c.max.ensures
    (IsPartitionPoint-from_clause (λ e. ltb e.id.supplier s) _ _ a.ensures.partitioned (IsPartitionedBy-ltb (λ e. e.id.supplier) es s up) (λ x r q k. search rules))
    (IsPartitionPoint-from_clause (λ e. leb e.id.supplier s) _ _ b.ensures.partitioned (IsPartitionedBy-leb (λ e. e.id.supplier) es s up) (λ x r q k. search rules))
