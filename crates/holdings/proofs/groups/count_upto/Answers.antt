use Rattle.std.proofs.Common.{rules}
use Rattle.std.proofs.lemmas.List.Sorted.{IsPartitionPoint-from_clause}
use Rattle.holdings.specs.ByTarget.{is_upto_key}
use Rattle.holdings.proofs.ByTarget.{parted_upto}
use Rattle.holdings.proofs.groups.count_upto.Goals as goal

pub returns-clause-place : goal.returns-clause-place
returns-clause-place c =
    IsPartitionPoint-from_clause (is_upto_key c.args.key.now) _ _ c.partition_point.ensures.partitioned (parted_upto c.args.key.now c.args.rows.now c.requires)
    (λ a r q k. search rules)
