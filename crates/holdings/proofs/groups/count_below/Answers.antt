use Rattle.std.proofs.Common.{rules}
use Rattle.std.proofs.lemmas.List.Sorted.{IsPartitionPoint-from_clause}
use Rattle.holdings.specs.ByTarget.{is_below_key}
use Rattle.holdings.proofs.ByTarget.{parted_below}
use Rattle.holdings.proofs.groups.count_below.Goals as goal

pub returns-clause-place : goal.returns-clause-place
returns-clause-place c =
    IsPartitionPoint-from_clause (is_below_key c.args.key.now) _ _ c.partition_point.ensures.partitioned (parted_below c.args.key.now c.args.rows.now c.requires)
    (λ a r q k. search rules)
