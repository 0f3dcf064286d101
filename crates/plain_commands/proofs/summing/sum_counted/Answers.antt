use Rattle.std.proofs.Common.{◌∙◌, ap, arith}
use Rattle.marc_types.specs.Limits.{plain_limits}
use Rattle.plain_commands.specs.Totals.{sums_behind}
use Rattle.plain_commands.proofs.Committed.{all_begun, few_begun, small_begun}
use Rattle.plain_commands.proofs.summing.sum_counted.Goals as goal

pub commit_all-requires-clause-few : goal.commit_all-requires-clause-few
commit_all-requires-clause-few g c =
    let number = c.workloads_are_within_limits.ensures.number in
    let few = c.requires.few in
    few_begun _ plain_limits _ _ c.new-loaded.ensures c.in_ok-entries.ensures.all (omega arith)

pub commit_all-requires-clause-small : goal.commit_all-requires-clause-small
commit_all-requires-clause-small g c = small_begun _ plain_limits _ _ c.new-loaded.ensures c.in_ok-entries.ensures.all c.workloads_are_within_limits.ensures.size

pub returns : goal.returns
returns g c = c.sums.ensures ∙ ap sums_behind (all_begun _ plain_limits _ _ _ c.new-loaded.ensures c.in_ok-entries.ensures.all c.in_ok-commit_all.ensures)
