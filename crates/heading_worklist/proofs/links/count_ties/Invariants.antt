use Rattle.std.proofs.Common.{◌≡◌, ◌+◌, take}
use Rattle.std.specs.List.{count_by}
use Rattle.marc_types.specs.declared.key.Key.{Key}
use Rattle.heading_worklist.specs.Counting.{linked_times}
use Rattle.heading_worklist.specs.Counting.{is_tied_to}
use Rattle.heading_worklist.proofs.links.count_ties.Given as goal

abbrev pub invariant-loop-tie : goal.invariant-loop-tie
invariant-loop-tie l = (k : Key) → linked_times l.counts k ≡ linked_times l.initial.counts k + count_by (is_tied_to k) (take l.tie-index l.ties)
