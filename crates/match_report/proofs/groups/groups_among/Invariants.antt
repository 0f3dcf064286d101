use Rattle.std.proofs.Common.{◌≡◌, ◌++◌}
use Rattle.std.specs.Prelude.{filter}
use Rattle.match_report.specs.Groups.{groups_of, is_match}
use Rattle.match_report.specs.Walk.{matches_from}
use Rattle.match_report.proofs.groups.groups_among.Given as goal

abbrev pub invariant-loop-next : goal.invariant-loop-next
invariant-loop-next l = l.groups ++ matches_from l.group l.next-iterator ≡ filter is_match (groups_of l.fn.held.keys)
