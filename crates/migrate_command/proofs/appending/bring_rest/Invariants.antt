use Rattle.std.proofs.Common.{◌-◌, length}
use Rattle.migrate_command.proofs.Gaining.{IsBringing}
use Rattle.migrate_command.proofs.appending.bring_rest.Given as goal

abbrev pub invariant-runs : goal.invariant-runs
invariant-runs g l =
    IsBringing l.payloads l.at (g.D.Disk.seen l.fn.journal.disk) (g.D.Disk.seen l.journal.disk) l.journal.broken l.journal.version

abbrev pub decreases-runs : goal.decreases-runs
decreases-runs g l = length l.payloads - l.at
