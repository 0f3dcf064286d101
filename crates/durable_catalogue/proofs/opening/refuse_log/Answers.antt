use Rattle.std.proofs.Common.{sym, subst}
use Rattle.commit_journal.specs.Versions.{number_of}
use Rattle.durable_catalogue.specs.Opened.{IsRefusedDisk}
use Rattle.durable_catalogue.proofs.Answered.{left_disk}
use Rattle.durable_catalogue.proofs.opening.refuse_log.Goals as goal

pub returns-clause-refused : goal.returns-clause-refused
returns-clause-refused g c before frames limits found unloads =
    let seen = g.D.Disk.seen in
    let log = c.args.found in
    subst (λ disk. IsRefusedDisk limits (seen before) (seen disk) c.args.fault) (sym c.leave.ensures)
    (left_disk frames log.place (number_of log.version) (seen before) (seen log.disk) limits c.args.fault found unloads c.requires.other)
