use Rattle.std.proofs.Common.{subst}
use Rattle.commit_journal.specs.Journal.{IsDurableLog}
use Rattle.commit_journal.specs.Versions.{number_of}
use Rattle.migrate_command.proofs.Gaining.{on_ok_three, tries_run, adds_run}
use Rattle.migrate_command.proofs.appending.append_run.Goals as goal

pub returns-clause-added : goal.returns-clause-added
returns-clause-added g c =
    let journal = c.args.journal.now in
    let seen = g.D.Disk.seen in
    let settled = subst (λ v. IsDurableLog journal.place (number_of v) (seen journal.disk)) c.requires.newest (journal.settled c.requires.whole) in
    on_ok_three c.append_all.result (λ settled_now place appended entries are.
    adds_run entries c.args.run.now are journal.place (seen journal.disk) (seen c.append_all.new.self.disk) settled
    c.append_all.new.self.place settled_now place appended) c.append_all.ensures.settled c.append_all.ensures.place c.append_all.ensures.appended

pub returns-clause-tried : goal.returns-clause-tried
returns-clause-tried g c entries are =
    let journal = c.args.journal.now in
    let seen = g.D.Disk.seen in
    let settled = subst (λ v. IsDurableLog journal.place (number_of v) (seen journal.disk)) c.requires.newest (journal.settled c.requires.whole) in
    tries_run entries c.args.run.now are journal.place (seen journal.disk) (seen c.append_all.new.self.disk) settled c.append_all.ensures.crash
