use Rattle.commit_journal.specs.Versions.{number_of}
use Rattle.commit_journal.proofs.Recoveries.{settling}
use Rattle.commit_journal.proofs.found.FoundLog.settle.Goals as goal

pub invariant_of-result : goal.invariant_of-result
invariant_of-result g c =
    let found = c.args.self in
    record {
      room = found.room;
      settled = λ whole. c.in-Ok.ensures.settled (number_of found.version) found.read;
    }

pub returns-in-Ok-clause-crash : goal.returns-in-Ok-clause-crash
returns-in-Ok-clause-crash g c before frames found =
    let law = g.met.D.Disk in
    let self = c.args.self in
    let now = c.bring_into_order-settled.new.disk in
    let ordered = c.bring_into_order-settled.ensures in
    settling frames self.place (number_of self.version) (g.D.Disk.seen before) (g.D.Disk.seen self.disk) (g.D.Disk.seen now) found (law.synced_by_now self.disk) (law.undated_syncs now) (law.content_is_image now)
    ordered.continues (ordered.crash frames (number_of self.version) found.read)

pub returns-in-Err-clause-crash : goal.returns-in-Err-clause-crash
returns-in-Err-clause-crash g c before frames found =
    let law = g.met.D.Disk in
    let self = c.args.self in
    let now = c.bring_into_order-settled.new.disk in
    let ordered = c.bring_into_order-settled.ensures in
    settling frames self.place (number_of self.version) (g.D.Disk.seen before) (g.D.Disk.seen self.disk) (g.D.Disk.seen now) found (law.synced_by_now self.disk) (law.undated_syncs now) (law.content_is_image now)
    ordered.continues (ordered.crash frames (number_of self.version) found.read)
