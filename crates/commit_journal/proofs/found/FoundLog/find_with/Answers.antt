use Rattle.commit_journal.specs.Versions.{number_of}
use Rattle.commit_journal.proofs.Recoveries.{read_at}
use Rattle.commit_journal.proofs.found.FoundLog.find_with.Goals as goal

pub invariant_of-result : goal.invariant_of-result
invariant_of-result g c =
    let taken = c.in-Ok.ensures.found in
    record {
      room = c.in-Ok.ensures.room;
      only = taken.found.only;
      read = read_at taken.frames c.in-Ok.end.place (number_of c.in-Ok.end.version) (g.D.Disk.seen c.look.new.disk) taken.found.read;
    }
