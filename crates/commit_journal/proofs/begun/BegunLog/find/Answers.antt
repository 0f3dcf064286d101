use Rattle.outside.proofs.Disks.{unchanged_only}
use Rattle.commit_journal.specs.Versions.{number_of}
use Rattle.commit_journal.proofs.Beginnings.{taken_still, unfound_begun, read_taken}
use Rattle.commit_journal.proofs.begun.BegunLog.find.Goals as goal

pub invariant_of-found : goal.invariant_of-found
invariant_of-found g c =
    let seen = g.D.Disk.seen in
    let log = c.args.self in
    let version = number_of log.version in
    let same = c.take_log.ensures.read.unchanged in
    record {
      room = log.room;
      only = unchanged_only (seen log.disk) (seen c.take_log.new.disk) same log.only;
      read = read_taken (g.T.FrameTaker.has c.args.taker.now c.take_log.new.taker) c.in-Ok.place version (seen log.disk) (seen c.take_log.new.disk) same (c.in-Ok.ensures.taken version log.header);
    }

pub returns-in-Ok-clause-taken : goal.returns-in-Ok-clause-taken
returns-in-Ok-clause-taken g c =
    let seen = g.D.Disk.seen in
    let log = c.args.self in
    let version = number_of log.version in
    taken_still (g.T.FrameTaker.has c.args.taker.now c.take_log.new.taker) c.in-Ok.place version (seen log.disk) (seen c.take_log.new.disk) c.take_log.ensures.read.unchanged
    (c.in-Ok.ensures.taken version log.header)

pub returns-in-Err-clause-unfound : goal.returns-in-Err-clause-unfound
returns-in-Err-clause-unfound g c before begun =
    let seen = g.D.Disk.seen in
    let log = c.args.self in
    unfound_begun (seen before) (seen log.disk) (seen c.take_log.new.disk) c.in-Err.ensures.read.unchanged begun c.in-Err.fault c.in-Err.ensures.read
    (λ wrong is b told. c.in-Err.ensures.lost wrong is (number_of log.version) log.header b told)
