use Rattle.commit_journal.specs.Versions.{number_of}
use Rattle.commit_journal.proofs.Beginnings.{found_begun}
use Rattle.checkpoint_commands.proofs.last_point.find_points.Goals as goal

pub returns-in-Ok-find-clause-found : goal.returns-in-Ok-find-clause-found
returns-in-Ok-find-clause-found g c =
    let seen = g.D.Disk.seen in
    let log = c.in-Ok-find.found in
    let is = c.in-Ok-find.ensures in
    record {
      frames = is.taken.frames;
      known_is = is.taken.has;
      found = found_begun (seen c.args.disk) (seen c.in-Ok.begun.disk) (seen log.disk) is.unchanged c.in-Ok.ensures.begun is.taken.frames log.place (number_of log.version) is.taken.read
          (g.met.D.Disk.content_len log.disk) is.later;
    }

pub returns-in-Err-find-clause-unfound : goal.returns-in-Err-find-clause-unfound
returns-in-Err-find-clause-unfound g c = c.in-Err-find.ensures.unfound c.args.disk c.in-Ok.ensures.begun
