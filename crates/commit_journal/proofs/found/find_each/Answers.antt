use Rattle.std.proofs.lemmas.Result.{err_from_is_err_and}
use Rattle.commit_journal.specs.Versions.{number_of}
use Rattle.commit_journal.proofs.Beginnings.{unwritten_still, opens_still, taken_still, found_begun, unfound_begun}
use Rattle.commit_journal.proofs.found.find_each.Goals as goal

pub returns-in_err-place-clause-opens : goal.returns-in_err-place-clause-opens
returns-in_err-place-clause-opens g c =
    let seen = g.D.Disk.seen in
    let was = c.begin_on.ensures in
    opens_still (seen c.args.disk.now) (seen c.begin_on.new.disk) (seen c.take_log.new.disk) c.take_log.ensures.read.unchanged was.opens

pub returns-clause-opens : goal.returns-clause-opens
returns-clause-opens g c =
    let seen = g.D.Disk.seen in
    let was = c.begin_on.ensures in
    opens_still (seen c.args.disk.now) (seen c.begin_on.new.disk) (seen c.take_log.new.disk) c.take_log.ensures.read.unchanged was.opens

pub returns-in_err-place-clause-unwritten : goal.returns-in_err-place-clause-unwritten
returns-in_err-place-clause-unwritten g c =
    let seen = g.D.Disk.seen in
    let was = c.begin_on.ensures in
    unwritten_still (seen c.args.disk.now) (seen c.begin_on.new.disk) (seen c.take_log.new.disk) c.take_log.ensures.read.unchanged was.unwritten

pub returns-clause-unwritten : goal.returns-clause-unwritten
returns-clause-unwritten g c =
    let seen = g.D.Disk.seen in
    let was = c.begin_on.ensures in
    unwritten_still (seen c.args.disk.now) (seen c.begin_on.new.disk) (seen c.take_log.new.disk) c.take_log.ensures.read.unchanged was.unwritten

pub returns-in_err-place-clause-fault : goal.returns-in_err-place-clause-fault
returns-in_err-place-clause-fault g c =
    let exit = err_from_is_err_and c.from_residual-in_err-place.result c.from_residual-in_err-place.ensures.1 in
    let seen = g.D.Disk.seen in
    let was = c.begin_on.ensures in
    let read = c.in_ok-version.ensures in
    let lost = c.in_err-place.ensures in
    rw (exit.1, exit.2)
    (unfound_begun (seen c.args.disk.now) (seen c.begin_on.new.disk) (seen c.take_log.new.disk) lost.read.unchanged
    (record { unwritten = was.unwritten; only = read.only; opens = was.opens; synced = read.synced; later = was.later }) c.in_err-place.field-0.0 lost.read
    (λ wrong is b told. lost.lost wrong is (number_of c.in_ok-version.version) read.header b told)).cause

pub returns-clause-found : goal.returns-clause-found
returns-clause-found g c =
    let seen = g.D.Disk.seen in
    let was = c.begin_on.ensures in
    let begun = c.in_ok-version.ensures in
    let version = number_of c.in_ok-version.version in
    let mid = seen c.begin_on.new.disk in
    let new = seen c.take_log.new.disk in
    let read = c.take_log.ensures.read in
    let taken = taken_still (g.T.FrameTaker.has c.args.taker.now c.take_log.new.taker) c.in_ok-place.place version mid new read.unchanged (c.in_ok-place.ensures.taken version begun.header) in
    record {
      frames = taken.frames;
      has = taken.has;
      found = found_begun (seen c.args.disk.now) mid new read.unchanged
          (record { unwritten = was.unwritten; only = begun.only; opens = was.opens; synced = begun.synced; later = was.later }) taken.frames c.in_ok-place.place version taken.read
          (g.met.D.Disk.content_len c.take_log.new.disk) read.later;
    }
