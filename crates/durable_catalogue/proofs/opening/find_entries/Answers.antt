use Rattle.std.proofs.Common.{rules, ◌∙◌, Some, refl, ap, sym}
use Rattle.commit_journal.specs.Versions.{number_of}
use Rattle.commit_journal.proofs.Beginnings.{found_begun}
use Rattle.durable_catalogue.proofs.Answered.{unfound_disk}
use Rattle.durable_catalogue.proofs.Coming.{none_came, made_of, unloaded_of}
use Rattle.durable_catalogue.proofs.opening.find_entries.Goals as goal

pub find-requires : goal.find-requires
find-requires g c = record {
  none =
      let counter = c.counter_of-counter in (
        refl,
        none_came (g.T.EntryTaker.has c.args.taker.now c.args.taker.now) counter.result.version (Some c.args.limits.bytes) counter.result refl counter.ensures.none c.requires.none,
      );
}

pub returns-in-Ok-reading_of-clause-found : goal.returns-in-Ok-reading_of-clause-found
returns-in-Ok-reading_of-clause-found g c =
    let seen = g.D.Disk.seen in
    let log = c.in-Ok.found in
    let found = c.in-Ok.ensures in
    let now = c.find.new.taker in
    let read = c.in-Ok-reading_of.ensures in
    let named = c.counter_of-counter.ensures.version ∙ ap number_of (c.version.ensures ∙ sym found.version) in
    record {
      frames = found.taken.frames;
      read = found.taken.read;
      made = made_of (g.T.EntryTaker.has c.args.taker.now) now.taker.now _ _ now.taker.ghost_name c.args.limits c.counter_of-counter.result.version (number_of log.version)
          now.counter now.left now.bad log.place (seen log.disk) named found.taken c.in-Ok-reading_of.reading (search rules) read.whole read.last read.fits;
      unchanged = found.unchanged;
      later = found.later;
      version_is = found.version;
    }

pub returns-in-Err-reading_of-clause-refused : goal.returns-in-Err-reading_of-clause-refused
returns-in-Err-reading_of-clause-refused g c before limits begun =
    let seen = g.D.Disk.seen in
    let log = c.in-Ok.found in
    let found = c.in-Ok.ensures in
    let now = c.find.new.taker in
    let fault = c.in-Err-reading_of.fault in
    let named = c.counter_of-counter.ensures.version ∙ ap number_of (c.version.ensures ∙ sym found.version) in
    c.refuse_log.ensures.refused before found.taken.frames limits
    (found_begun (seen before) (seen c.args.begun.disk) (seen log.disk) found.unchanged begun found.taken.frames log.place (number_of log.version) found.taken.read
    (g.met.D.Disk.content_len log.disk) found.later)
    (unloaded_of (g.T.EntryTaker.has c.args.taker.now) now.taker.now now.taker.now _ now.taker.ghost_name c.args.limits c.counter_of-counter.result.version (number_of log.version)
    now.counter now.left now.bad log.place (seen log.disk) named found.taken limits fault c.in-Err-reading_of.ensures.bad)

pub returns-in-Err-clause-refused : goal.returns-in-Err-clause-refused
returns-in-Err-clause-refused g c before limits begun =
    let seen = g.D.Disk.seen in
    unfound_disk limits (seen before) (seen c.in-Err.unfound.0) c.in-Err.unfound.1 c.open_fault.result c.open_fault.ensures (c.in-Err.ensures.unfound before begun)
