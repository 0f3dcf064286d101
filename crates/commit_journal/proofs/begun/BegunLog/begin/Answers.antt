use Rattle.std.proofs.Common.{◌∙◌}
use Rattle.commit_journal.specs.Versions.{number_of}
use Rattle.commit_journal.proofs.Beginnings.{header_named}
use Rattle.commit_journal.proofs.begun.BegunLog.begin.Goals as goal

pub invariant_of-begun : goal.invariant_of-begun
invariant_of-begun g c = let read = c.in-Ok.ensures in record { room = read.room; only = read.only; header = read.header }

pub returns-in-Ok-clause-begun : goal.returns-in-Ok-clause-begun
returns-in-Ok-clause-begun g c =
    let begun = c.begin_with_room.ensures in
    let read = c.in-Ok.ensures in
    record { unwritten = begun.unwritten; only = read.only; opens = begun.opens; synced = read.synced; later = begun.later }

pub returns-in-Ok-clause-named : goal.returns-in-Ok-clause-named
returns-in-Ok-clause-named g c log told =
    let new = c.begin_with_room.new.disk in
    let now = c.begin_with_room.ensures.unwritten.content ∙ told in
    header_named (number_of c.in-Ok.version) (g.D.Disk.seen new) log c.in-Ok.ensures.header now (g.met.D.Disk.content_len new log now)

pub returns-in-Err-clause-unfound : goal.returns-in-Err-clause-unfound
returns-in-Err-clause-unfound g c =
    let begun = c.begin_with_room.ensures in
    record { unwritten = begun.unwritten; opens = begun.opens; later = begun.later; cause = c.in-Err.ensures.fault }
