use Rattle.std.proofs.Common.{◌∙◌, Err, refl, sym, ap, subst}
use Rattle.commit_journal.specs.Versions.{number_of}
use Rattle.durable_catalogue.specs.declared.fault.OpenFault.TheVariants.{NoMemory}
use Rattle.checkpoint_commands.specs.Adding.{IsAdding, IsAdded, IsNotAdded}
use Rattle.checkpoint_commands.proofs.Frames.{point_log}
use Rattle.checkpoint_commands.proofs.Added.{adding_opens, adding_written, added_written, ordered_alone, not_added_memory}
use Rattle.checkpoint_commands.proofs.adding.add_behind.Goals as goal

pub returns-in-Ok-write_point-clause-added : goal.returns-in-Ok-write_point-clause-added
returns-in-Ok-write_point-clause-added g c before frames last found is =
    let seen = g.D.Disk.seen in
    let log = c.args.found in
    let settled = c.in-Ok.ensures in
    let journal = c.in-Ok.journal in
    let now = c.write_point.new.point in
    let w = c.write_point.ensures in
    let done = c.in-Ok-write_point.ensures in
    subst (λ d. IsAdded c.args.core.now.history (seen before) (seen d)) (sym c.close.ensures)
    (added_written c.args.core.now.history frames journal.place (number_of journal.version) (seen before) (seen journal.disk) (seen now.disk)
    (settled.recovered before frames found) (settled.crash before frames found) w.continues w.crash
    (record { by_now = g.met.D.Disk.synced_by_now journal.disk; undated = g.met.D.Disk.undated_syncs now.disk; is_image = g.met.D.Disk.content_is_image now.disk })
    (ap number_of (settled.version ∙ c.requires.newest)) last
    (point_log frames log.place log.version log.version (seen before) (seen log.disk) found refl last is c.requires.newest) now.place done.settled done.appended)

pub returns-in-Ok-write_point-clause-adding : goal.returns-in-Ok-write_point-clause-adding
returns-in-Ok-write_point-clause-adding g c before frames last found is =
    let seen = g.D.Disk.seen in
    let log = c.args.found in
    let settled = c.in-Ok.ensures in
    let journal = c.in-Ok.journal in
    let now = c.write_point.new.point in
    let w = c.write_point.ensures in
    subst (λ d. IsAdding c.args.core.now.history (seen before) (seen d)) (sym c.close.ensures)
    (adding_written c.args.core.now.history frames journal.place (number_of journal.version) (seen before) (seen journal.disk) (seen now.disk)
    (settled.recovered before frames found) (settled.crash before frames found) w.continues w.crash
    (record { by_now = g.met.D.Disk.synced_by_now journal.disk; undated = g.met.D.Disk.undated_syncs now.disk; is_image = g.met.D.Disk.content_is_image now.disk })
    (ap number_of (settled.version ∙ c.requires.newest)) last
    (point_log frames log.place log.version log.version (seen before) (seen log.disk) found refl last is c.requires.newest))

-- a device failed while the checkpoint was written
pub returns-in-Err-OutputFault-clause-adding : goal.returns-in-Err-OutputFault-clause-adding
returns-in-Err-OutputFault-clause-adding g c before frames last found is =
    let seen = g.D.Disk.seen in
    let log = c.args.found in
    let settled = c.in-Ok.ensures in
    let journal = c.in-Ok.journal in
    let now = c.write_point.new.point in
    let w = c.write_point.ensures in
    subst (λ d. IsAdding c.args.core.now.history (seen before) (seen d)) (sym c.close-in-Err-OutputFault.ensures)
    (adding_written c.args.core.now.history frames journal.place (number_of journal.version) (seen before) (seen journal.disk) (seen now.disk)
    (settled.recovered before frames found) (settled.crash before frames found) w.continues w.crash
    (record { by_now = g.met.D.Disk.synced_by_now journal.disk; undated = g.met.D.Disk.undated_syncs now.disk; is_image = g.met.D.Disk.content_is_image now.disk })
    (ap number_of (settled.version ∙ c.requires.newest)) last
    (point_log frames log.place log.version log.version (seen before) (seen log.disk) found refl last is c.requires.newest))

-- memory ran out before the first byte of it
pub returns-in-Err-NoMemory-clause-adding : goal.returns-in-Err-NoMemory-clause-adding
returns-in-Err-NoMemory-clause-adding g c before frames last found is =
    let seen = g.D.Disk.seen in
    let settling = c.in-Ok.ensures.crash before frames found in
    let same = c.write_point.ensures.memory (c.in-Err-NoMemory.is ∙ ap Err c.in-Err-NoMemory.field-0-is) in
    subst (λ d. IsAdding c.args.core.now.history (seen before) (seen d)) (sym c.close-in-Err-NoMemory.ensures)
    (subst (λ j. IsAdding c.args.core.now.history (seen before) (seen j.disk)) (sym same)
    (adding_opens c.args.core.now.history (seen before) (seen c.in-Ok.journal.disk) settling.opens settling.content))

pub returns-in-Err-NoMemory-clause-not_added : goal.returns-in-Err-NoMemory-clause-not_added
returns-in-Err-NoMemory-clause-not_added g c before frames found =
    let seen = g.D.Disk.seen in
    let settled = c.in-Ok.ensures in
    let journal = c.in-Ok.journal in
    let same = c.write_point.ensures.memory (c.in-Err-NoMemory.is ∙ ap Err c.in-Err-NoMemory.field-0-is) in
    subst (λ d. IsNotAdded (seen before) (seen d) NoMemory) (sym c.close-in-Err-NoMemory.ensures)
    (subst (λ j. IsNotAdded (seen before) (seen j.disk) NoMemory) (sym same)
    (not_added_memory (seen before) (seen journal.disk)
    (ordered_alone frames journal.place (number_of journal.version) (seen before) (seen journal.disk) (settled.recovered before frames found)
    (settled.crash before frames found))))

-- a device failed while the log was brought into order
pub returns-in-Err-clause-adding : goal.returns-in-Err-clause-adding
returns-in-Err-clause-adding g c before frames last found is =
    let seen = g.D.Disk.seen in
    let settling = c.in-Err.ensures.crash before frames found in
    adding_opens c.args.core.now.history (seen before) (seen c.in-Err.failed.0) settling.opens settling.content
