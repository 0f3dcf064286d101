use Rattle.std.proofs.Common.{◌≡◌, ◌∙◌, sym, subst}
use Rattle.checkpoint_commands.specs.Adding.{IsAdding, IsNotAdded}
use Rattle.commit_journal.specs.Versions.{number_of}
use Rattle.durable_catalogue.specs.Faults.{open_fault}
use Rattle.durable_catalogue.specs.declared.fault.OpenFault.TheVariants.{DeviceFault}
use Rattle.checkpoint_commands.specs.PointLogs.{IsOnlyRead}
use Rattle.checkpoint_commands.proofs.Frames.{never_device, point_log, untaken_log, found_only, unfound, unfound_only, unfound_device}
use Rattle.checkpoint_commands.proofs.Added.{adding_nothing, not_added_untaken}
use Rattle.checkpoint_commands.proofs.adding.add_point.Goals as goal

-- the log was found, and is taken
pub returns-in-Ok-last_known-clause-added : goal.returns-in-Ok-last_known-clause-added
returns-in-Ok-last_known-clause-added g c =
    c.add_behind.ensures.added c.args.disk c.in-Ok.ensures.found.frames c.in-Ok-last_known._last c.in-Ok.ensures.found.found (c.in-Ok-last_known.ensures.last c.in-Ok.ensures.found.frames c.in-Ok.ensures.found.known_is)

pub returns-in-Ok-last_known-clause-adding : goal.returns-in-Ok-last_known-clause-adding
returns-in-Ok-last_known-clause-adding g c = c.add_behind.ensures.adding c.args.disk c.in-Ok.ensures.found.frames c.in-Ok-last_known._last c.in-Ok.ensures.found.found (c.in-Ok-last_known.ensures.last c.in-Ok.ensures.found.frames c.in-Ok.ensures.found.known_is)

pub returns-in-Ok-last_known-clause-alone : goal.returns-in-Ok-last_known-clause-alone
returns-in-Ok-last_known-clause-alone g c log told none =
    let seen = g.D.Disk.seen in
    let found = c.in-Ok.found in
    absurd (none c.in-Ok-last_known._last (point_log c.in-Ok.ensures.found.frames found.place found.version c.version.result (seen c.args.disk) (seen found.disk) c.in-Ok.ensures.found.found
    c.version.ensures c.in-Ok-last_known._last (c.in-Ok-last_known.ensures.last c.in-Ok.ensures.found.frames c.in-Ok.ensures.found.known_is) c.in-Ok-last_known.ensures.newest log told))

pub returns-in-Ok-last_known-clause-not_added : goal.returns-in-Ok-last_known-clause-not_added
returns-in-Ok-last_known-clause-not_added g c = c.add_behind.ensures.not_added c.args.disk c.in-Ok.ensures.found.frames c.in-Ok.ensures.found.found

-- it was found, and isn't taken
pub returns-in-Err-last_known-clause-adding : goal.returns-in-Err-last_known-clause-adding
returns-in-Err-last_known-clause-adding g c =
    let seen = g.D.Disk.seen in
    subst (λ d. IsAdding c.args.core.now.history (seen c.args.disk) (seen d)) (sym c.leave.ensures)
    (adding_nothing c.args.core.now.history (seen c.args.disk) (seen c.in-Ok.found.disk) c.in-Ok.ensures.found.found.opens c.in-Ok.ensures.found.found.unwritten)

pub returns-in-Err-last_known-clause-not_added : goal.returns-in-Err-last_known-clause-not_added
returns-in-Err-last_known-clause-not_added g c =
    let seen = g.D.Disk.seen in
    let log = c.in-Ok.found in
    let why = c.in-Err-last_known.fault in
    subst (λ d. IsNotAdded (seen c.args.disk) (seen d) why) (sym c.leave.ensures)
    (not_added_untaken (seen c.args.disk) (seen log.disk) why
    (untaken_log c.in-Ok.ensures.found.frames log.place log.version c.version.result (seen c.args.disk) (seen log.disk) c.in-Ok.ensures.found.found c.version.ensures why
    (c.in-Err-last_known.ensures.untaken c.in-Ok.ensures.found.frames c.in-Ok.ensures.found.known_is))
    (found_only c.in-Ok.ensures.found.frames log.place log.version c.version.result (seen c.args.disk) (seen log.disk) c.in-Ok.ensures.found.found c.version.ensures (why ≡ DeviceFault))
    (λ device. absurd (never_device (number_of c.version.result) c.in-Ok.ensures.found.frames why (c.in-Err-last_known.ensures.untaken c.in-Ok.ensures.found.frames c.in-Ok.ensures.found.known_is) device)))

pub returns-in-Err-last_known-clause-alone : goal.returns-in-Err-last_known-clause-alone
returns-in-Err-last_known-clause-alone g c log told none =
    let seen = g.D.Disk.seen in
    let found = c.in-Ok.found in
    let why = c.in-Err-last_known.fault in
    subst (λ d. IsOnlyRead (why ≡ DeviceFault) (seen c.args.disk) (seen d)) (sym c.leave.ensures)
    (found_only c.in-Ok.ensures.found.frames found.place found.version c.version.result (seen c.args.disk) (seen found.disk) c.in-Ok.ensures.found.found c.version.ensures (why ≡ DeviceFault))

-- it was not found
pub returns-in-Err-clause-alone : goal.returns-in-Err-clause-alone
returns-in-Err-clause-alone g c log told none =
    let seen = g.D.Disk.seen in
    let e = c.in-Err.ensures.unfound in
    unfound_only (seen c.args.disk) (seen c.in-Err.failed.0) c.in-Err.failed.1 e.cause _ (λ device. c.open_fault.ensures ∙ device) e.opens e.unwritten e.later

pub returns-in-Err-clause-adding : goal.returns-in-Err-clause-adding
returns-in-Err-clause-adding g c =
    let seen = g.D.Disk.seen in
    adding_nothing c.args.core.now.history (seen c.args.disk) (seen c.in-Err.failed.0) c.in-Err.ensures.unfound.opens c.in-Err.ensures.unfound.unwritten

pub returns-in-Err-clause-not_added : goal.returns-in-Err-clause-not_added
returns-in-Err-clause-not_added g c =
    let seen = g.D.Disk.seen in
    let e = c.in-Err.ensures.unfound in
    subst (IsNotAdded (seen c.args.disk) (seen c.in-Err.failed.0)) (sym c.open_fault.ensures)
    (not_added_untaken (seen c.args.disk) (seen c.in-Err.failed.0) (open_fault c.in-Err.failed.1)
    (unfound (seen c.args.disk) (seen c.in-Err.failed.0) c.in-Err.failed.1 e.cause)
    (unfound_only (seen c.args.disk) (seen c.in-Err.failed.0) c.in-Err.failed.1 e.cause (open_fault c.in-Err.failed.1 ≡ DeviceFault) (λ device. device) e.opens e.unwritten e.later)
    (unfound_device (seen c.args.disk) (seen c.in-Err.failed.0) c.in-Err.failed.1 e.cause))
