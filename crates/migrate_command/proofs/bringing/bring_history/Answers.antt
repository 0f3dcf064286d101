use Rattle.std.proofs.Common.{◌≡◌, ◌∙◌, is_some, refl, sym, ap, subst}
use Rattle.outside.specs.Room.{bytes_or_none}
use Rattle.entry_record.specs.History.{IsWithin}
use Rattle.console_lines.specs.declared.fault.Fault.TheVariants.{Device}
use Rattle.journal_files.specs.Journals.{log_bytes}
use Rattle.migrate_command.specs.declared.fault.MigrateFault.TheVariants as migrating
use Rattle.migrate_command.specs.Migrations.{IsFit, IsUnmigrated}
use Rattle.migrate_command.specs.Told.{fault_of_migrating}
use Rattle.journal_files.proofs.Journals.{unopened_keeps, keeps_where}
use Rattle.migrate_command.proofs.Endings.{migrating_device}
use Rattle.migrate_command.proofs.Rooms.{brings_into, all_into, alone_into, settled_into, images_into, untouched_into, rose_into}
use Rattle.migrate_command.proofs.bringing.bring_history.Goals as goal

-- the new log was not opened
pub returns-in_default-clause-brings : goal.returns-in_default-clause-brings
returns-in_default-clause-brings g c was tells is_history = untouched_into _ _ _ _ c.in_default.ensures.failed

pub returns-in_default-clause-fault : goal.returns-in_default-clause-fault
returns-in_default-clause-fault g c =
    let room = g.R.Room.seen in
    let into = c.args.into.now in
    let stays = c.in_default.ensures.failed in
    record {
      reason = migrating.DeviceFault;
      is = refl;
      so = λ tells. tt;
      alone = λ was tells is_history none. unopened_keeps (Device ≡ Device) (room c.args.room.now) (room c.open_log.new.self) into stays;
      rose = λ device. c.in_default.ensures.cause.failed;
    }

-- its history is within the limits that it is brought in by
pub migrate-requires : goal.migrate-requires
migrate-requires g c = subst (λ l. IsWithin l c.args.history.items) (sym c.limits_of-limits.ensures) c.requires.within

-- the history was brought into it
pub returns-in-Ok-migrate-clause-brings : goal.returns-in-Ok-migrate-clause-brings
returns-in-Ok-migrate-clause-brings g c was tells is_history =
    let disk = g.R.Log.Disk.seen in
    let room = g.R.Room.seen in
    let open_tells = c.in-Ok.ensures.apart.tells ∙ tells in
    let closing = c.close_log.ensures in
    brings_into c.args.history.items (room c.args.room.now) (room c.close_log.new.self) c.args.into.now (disk c.in-Ok.log) (disk c.in-Ok-migrate.log)
    (c.in-Ok.ensures.bytes tells) (closing.bytes open_tells) c.limits_of-limits.result c.limits_of-limits.ensures (c.in-Ok-migrate.ensures.crash was is_history)
    c.in-Ok.ensures.beginning (closing.log open_tells) (closing.moments open_tells)

pub returns-in-Ok-migrate-clause-taken : goal.returns-in-Ok-migrate-clause-taken
returns-in-Ok-migrate-clause-taken g c =
    let disk = g.R.Log.Disk.seen in
    let room = g.R.Room.seen in
    let history = c.args.history.items in
    let into = c.args.into.now in
    let migrated = c.in-Ok-migrate.ensures.migrated in
    let closing = c.close_log.ensures in record {
      fit = λ tells.
          let fit = migrated.fit (log_bytes (room c.args.room.now) into) (c.in-Ok.ensures.bytes tells) in
          (fit.0, subst (λ l. IsFit l history fit.0 (log_bytes (room c.args.room.now) into)) c.limits_of-limits.ensures fit.1);
      all = λ was tells is_history.
          all_into history (room c.args.room.now) (room c.close_log.new.self) into (disk c.in-Ok.log) (disk c.in-Ok-migrate.log)
          (c.in-Ok.ensures.bytes tells) (closing.bytes (c.in-Ok.ensures.apart.tells ∙ tells)) c.limits_of-limits.result c.limits_of-limits.ensures
          (c.in-Ok-migrate.ensures.crash was is_history)
          (λ bytes is_now. migrated.content was bytes is_history is_now);
      durable = λ was tells is_history.
          images_into history (room c.close_log.new.self) into (disk c.in-Ok-migrate.log)
          (closing.log (c.in-Ok.ensures.apart.tells ∙ tells)) (closing.moments (c.in-Ok.ensures.apart.tells ∙ tells))
          (λ bytes image. migrated.all was bytes is_history (ap is_some (c.in-Ok.ensures.bytes tells)) image);
    }

-- it was not, and the new log is closed again
pub returns-in-Err-clause-brings : goal.returns-in-Err-clause-brings
returns-in-Err-clause-brings g c was tells is_history =
    let disk = g.R.Log.Disk.seen in
    let room = g.R.Room.seen in
    let open_tells = c.in-Ok.ensures.apart.tells ∙ tells in
    let closing = c.close_log-in-Err.ensures in
    brings_into c.args.history.items (room c.args.room.now) (room c.close_log-in-Err.new.self) c.args.into.now (disk c.in-Ok.log) (disk c.in-Err.failed.0)
    (c.in-Ok.ensures.bytes tells) (closing.bytes open_tells) c.limits_of-limits.result c.limits_of-limits.ensures (c.in-Err.ensures.crash was is_history)
    c.in-Ok.ensures.beginning (closing.log open_tells) (closing.moments open_tells)

pub returns-in-Err-clause-fault : goal.returns-in-Err-clause-fault
returns-in-Err-clause-fault g c =
    let law = g.met.R.Log.Disk g.world.𝓛 g.world.𝓜 g.world.𝓡 ((λ s x. x), (λ x. x), (λ x. x), λ x. x) in
    let disk = g.R.Log.Disk.seen in
    let room = g.R.Room.seen in
    let into = c.args.into.now in
    let failed = c.in-Err.failed in
    let told = c.fault_of_migrating.ensures in
    let closing = c.close_log-in-Err.ensures in
    record {
      reason = failed.1;
      is = told;
      so = λ tells.
          let log = log_bytes (room c.args.room.now) into in
          subst (λ l. IsUnmigrated l c.args.history.items log failed.1) c.limits_of-limits.ensures
          (c.in-Err.ensures.refused.so log (c.in-Ok.ensures.bytes tells));
      alone = λ was tells is_history none.
          let now = room c.close_log-in-Err.new.self in
          let open_tells = c.in-Ok.ensures.apart.tells ∙ tells in
          keeps_where (failed.1 ≡ migrating.DeviceFault) (c.fault_of_migrating.result ≡ Device) (room c.args.room.now) now into (λ device. told ∙ ap fault_of_migrating device)
          (alone_into c.args.history.items (room c.args.room.now) now into (disk c.in-Ok.log) (disk failed.0)
          (c.in-Ok.ensures.bytes tells) (closing.bytes open_tells) c.limits_of-limits.result c.limits_of-limits.ensures (c.in-Err.ensures.crash was is_history)
          c.in-Ok.ensures.beginning (record { file = closing.bytes open_tells; is_log = closing.log open_tells; same = closing.moments open_tells })
          (record { after = law.synced_after failed.0; by_now = law.synced_by_now failed.0; undated = law.undated_content failed.0 })
          failed.1 c.in-Err.ensures.refused.left_alone c.in-Err.ensures.refused.settled none);
      rose = λ device.
          rose_into ((room c.args.room.now).log_faults into) ((room c.open_log.new.self).log_faults into) ((room c.close_log-in-Err.new.self).log_faults into)
          (disk c.in-Ok.log).faults (disk failed.0).faults c.in-Ok.ensures.fresh c.in-Ok.ensures.cause.later closing.counted
          (c.in-Err.ensures.refused.failed (migrating_device failed.1 (sym told ∙ device)));
    }

pub returns-in-Err-clause-settled : goal.returns-in-Err-clause-settled
returns-in-Err-clause-settled g c other tells =
    let law = g.met.R.Log.Disk g.world.𝓛 g.world.𝓜 g.world.𝓡 ((λ s x. x), (λ x. x), (λ x. x), λ x. x) in
    let disk = g.R.Log.Disk.seen in
    let room = g.R.Room.seen in
    let failed = c.in-Err.failed in
    let open_tells = c.in-Ok.ensures.apart.tells ∙ tells in
    let closing = c.close_log-in-Err.ensures in
    let not_device : failed.1 ≡ migrating.DeviceFault → ⊥ = λ device. other (c.fault_of_migrating.ensures ∙ ap fault_of_migrating device) in
    settled_into (room c.args.room.now) (room c.close_log-in-Err.new.self) c.args.into.now (disk c.in-Ok.log) (disk failed.0)
    (c.in-Ok.ensures.bytes tells) (c.in-Err.ensures.refused.kept not_device).content c.in-Ok.ensures.beginning
    (record { file = closing.bytes open_tells; is_log = closing.log open_tells; same = closing.moments open_tells })
    (record { after = law.synced_after failed.0; by_now = law.synced_by_now failed.0; undated = law.undated_content failed.0 })
    failed.1 not_device c.in-Err.ensures.refused.settled

pub returns-in-Err-clause-kept : goal.returns-in-Err-clause-kept
returns-in-Err-clause-kept g c other tells =
    let kept = c.in-Err.ensures.refused.kept (λ device. other (c.fault_of_migrating.ensures ∙ ap fault_of_migrating device)) in
    ap bytes_or_none (c.close_log-in-Err.ensures.bytes (c.in-Ok.ensures.apart.tells ∙ tells) ∙ kept.content ∙ c.in-Ok.ensures.bytes tells)
