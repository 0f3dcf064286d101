use Rattle.std.proofs.Common.{◌≡◌, ◌∙◌, ◌⊎◌, inl, sym, subst}
use Rattle.std.specs.Prelude.{◌≢◌}
use Rattle.outside.specs.Disk.{OnlyContent, SameDisk}
use Rattle.commit_journal.specs.Versions.{number_of}
use Rattle.commit_journal.specs.Journal.{Unwritten}
use Rattle.durable_catalogue.proofs.Refused.{same_leaves}
use Rattle.migrate_command.specs.Migrations.{IsUnmigrated, IsMigration, LeavesRefused}
use Rattle.migrate_command.proofs.Opened.{opened_alone, finds_of, no_front_of, unmigrated, unopened, left_found, left_unopened, settled_unopened, device_fault}
use Rattle.migrate_command.specs.declared.fault.MigrateFault.TheVariants.{NoMemory, DeviceFault}
use Rattle.migrate_command.proofs.migration.migrate.Goals as goal

pub returns-in-Ok-rest_of-clause-migrated : goal.returns-in-Ok-rest_of-clause-migrated
returns-in-Ok-rest_of-clause-migrated g c =
    let log = c.in-Ok.found in
    let limits = c.args.limits in
    let history = c.args.history.items in
    let rest = c.in-Ok-rest_of.ensures in
    let finds = finds_of c.version.result log.version c.into_vec.result.items c.in-Ok.frames limits history c.version.ensures c.into_vec.ensures c.in-Ok-rest_of.payloads.items log.place
    (g.D.Disk.seen c.args.new) (g.D.Disk.seen log.disk) c.in-Ok.ensures.found rest.version rest.rest in
    c.bring_into.ensures.brought c.args.new limits history finds

pub returns-in-Ok-rest_of-clause-crash : goal.returns-in-Ok-rest_of-clause-crash
returns-in-Ok-rest_of-clause-crash g c was is_history =
    let log = c.in-Ok.found in
    let limits = c.args.limits in
    let history = c.args.history.items in
    let rest = c.in-Ok-rest_of.ensures in
    let finds = finds_of c.version.result log.version c.into_vec.result.items c.in-Ok.frames limits history c.version.ensures c.into_vec.ensures c.in-Ok-rest_of.payloads.items log.place
    (g.D.Disk.seen c.args.new) (g.D.Disk.seen log.disk) c.in-Ok.ensures.found rest.version rest.rest in
    c.bring_into.ensures.crash was c.args.new limits history is_history finds

pub returns-in-Ok-rest_of-clause-refused : goal.returns-in-Ok-rest_of-clause-refused
returns-in-Ok-rest_of-clause-refused g c =
    let log = c.in-Ok.found in
    let limits = c.args.limits in
    let history = c.args.history.items in
    let rest = c.in-Ok-rest_of.ensures in
    let finds = finds_of c.version.result log.version c.into_vec.result.items c.in-Ok.frames limits history c.version.ensures c.into_vec.ensures c.in-Ok-rest_of.payloads.items log.place
    (g.D.Disk.seen c.args.new) (g.D.Disk.seen log.disk) c.in-Ok.ensures.found rest.version rest.rest in
    c.bring_into.ensures.refused c.args.new limits history finds

pub returns-in-Err-rest_of-clause-crash : goal.returns-in-Err-rest_of-clause-crash
returns-in-Err-rest_of-clause-crash g c was is_history =
    let seen = g.D.Disk.seen in
    let found = c.in-Ok.ensures.found in
    subst (λ d. IsMigration c.args.limits c.args.history.items (seen c.args.new) (seen d)) (sym c.leave.ensures)
    (opened_alone c.args.limits c.args.history.items (seen c.args.new) (seen c.in-Ok.found.disk) found.opens (same_leaves (seen c.args.new) (seen c.in-Ok.found.disk) found.unwritten.content))

pub returns-in-Err-rest_of-clause-refused : goal.returns-in-Err-rest_of-clause-refused
returns-in-Err-rest_of-clause-refused g c =
    let seen = g.D.Disk.seen in
    let log = c.in-Ok.found in
    let history = c.args.history.items in
    let found = c.in-Ok.ensures.found in
    let fault = c.in-Err-rest_of.fault in
    let why = no_front_of c.version.result log.version c.into_vec.result.items c.in-Ok.frames c.args.limits history c.version.ensures c.into_vec.ensures fault c.in-Err-rest_of.ensures.fault in
    record {
      so = λ bytes told. unmigrated c.in-Ok.frames (number_of log.version) c.args.limits history fault bytes (found.was bytes told) (found.named bytes told) why;
      left_alone = λ bytes told none.
          subst (λ d. LeavesRefused fault bytes (seen c.args.new) (seen d)) (sym c.leave.ensures)
          (left_found c.in-Ok.frames log.place (number_of log.version) (seen c.args.new) (seen log.disk) found fault bytes told);
      kept = λ other. subst (λ d. Unwritten (seen c.args.new) (seen d)) (sym c.leave.ensures) found.unwritten;
      settled = λ other. inl (subst (λ d. OnlyContent (seen d)) (sym c.leave.ensures) found.only);
      failed = λ device. absurd (c.in-Err-rest_of.ensures.no_device device);
    }

pub returns-in-Err-clause-crash : goal.returns-in-Err-clause-crash
returns-in-Err-clause-crash g c was is_history =
    opened_alone c.args.limits c.args.history.items (g.D.Disk.seen c.args.new) (g.D.Disk.seen c.in-Err.failed.0) c.in-Err.ensures.crash
    (same_leaves (g.D.Disk.seen c.args.new) (g.D.Disk.seen c.in-Err.failed.0) c.in-Err.ensures.unwritten.content)

pub returns-in-Err-clause-refused : goal.returns-in-Err-clause-refused
returns-in-Err-clause-refused g c = record {
  so = λ log told.
      let seen = g.D.Disk.seen in
      let history = c.args.history.items in
      subst (λ f. IsUnmigrated c.args.limits history log f) (sym c.migrate_fault.ensures)
      (unopened (seen c.args.new) (seen c.in-Err.failed.0) c.args.limits history c.in-Err.failed.1 c.in-Err.ensures.fault log told);
  left_alone = λ log told none.
      let seen = g.D.Disk.seen in
      let refused = c.in-Err.ensures in
      subst (λ f. LeavesRefused f log (seen c.args.new) (seen c.in-Err.failed.0)) (sym c.migrate_fault.ensures)
      (left_unopened (seen c.args.new) (seen c.in-Err.failed.0) c.in-Err.failed.1 refused.crash
      (same_leaves (seen c.args.new) (seen c.in-Err.failed.0) refused.unwritten.content) refused.fault log told);
  kept = λ other. c.in-Err.ensures.unwritten;
  settled = λ other.
      let seen = g.D.Disk.seen in
      let old = seen c.args.new in
      let new = seen c.in-Err.failed.0 in
      subst (λ f. f ≢ DeviceFault → OnlyContent new ⊎ ((f ≡ NoMemory) × SameDisk old new)) (sym c.migrate_fault.ensures)
      (settled_unopened old new c.in-Err.failed.1 c.in-Err.ensures.fault) other;
  failed = λ device.
      let seen = g.D.Disk.seen in
      device_fault (seen c.args.new) (seen c.in-Err.failed.0) c.in-Err.failed.1 c.in-Err.ensures.fault (sym c.migrate_fault.ensures ∙ device);
}
