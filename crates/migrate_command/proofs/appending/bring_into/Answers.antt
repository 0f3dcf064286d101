use Rattle.std.proofs.Common.{◌∙◌, refl, sym, ap, subst}
use Rattle.outside.specs.Fault.{Rose}
use Rattle.outside.proofs.Counts.{rose_since}
use Rattle.commit_journal.specs.Versions.{number_of}
use Rattle.migrate_command.specs.Fronts.{AreRest, HoldsFront}
use Rattle.migrate_command.specs.Migrations.{IsUnmigrated, IsMigration}
use Rattle.migrate_command.proofs.Opened.{opened_alone, fit, left_faulted, brings_behind, brought_behind, brought_all, images_all, migrated}
use Rattle.migrate_command.proofs.appending.bring_into.Goals as goal

pub returns-in-Ok-bring_rest-clause-brought : goal.returns-in-Ok-bring_rest-clause-brought
returns-in-Ok-bring_rest-clause-brought g c before limits history finds =
    let seen = g.D.Disk.seen in
    let log = c.args.found in
    let holds = finds.holds in
    let count = holds.count in
    let settled = c.in-Ok.ensures in
    let journal = c.in-Ok.journal in
    let now = c.bring_rest.new.journal in
    let version = number_of journal.version in
    let recovered = settled.recovered before finds.frames finds.found in
    let settling = settled.crash before finds.frames finds.found in
    let front = subst (λ v. HoldsFront (number_of v) finds.frames limits history count) (sym settled.version) holds.front in
    let two = ap number_of settled.version ∙ finds.newest in
    let rest = subst (AreRest history count) (sym c.as_slice.ensures.value) holds.rest in
    let done = c.in-Ok-bring_rest.ensures in
    let brought = brought_behind limits history count version finds.frames two front (seen journal.disk) (seen now.disk) (done.brought history count rest) in
    record {
      fit = λ bytes told. fit limits history c.args.payloads.items log.place (number_of log.version) (seen before) (seen log.disk) finds bytes told;
      all = λ was bytes is_history told image.
          images_all history finds.frames journal.place version (seen before) (seen journal.disk) recovered settling.opens settling.content (seen now.disk)
          c.bring_rest.ensures.continues was is_history (g.met.D.Disk.content_is_image now.disk) front.entries front.holds brought
          now.place (number_of now.version) (now.settled done.whole.0) (ap number_of done.whole.1) bytes told (subst (λ d. (seen d).image bytes) c.close.ensures image);
      content = λ was bytes is_history is_now.
          brought_all history finds.frames journal.place version (seen before) (seen journal.disk) recovered settling.opens settling.content (seen now.disk)
          c.bring_rest.ensures.continues was is_history (g.met.D.Disk.content_is_image now.disk) front.entries front.holds brought
          now.place (number_of now.version) (now.settled done.whole.0) (ap number_of done.whole.1) bytes (sym (ap (λ d. (seen d).content) c.close.ensures) ∙ is_now);
    }

pub returns-in-Ok-bring_rest-clause-crash : goal.returns-in-Ok-bring_rest-clause-crash
returns-in-Ok-bring_rest-clause-crash g c was before limits history is_history finds =
    let seen = g.D.Disk.seen in
    let log = c.args.found in
    let holds = finds.holds in
    let count = holds.count in
    let settled = c.in-Ok.ensures in
    let journal = c.in-Ok.journal in
    let now = c.bring_rest.new.journal in
    let version = number_of journal.version in
    let recovered = settled.recovered before finds.frames finds.found in
    let settling = settled.crash before finds.frames finds.found in
    let front = subst (λ v. HoldsFront (number_of v) finds.frames limits history count) (sym settled.version) holds.front in
    let two = ap number_of settled.version ∙ finds.newest in
    let rest = subst (AreRest history count) (sym c.as_slice.ensures.value) holds.rest in
    let brings = brings_behind limits history count version finds.frames two front (seen journal.disk) (seen now.disk) (c.bring_rest.ensures.brings history count rest) in
    subst (λ d. IsMigration limits history (seen before) (seen d)) (sym c.close.ensures)
    (migrated history finds.frames journal.place version (seen before) (seen journal.disk) recovered settling.opens settling.content (seen now.disk)
    c.bring_rest.ensures.continues was is_history (g.met.D.Disk.content_is_image now.disk) limits brings
    (g.met.D.Disk.synced_by_now journal.disk (seen before).moment) settling.synced (g.met.D.Disk.undated_syncs now.disk (seen before).moment))

pub returns-in-Ok-clause-crash : goal.returns-in-Ok-clause-crash
returns-in-Ok-clause-crash g c was before limits history is_history finds =
    let seen = g.D.Disk.seen in
    let log = c.args.found in
    let holds = finds.holds in
    let count = holds.count in
    let settled = c.in-Ok.ensures in
    let journal = c.in-Ok.journal in
    let now = c.bring_rest.new.journal in
    let version = number_of journal.version in
    let recovered = settled.recovered before finds.frames finds.found in
    let settling = settled.crash before finds.frames finds.found in
    let front = subst (λ v. HoldsFront (number_of v) finds.frames limits history count) (sym settled.version) holds.front in
    let two = ap number_of settled.version ∙ finds.newest in
    let rest = subst (AreRest history count) (sym c.as_slice.ensures.value) holds.rest in
    let brings = brings_behind limits history count version finds.frames two front (seen journal.disk) (seen now.disk) (c.bring_rest.ensures.brings history count rest) in
    subst (λ d. IsMigration limits history (seen before) (seen d)) (sym c.close-in-Err-bring_rest.ensures)
    (migrated history finds.frames journal.place version (seen before) (seen journal.disk) recovered settling.opens settling.content (seen now.disk)
    c.bring_rest.ensures.continues was is_history (g.met.D.Disk.content_is_image now.disk) limits brings
    (g.met.D.Disk.synced_by_now journal.disk (seen before).moment) settling.synced (g.met.D.Disk.undated_syncs now.disk (seen before).moment))

pub returns-in-Ok-clause-refused : goal.returns-in-Ok-clause-refused
returns-in-Ok-clause-refused g c before limits history finds =
    let seen = g.D.Disk.seen in
    let log = c.args.found in
    let failed = c.in-Err-bring_rest.ensures in
    let first = rose_since _ _ _ c.in-Ok.ensures.later failed.cause.failed in
    record {
      so = λ bytes told. subst (λ fault. IsUnmigrated limits history bytes fault) (sym failed.device) tt;
      left_alone = λ bytes told none.
          let is = fit limits history c.args.payloads.items log.place (number_of log.version) (seen before) (seen log.disk) finds bytes told in
          absurd (none is.0 is.1);
      kept = λ other. absurd (other failed.device);
      settled = λ other. absurd (other failed.device);
      failed = λ device. subst (λ d. Rose (seen before).faults (seen d).faults) (sym c.close-in-Err-bring_rest.ensures) (rose_since _ _ _ finds.found.later first);
    }

pub returns-clause-crash : goal.returns-clause-crash
returns-clause-crash g c was before limits history is_history finds =
    let settling = c.in-Err.ensures.crash before finds.frames finds.found in
    opened_alone limits history (g.D.Disk.seen before) (g.D.Disk.seen c.in-Err.failed.0) settling.opens settling.content

pub returns-clause-refused : goal.returns-clause-refused
returns-clause-refused g c before limits history finds =
    let seen = g.D.Disk.seen in
    let settling = c.in-Err.ensures.crash before finds.frames finds.found in
    record {
      so = λ bytes told. tt;
      left_alone = λ bytes told none. left_faulted (seen before) (seen c.in-Err.failed.0) settling bytes told;
      kept = λ other. absurd (other refl);
      settled = λ other. absurd (other refl);
      failed = λ device. rose_since _ _ _ finds.found.later c.in-Err.ensures.cause;
    }
