use Rattle.std.proofs.Common.{◌↔◌, ◌∙◌, [], sym, subst}
use Rattle.std.specs.Prelude.{IsTrue}
use Rattle.commit_journal.specs.Versions.{number_of}
use Rattle.entry_record.specs.History.{IsWithin}
use Rattle.entry_history.specs.Payloads.{IsHistory}
use Rattle.commit_journal.specs.Log.{payloads_of}
use Rattle.migrate_command.specs.Fronts.{HoldNoFront}
use Rattle.migrate_command.proofs.Fronts.{no_front_unread, not_device}
use Rattle.migrate_command.proofs.front.read_history.Goals as goal

pub returns-in-Ok-clause-history : goal.returns-in-Ok-clause-history
returns-in-Ok-clause-history c =
    let taken = c.in-Ok.ensures.taken in
    subst (λ items. IsHistory (number_of c.args.version) [] (payloads_of c.args.frames.items) items) (sym taken.taken) taken.history

pub returns-in-Ok-clause-fits : goal.returns-in-Ok-clause-fits
returns-in-Ok-clause-fits c =
    let taken = c.in-Ok.ensures.taken in
    subst (λ items. IsTrue c.in-Ok.reading.fits ↔ IsWithin c.args.limits items) (sym taken.taken) taken.fits_is

pub returns-in-Err-clause-fault : goal.returns-in-Err-clause-fault
returns-in-Err-clause-fault c history =
    let version = number_of c.args.version in
    subst (HoldNoFront version c.args.frames.items c.args.limits history) (sym c.migrate_opening.ensures)
    (no_front_unread version c.args.frames.items c.args.limits history c.in-Err.fault c.in-Err.ensures.fault)

pub returns-in-Err-clause-no_device : goal.returns-in-Err-clause-no_device
returns-in-Err-clause-no_device c is = not_device c.in-Err.fault c.in-Err.ensures.no_device (sym c.migrate_opening.ensures ∙ is)
