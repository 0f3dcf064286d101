use Rattle.std.proofs.Common.{◌≡◌, ◌∙◌, sym, ap}
use Rattle.std.proofs.lemmas.Result.{err_from_is_err_and}
use Rattle.commit_journal.specs.Versions.{number_of}
use Rattle.durable_catalogue.specs.declared.fault.OpenFault.TheVariants.{DeviceFault, OldVersion}
use Rattle.durable_catalogue.proofs.Founds.{found_since}
use Rattle.durable_catalogue.proofs.Opened.{reading}
use Rattle.durable_catalogue.proofs.archive.RecoveredReadOnly.open.Goals as goal

pub returns-in_err-begun-clause-refused : goal.returns-in_err-begun-clause-refused
returns-in_err-begun-clause-refused g c =
    let exit = err_from_is_err_and c.from_residual.result c.from_residual.ensures.1 in
    rw (exit.1, exit.2) (c.in_err-begun.ensures.refused c.args.limits)

pub returns-in_err-found-clause-refused : goal.returns-in_err-found-clause-refused
returns-in_err-found-clause-refused g c =
    let exit = err_from_is_err_and c.from_residual-in_err-found.result c.from_residual-in_err-found.ensures.1 in
    rw (exit.1, exit.2) (c.in_err-found.ensures.refused c.args.disk c.in_ok-begun.ensures.begun)

pub returns-in_err-journal-clause-refused : goal.returns-in_err-journal-clause-refused
returns-in_err-journal-clause-refused g c =
    let exit = err_from_is_err_and c.from_residual-in_err-journal.result c.from_residual-in_err-journal.ensures.1 in
    let log = c.in_ok-found.found in
    let found = c.in_ok-found.ensures.found in
    let is = found_since c.in_ok-begun.begun log found c.args.disk c.in_ok-begun.ensures.begun (g.met.D.Disk.content_len log.disk) in
    rw (exit.1, exit.2) (c.in_err-journal.ensures.refused c.args.disk found.frames c.args.limits is)

pub returns-in_err-journal-clause-current : goal.returns-in_err-journal-clause-current
returns-in_err-journal-clause-current g c =
    let exit = err_from_is_err_and c.from_residual-in_err-journal.result c.from_residual-in_err-journal.ensures.1 in
    let device = c.in_err-journal.ensures.device in
    rw (exit.1, exit.2) (λ old. let never : DeviceFault ≡ OldVersion = sym device ∙ old in absurd cc)

pub returns-clause-history : goal.returns-clause-history
returns-clause-history g c log_bytes told =
    let log = c.in_ok-found.found in
    let found = c.in_ok-found.ensures.found in
    let version = number_of log.version in
    let is = found_since c.in_ok-begun.begun log found c.args.disk c.in_ok-begun.ensures.begun (g.met.D.Disk.content_len log.disk) in
    ∣ reading log_bytes found.frames version c.in_ok-found.loaded.core.history (is.was log_bytes told) (is.named log_bytes told) found.made.history ∣₁

pub returns-clause-version : goal.returns-clause-version
returns-clause-version g c log_bytes told =
    let log = c.in_ok-found.found in
    let found = c.in_ok-found.ensures.found in
    let is = found_since c.in_ok-begun.begun log found c.args.disk c.in_ok-begun.ensures.begun (g.met.D.Disk.content_len log.disk) in
    is.named log_bytes told ∙ ap number_of (sym c.in_ok-journal.ensures.version)

pub returns-clause-within : goal.returns-clause-within
returns-clause-within g c = c.in_ok-found.ensures.found.made.within

pub returns-clause-opened : goal.returns-clause-opened
returns-clause-opened g c =
    let log = c.in_ok-found.found in
    let found = c.in_ok-found.ensures.found in
    let is = found_since c.in_ok-begun.begun log found c.args.disk c.in_ok-begun.ensures.begun (g.met.D.Disk.content_len log.disk) in
    (c.in_ok-journal.ensures.taken c.args.disk found.frames is).opened

pub invariant_of-result : goal.invariant_of-result
invariant_of-result g c = record { unstaged = ap (λ core. core.staged) c.in_ok-found.ensures.found.made.core_is }
