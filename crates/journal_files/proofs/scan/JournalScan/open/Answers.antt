use Rattle.std.proofs.Common.{◌≡◌, ◌∙◌, [], true, false, sym, ap, arith}
use Rattle.std.proofs.lemmas.Result.{err_from_is_err_and}
use Rattle.commit_journal.specs.Log.{payloads_of}
use Rattle.commit_journal.specs.Versions.{number_of}
use Rattle.entry_history.specs.Payloads.{IsHistory}
use Rattle.durable_catalogue.specs.declared.fault.OpenFault.TheVariants.{DeviceFault, OldVersion}
use Rattle.durable_catalogue.proofs.Founds.{found_since}
use Rattle.durable_catalogue.proofs.Opened.{reading}
use Rattle.journal_files.specs.Journals.{IsHistoryOn}
use Rattle.journal_files.proofs.Turns.{fitting, is_also, passed}
use Rattle.journal_files.proofs.scan.JournalScan.open.Goals as goal

pub returns-in_err-begun-clause-refused : goal.returns-in_err-begun-clause-refused
returns-in_err-begun-clause-refused g c =
    let exit = err_from_is_err_and c.from_residual.result c.from_residual.ensures.1 in
    rw (exit.1, exit.2) (c.in_err-begun.ensures.refused c.args.limits)

pub returns-in_err-found-clause-refused : goal.returns-in_err-found-clause-refused
returns-in_err-found-clause-refused g c =
    let exit = err_from_is_err_and c.from_residual-in_err-found.result c.from_residual-in_err-found.ensures.1 in
    rw (exit.1, exit.2) (c.in_err-found.ensures.refused c.args.disk c.args.limits c.in_ok-begun.ensures.begun)

-- its entries pass the limits
pub returns-then-not-fits-clause-refused : goal.returns-then-not-fits-clause-refused
returns-then-not-fits-clause-refused g c =
    let log = c.in_ok-found.found in
    let found = c.in_ok-found.ensures.found in
    let is = found_since c.in_ok-begun.begun log found c.args.disk c.in_ok-begun.ensures.begun (g.met.D.Disk.content_len log.disk) in
    let over : c.in_ok-found.reading.fits ≡ false = let test = c.if-not-fits.true in grind arith in
    c.refuse_log.ensures.refused c.args.disk found.frames c.args.limits is
    (passed (g.T.EntryTaker.has c.args.taker.now c.find_entries.new.taker) (number_of log.version) found.frames c.args.limits c.in_ok-found.reading found.made over)

pub returns-in_err-journal-clause-refused : goal.returns-in_err-journal-clause-refused
returns-in_err-journal-clause-refused g c =
    let exit = err_from_is_err_and c.from_residual-in_err-journal.result c.from_residual-in_err-journal.ensures.1 in
    let log = c.in_ok-found.found in
    let found = c.in_ok-found.ensures.found in
    let is = found_since c.in_ok-begun.begun log found c.args.disk c.in_ok-begun.ensures.begun (g.met.D.Disk.content_len log.disk) in
    rw (exit.1, exit.2) (c.in_err-journal.ensures.refused c.args.disk found.frames c.args.limits is)

pub returns-in_err-journal-clause-current : goal.returns-in_err-journal-clause-current
returns-in_err-journal-clause-current g c =
    let exit = err_from_is_err_and c.from_residual-in_err-journal.result c.from_residual-in_err-journal.ensures.1 in
    let device = c.in_err-journal.ensures.device in
    rw (exit.1, exit.2) (λ old. let never : DeviceFault ≡ OldVersion = sym device ∙ old in absurd cc)

pub returns-clause-taken : goal.returns-clause-taken
returns-clause-taken g c =
    let seen = g.D.Disk.seen in
    let log = c.in_ok-found.found in
    let found = c.in_ok-found.ensures.found in
    let version = number_of log.version in
    let is = found_since c.in_ok-begun.begun log found c.args.disk c.in_ok-begun.ensures.begun (g.met.D.Disk.content_len log.disk) in
    let has = g.T.EntryTaker.has c.args.taker.now c.find_entries.new.taker in
    let history = IsHistory version [] (payloads_of found.frames) in
    let fits : c.in_ok-found.reading.fits ≡ true = let test = c.if-not-fits.false in grind arith in
    is_also has history (IsHistoryOn (seen c.args.disk)) c.args.limits (λ entries held bytes told. ∣ reading bytes found.frames version entries (is.was bytes told) (is.named bytes told) held ∣₁)
    (fitting has history c.args.limits c.in_ok-found.reading found.made fits)

pub returns-clause-version : goal.returns-clause-version
returns-clause-version g c bytes told =
    c.in_ok-begun.ensures.named bytes told ∙ ap number_of (sym (c.in_ok-journal.ensures.version ∙ c.in_ok-found.ensures.found.version_is))

pub returns-clause-opened : goal.returns-clause-opened
returns-clause-opened g c =
    let log = c.in_ok-found.found in
    let found = c.in_ok-found.ensures.found in
    let is = found_since c.in_ok-begun.begun log found c.args.disk c.in_ok-begun.ensures.begun (g.met.D.Disk.content_len log.disk) in
    (c.in_ok-journal.ensures.taken c.args.disk found.frames is).opened
