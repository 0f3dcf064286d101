use Rattle.std.proofs.Common.{◌++◌, [], length, sym, ap, subst, ◌∙◌, arith}
use Rattle.std.proofs.lemmas.List.{append-nil}
use Rattle.std.proofs.lemmas.Result.{err_from_is_err_and}
use Rattle.commit_journal.specs.declared.fault.JournalFault.TheVariants as journal
use Rattle.commit_journal.specs.Journal.{IsRecovered}
use Rattle.commit_journal.specs.Log.{payloads_of}
use Rattle.commit_journal.specs.Versions.{number_of}
use Rattle.entry_record.specs.History.{IsWithin}
use Rattle.entry_history.specs.Payloads.{IsHistory, CanFollow}
use Rattle.durable_catalogue.specs.Durables.{IsKept}
use Rattle.durable_catalogue.proofs.Loads.{bounded_catalogue}
use Rattle.durable_catalogue.specs.Loading.{IsCatalogueOf}
use Rattle.durable_catalogue.proofs.Founds.{found_since}
use Rattle.durable_catalogue.proofs.Opened.{never_full, next_follows, reading, opened_kept}
use Rattle.durable_catalogue.proofs.durable.Durable.open.Goals as goal

pub run_behind-run-requires-clause-unstaged : goal.run_behind-run-requires-clause-unstaged
run_behind-run-requires-clause-unstaged g c = ap (λ core. core.staged) c.in_ok-found.ensures.found.made.core_is

pub run_behind-run-requires-clause-last : goal.run_behind-run-requires-clause-last
run_behind-run-requires-clause-last g c = c.in_ok-found.ensures.found.made.last

pub run_behind-run-requires-clause-bounded : goal.run_behind-run-requires-clause-bounded
run_behind-run-requires-clause-bounded g c =
    let found = c.in_ok-found.ensures.found in
    let loaded = c.in_ok-found.loaded in
    let two = ap number_of (found.version_is ∙ c.in_ok-found.ensures.newest) in
    bounded_catalogue (payloads_of found.frames) c.args.limits loaded.core loaded.last_run
    (subst (λ v. IsCatalogueOf (IsHistory v [] (payloads_of found.frames)) c.args.limits loaded.core loaded.last_run) two found.made)

pub invariant_of-result : goal.invariant_of-result
invariant_of-result g c =
    let seen = g.D.Disk.seen in
    let log = c.in_ok-found.found in
    let found = c.in_ok-found.ensures.found in
    let is = found_since c.in_ok-begun.begun log found c.args.disk c.in_ok-begun.ensures.begun (g.met.D.Disk.content_len log.disk) in
    let journal = c.in_ok-journal.journal in
    let frames = found.frames in
    let taken = c.in_ok-journal.ensures.taken c.args.disk frames is in
    let history = c.in_ok-found.loaded.core.history in
    let named = found.version_is ∙ c.in_ok-found.ensures.newest in
    let two = c.in_ok-journal.ensures.version ∙ named in
    let recovered = subst (λ v. IsRecovered frames journal.place (number_of v) (seen c.args.disk) (seen journal.disk)) two taken.recovered in
    let holds = subst (λ v. IsHistory (number_of v) [] (payloads_of frames) history) named found.made.history in
    let unstaged = ap (λ core. core.staged) found.made.core_is in
    let opened = c.history_len-opened.ensures.value ∙ ap (λ es. length (history ++ es)) unstaged ∙ ap length (append-nil history) in
    let kept = opened_kept frames journal.place (seen c.args.disk) (seen journal.disk) history recovered taken.settling.opens holds taken.opened.later in
    record {
      unstaged = unstaged;
      newest = two;
      broken = c.in_ok-journal.ensures.whole;
      follows = subst (CanFollow history) (sym c.run_behind-run.ensures) (next_follows history (payloads_of frames) holds);
      is_news = tt;
      kept = subst (λ n. IsKept n history [] (seen c.of-before.result.value) (seen c.of-first.result.value.disk) (seen journal.disk)) (sym opened)
          (subst (λ b. IsKept (length history) history [] (seen b) (seen c.of-first.result.value.disk) (seen journal.disk)) (sym c.of-before.ensures)
          (subst (λ j. IsKept (length history) history [] (seen c.args.disk) (seen j.disk) (seen journal.disk)) (sym c.of-first.ensures) kept));
      rose = λ none. cc;
      few = omega arith;
      within = subst (λ limits. IsWithin limits (history ++ [])) (sym (ap (λ core. core.limits) found.made.core_is))
          (subst (λ es. IsWithin c.args.limits es) (sym (append-nil history)) found.made.within);
    }

pub returns-in_err-begun-clause-refused : goal.returns-in_err-begun-clause-refused
returns-in_err-begun-clause-refused g c =
    let exit = err_from_is_err_and c.from_residual.result c.from_residual.ensures.1 in
    rw (exit.1, exit.2) (c.in_err-begun.ensures.refused c.args.limits)

pub returns-in_err-found-clause-refused : goal.returns-in_err-found-clause-refused
returns-in_err-found-clause-refused g c =
    let exit = err_from_is_err_and c.from_residual-in_err-found.result c.from_residual-in_err-found.ensures.1 in
    rw (exit.1, exit.2) (c.in_err-found.ensures.refused c.args.disk c.in_ok-begun.ensures.begun)

pub returns-in_err-found-clause-old_first : goal.returns-in_err-found-clause-old_first
returns-in_err-found-clause-old_first g c =
    let exit = err_from_is_err_and c.from_residual-in_err-found.result c.from_residual-in_err-found.ensures.1 in
    let begun = c.in_ok-begun.begun in
    let first = c.in_err-found.ensures.old_first in
    let named = c.in_ok-begun.ensures.named in
    rw (exit.1, exit.2) (λ full log told. named log told ∙ ap number_of (first full))

pub returns-in_err-journal-clause-refused : goal.returns-in_err-journal-clause-refused
returns-in_err-journal-clause-refused g c =
    let exit = err_from_is_err_and c.from_residual-in_err-journal.result c.from_residual-in_err-journal.ensures.1 in
    let log = c.in_ok-found.found in
    let found = c.in_ok-found.ensures.found in
    let is = found_since c.in_ok-begun.begun log found c.args.disk c.in_ok-begun.ensures.begun (g.met.D.Disk.content_len log.disk) in
    rw (exit.1, exit.2) (c.in_err-journal.ensures.refused c.args.disk found.frames c.args.limits is)

pub returns-in_err-journal-clause-old_first : goal.returns-in_err-journal-clause-old_first
returns-in_err-journal-clause-old_first g c =
    let exit = err_from_is_err_and c.from_residual-in_err-journal.result c.from_residual-in_err-journal.ensures.1 in
    let device = c.in_err-journal.ensures.device in
    rw (exit.1, exit.2) (λ full log told. absurd (never_full journal.DeviceFault (sym device ∙ full)))

pub returns-clause-history : goal.returns-clause-history
returns-clause-history g c bytes told =
    let log = c.in_ok-found.found in
    let found = c.in_ok-found.ensures.found in
    let is = found_since c.in_ok-begun.begun log found c.args.disk c.in_ok-begun.ensures.begun (g.met.D.Disk.content_len log.disk) in
    ∣ reading bytes found.frames (number_of log.version) c.in_ok-found.loaded.core.history (is.was bytes told) (is.named bytes told) found.made.history ∣₁

pub returns-clause-version : goal.returns-clause-version
returns-clause-version g c bytes told = c.in_ok-begun.ensures.named bytes told ∙ ap number_of c.in_ok-found.ensures.newest

pub returns-clause-within : goal.returns-clause-within
returns-clause-within g c = c.in_ok-found.ensures.found.made.within

pub returns-clause-limits : goal.returns-clause-limits
returns-clause-limits g c = ap (λ core. core.limits) c.in_ok-found.ensures.found.made.core_is

pub returns-clause-opened : goal.returns-clause-opened
returns-clause-opened g c =
    let history = c.in_ok-found.loaded.core.history in
    let unstaged = ap (λ core. core.staged) c.in_ok-found.ensures.found.made.core_is in
    c.history_len-opened.ensures.value ∙ ap (λ es. length (history ++ es)) unstaged ∙ ap length (append-nil history)

pub returns-clause-disk : goal.returns-clause-disk
returns-clause-disk g c =
    let log = c.in_ok-found.found in
    let found = c.in_ok-found.ensures.found in
    let is = found_since c.in_ok-begun.begun log found c.args.disk c.in_ok-begun.ensures.begun (g.met.D.Disk.content_len log.disk) in
    (c.in_ok-journal.ensures.taken c.args.disk found.frames is).opened
