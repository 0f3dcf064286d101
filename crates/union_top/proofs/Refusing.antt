-- Each command whose journal can't be used ends with the status that says why, or memory ran out, where no count of faults rose.
use Rattle.std.proofs.Common.{◌≡◌, ◌≢◌, ◌⊎◌, inl, inr, ℕ, true, List, [], ◌∷◌, ◌++◌, Option, Some, refl, sym, ap, subst, ◌∙◌, arith}
use Rattle.std.proofs.Math.Logic.{∥∥₁_elim}
use Rattle.marc_types.specs.declared.entry.Entry.{Entry}
use Rattle.outside.specs.Room.{RoomView, SameBut}
use Rattle.commit_journal.specs.Log.{version_of}
use Rattle.command_words.specs.declared.library.Library.{Library}
use Rattle.command_words.specs.Command.{Command, Pass, Run, Load, Browse, Export, Report, Make, Verify, VerifyPoint, VerifyDigest, Matches, Holdings, Headings, Worklist, Migrate, Salvage, Checkpoint, Quick, QuickReport, Read, ReadHoldings, ReadWorklist, Refused as RefusedOf, Totals as TotalsOf, Join, Split, Help, Version, libraries_of}
use Rattle.command_words.specs.Look.{HeadingRange}
use Rattle.entry_record.specs.History.{IsMerged, IsWithin}
use Rattle.console_lines.specs.Ends.{Outcome, IsAllDone, TellsNoFault, end_status, out_unwritten, side_unwritten, console_unwritten}
use Rattle.console_lines.specs.Faults.{fault_status}
use Rattle.console_lines.specs.declared.end.End.{End}
use Rattle.console_lines.specs.declared.end.End.TheVariants.{Done, Refused, Unwritten, Told, BroughtInPart, Differ}
use Rattle.console_lines.specs.declared.fault.Fault.{Fault}
use Rattle.console_lines.specs.declared.fault.Fault.TheVariants as fault
use Rattle.durable_catalogue.specs.Openings.{IsUnopened}
use Rattle.durable_catalogue.specs.declared.fault.OpenFault.{OpenFault}
use Rattle.durable_catalogue.specs.declared.fault.OpenFault.TheVariants as opening
use Rattle.journal_files.specs.Faults.{fault_of_opening}
use Rattle.journal_files.specs.Journals.{journal_limits, log_bytes, HasFittingHistory}
use Rattle.journal_files.proofs.Histories.{reading_once}
use Rattle.archive_commands.specs.Reads as reading
use Rattle.archive_commands.specs.Reads.{ReadsJournal, EndsReading}
use Rattle.archive_commands.specs.Telling.{matches_due}
use Rattle.heading_list.specs.Telling.{headings_due}
use Rattle.holdings_command.specs.Attaching.{AttachesHoldings, EndsAttaching}
use Rattle.migrate_command.specs.Migrates.{Migrates, EndsMigrating, WhyNotFrom, NotOpened, Newest, WhyNotInto}
use Rattle.loading_commands.specs.Loading.{Loads, Runs}
use Rattle.browsing_commands.specs.Browses.{Browses}
use Rattle.loading_commands.specs.Outcomes.{IsLoadingFault}
use Rattle.loading_commands.specs.Runs.{EndsLoad, EndsRun, IsMergedLoad, WhyNotLoad}
use Rattle.loading_commands.specs.Runs as runs
use Rattle.union_top.specs.Commands.{Ends}
use Rattle.union_top.specs.Complete.{CountsStayed}
use Rattle.union_top.specs.Misfits.{IsNoHistory, IsOfVersion, IsTooLarge, AreTooLarge, IsStatus, IsOneFile, RefusesMisfits}
use Rattle.union_top.proofs.Complete.{around_of, one_stayed, none_failed, neither}
use Rattle.union_top.proofs.Unopened.{may_be}
use Rattle.union_top.proofs.Listed.{lists_refuses}
use Rattle.union_top.proofs.ListedUnheld.{lists_unheld_refuses}
use Rattle.union_top.proofs.Looking.{looks_refuses, with_bytes}
use Rattle.union_top.proofs.Unheld.{unheld_status}
use Rattle.union_top.proofs.Pointing.{checkpoint_refuses, quick_refuses, quick_report_refuses}
use Rattle.union_top.proofs.OwnPoint.{owns_refuses}
use Rattle.union_top.proofs.Digested.{none_digested}
use Rattle.union_top.proofs.Salvaged.{none_salvaged}
use Rattle.union_top.proofs.Misfits.{by_told, none_opened, large_opened, none_fits, large_fits, none_loaded, old_loaded, large_loaded}
use mathlib.Core.HLevel.{⊥_prop}

no_fault : (end : End) → IsAllDone end → TellsNoFault end
no_fault Done good = tt
no_fault Refused good = tt
no_fault (Unwritten which) good = absurd good
no_fault (Told why) good = absurd good
no_fault BroughtInPart good = absurd good
no_fault Differ good = absurd good

-- what an opening that isn't of an old version says of a status
abbrev OpensWith : RoomView → ℕ → List ℕ → Type 0
OpensWith room due log = (of : OpenFault) → IsUnopened (journal_limits room) log of → (of ≡ opening.OldVersion → ⊥) → (fault_of_opening of ≡ fault.Device → ⊥)
    → IsStatus due (fault_status (fault_of_opening of))

none_opens : (room : RoomView) (log : List ℕ) → IsNoHistory log → OpensWith room 6 log
none_opens room log none of so current device = none_opened room log none of so device

large_opens : (room : RoomView) (log : List ℕ) → IsTooLarge (journal_limits room) log → OpensWith room 7 log
large_opens room log large of so current device = large_opened room log large.entries large.has of so current device

module _ (o : Outcome) (tells : o.old.tells ≡ true) where
  abbrev Never : End → Type 0
  Never end = o.end ≡ end → ⊥

  -- ---- commands that read a journal
  module _ (due : ℕ) (journal : List ℕ) (unfit : HasFittingHistory o.old (log_bytes o.old journal) → ⊥) (opens : OpensWith o.old due (log_bytes o.old journal)) where
    reads_status : (out : List ℕ) (bytes : List Entry → List ℕ) → ReadsJournal journal out bytes o → Never out_unwritten → Never (Told fault.Device)
        → IsStatus due (end_status o.end)
    reads_status out bytes r no_out no_device =
        by_told due o.end (λ good. unfit (r.history (no_fault o.end good) tells)) no_out ((λ is. subst EndsReading is r.ends), (λ is. subst EndsReading is r.ends))
        (λ is. subst EndsReading is r.ends) ((λ is. subst EndsReading is r.ends), (λ is. subst EndsReading is r.ends))
        (λ why is.
        let w = (r.told why is).1 in
        subst (λ f. IsStatus due (fault_status f)) (sym w.is) (opens w.reason (w.so tells)
        (λ old. subst EndsReading (is ∙ ap Told (w.is ∙ ap fault_of_opening old)) r.ends) (λ device. no_device (is ∙ ap Told (w.is ∙ device)))))

    attaches_status : (out rest : List ℕ) (library : Library) (code : Option (List ℕ)) → AttachesHoldings journal out rest library code o
        → Never out_unwritten → Never side_unwritten → Never console_unwritten → Never (Told fault.Input) → Never (Told fault.Device)
        → IsStatus due (end_status o.end)
    attaches_status out rest library code a no_out no_rest no_console no_input no_device =
        by_told due o.end (λ good. unfit (a.history (inl (no_fault o.end good)) tells)) no_out (no_rest, λ is. subst EndsAttaching is a.ends) no_console
        ((λ is. subst EndsAttaching is a.ends), (λ is. subst EndsAttaching is a.ends))
        (λ why is.
        let w = a.because why is (λ same. no_input (is ∙ ap Told same)) in
        subst (λ f. IsStatus due (fault_status f)) (sym w.is) (opens w.reason (w.so tells)
        (λ old. subst EndsAttaching (is ∙ ap Told (w.is ∙ ap fault_of_opening old)) a.ends) (λ device. no_device (is ∙ ap Told (w.is ∙ device)))))

  -- ---- commands that load files
  module _ (due : ℕ) (journal : List ℕ) (libraries : List Library) (unmerged : IsMergedLoad o.old o.new journal libraries → ⊥)
      (loaded : (why : Fault) → (why ≡ fault.Device → ⊥) → (why ≡ fault.Input → ⊥) → IsLoadingFault o.old o.new journal libraries why
      → IsStatus due (fault_status why)) where
    either : (why : Fault) → WhyNotLoad o.old o.new journal libraries why → (why ≡ fault.Device → ⊥) → (why ≡ fault.Input → ⊥)
        → IsStatus due (fault_status why)
    either why (runs.NotLoaded is) device input = loaded why device input is
    either why (runs.NoMemory memory merged) device input = inr (ap fault_status memory)

    loads_status : Loads libraries journal o → Never console_unwritten → Never (Told fault.Input) → Never (Told fault.Device) → IsStatus due (end_status o.end)
    loads_status l no_console no_input no_device =
        by_told due o.end (λ good. unmerged (l.whole good tells).merged) l.no_output.0 (l.no_output.1, λ is. subst EndsLoad is l.ends) no_console
        ((λ is. subst EndsLoad is l.ends), (λ is. subst EndsLoad is l.ends))
        (λ why is. either why (l.because why is tells) (λ same. no_device (is ∙ ap Told same)) (λ same. no_input (is ∙ ap Told same)))

    runs_status : (out report : List ℕ) → Runs libraries journal out report o → Never out_unwritten → Never side_unwritten → Never console_unwritten
        → Never (Told fault.Input) → Never (Told fault.Device) → IsStatus due (end_status o.end)
    runs_status out report r no_out no_report no_console no_input no_device =
        by_told due o.end (λ good. unmerged (r.whole good tells).merged) no_out (no_report, λ is. subst EndsRun is r.ends) no_console
        ((λ is. subst EndsRun is r.ends), (λ is. subst EndsRun is r.ends))
        (λ why is. either why (r.because why is tells) (λ same. no_device (is ∙ ap Told same)) (λ same. no_input (is ∙ ap Told same)))

  module _ (journal : List ℕ) (libraries : List Library) (m : IsMergedLoad o.old o.new journal libraries) where
    none_merged : IsNoHistory (log_bytes o.old journal) → ⊥
    none_merged none = none m.before m.history.was

    old_merged : IsOfVersion 1 (log_bytes o.old journal) → ⊥
    old_merged one =
        let oldest : version_of (log_bytes o.old journal) ≡ 1 = one.version_is in
        let newest : version_of (log_bytes o.old journal) ≡ 2 = m.history.version in
        omega (arith, oldest, newest)

    large_merged : AreTooLarge o.old journal libraries → ⊥
    large_merged large =
        ∥∥₁_elim large.journal_is.has ⊥_prop (λ has. ∥∥₁_elim m.history.was ⊥_prop (λ was.
        let same : m.before ≡ large.journal_is.entries = reading_once m.before large.journal_is.entries (log_bytes o.old journal) was has in
        large.pass m.added m.accepted m.refused m.history.judged (subst (λ before. IsMerged before m.accepted m.added) same m.history.merged)
        (subst (λ before. IsWithin (journal_limits o.old) (before ++ m.added)) same m.history.within)))

  -- ---- the command that brings a journal's history into another
  module _ (from into : List ℕ) (m : Migrates from into o) (no_device : Never (Told fault.Device)) (no_console : Never console_unwritten) where
    migrates_status : (due : ℕ) → (TellsNoFault o.end → ⊥) → ((why : Fault) → o.end ≡ Told why → WhyNotFrom o.old from why → IsStatus due (fault_status why))
        → ((why : Fault) → WhyNotInto o.old from into why → ⊥) → IsStatus due (end_status o.end)
    migrates_status due not_done of_from of_into =
        by_told due o.end (λ good. not_done (no_fault o.end good)) (λ is. subst EndsMigrating is m.ends)
        ((λ is. subst EndsMigrating is m.ends), (λ is. subst EndsMigrating is m.ends)) no_console
        ((λ is. subst EndsMigrating is m.ends), (λ is. subst EndsMigrating is m.ends))
        (λ why is. either why is (m.told why is).1)
      where
        either : (why : Fault) → o.end ≡ Told why → (WhyNotFrom o.old from why × SameBut o.old o.new (from ∷ [])) ⊎ WhyNotInto o.old from into why
            → IsStatus due (fault_status why)
        either why is (inl w) = of_from why is w.0
        either why is (inr w) = absurd (of_into why w)

    device_of : (why : Fault) (reason : OpenFault) → o.end ≡ Told why → why ≡ fault_of_opening reason → fault_of_opening reason ≡ fault.Device → ⊥
    device_of why reason is told device = no_device (is ∙ ap Told (told ∙ device))

    none_migrates : IsNoHistory (log_bytes o.old from) → IsStatus 6 (end_status o.end)
    none_migrates none =
        migrates_status 6 (λ done. none_fits o.old (log_bytes o.old from) none (m.history done tells)) of_from
        (λ why w. none_fits o.old (log_bytes o.old from) none (w.history tells))
      where
        of_from : (why : Fault) → o.end ≡ Told why → WhyNotFrom o.old from why → IsStatus 6 (fault_status why)
        of_from why is (NotOpened reason current told so) =
            subst (λ f. IsStatus 6 (fault_status f)) (sym told) (none_opened o.old (log_bytes o.old from) none reason (so tells) (device_of why reason is told))
        of_from why is (Newest told so) = absurd (none_fits o.old (log_bytes o.old from) none (so tells).1)

    large_migrates : IsTooLarge (journal_limits o.old) (log_bytes o.old from) → IsStatus 7 (end_status o.end)
    large_migrates large =
        migrates_status 7 (λ done. large_fits o.old (log_bytes o.old from) large (m.history done tells)) of_from
        (λ why w. large_fits o.old (log_bytes o.old from) large (w.history tells))
      where
        of_from : (why : Fault) → o.end ≡ Told why → WhyNotFrom o.old from why → IsStatus 7 (fault_status why)
        of_from why is (NotOpened reason current told so) =
            subst (λ f. IsStatus 7 (fault_status f)) (sym told)
            (large_opened o.old (log_bytes o.old from) large.entries large.has reason (so tells) current (device_of why reason is told))
        of_from why is (Newest told so) = absurd (large_fits o.old (log_bytes o.old from) large (so tells).1)

    newest_migrates : IsOfVersion 2 (log_bytes o.old from) → HasFittingHistory o.old (log_bytes o.old from) → IsStatus 9 (end_status o.end)
    newest_migrates two fits =
        migrates_status 9 (λ done. other (m.version done tells)) of_from (λ why w. other (w.oldest tells))
      where
        other : version_of (log_bytes o.old from) ≡ 1 → ⊥
        other oldest = let newest : version_of (log_bytes o.old from) ≡ 2 = two.version_is in omega (arith, oldest, newest)

        opened : (reason : OpenFault) → IsUnopened (journal_limits o.old) (log_bytes o.old from) reason → reason ≢ opening.OldVersion
            → (fault_of_opening reason ≡ fault.Device → ⊥) → IsStatus 9 (fault_status (fault_of_opening reason))
        opened opening.DeviceFault so current device = absurd (device refl)
        opened (opening.NotAJournal place) so current device = absurd (may_be o.old (log_bytes o.old from) (opening.NotAJournal place) fits so)
        opened opening.OldVersion so current device = absurd (current refl)
        opened opening.Full so current device = absurd (may_be o.old (log_bytes o.old from) opening.Full fits so)
        opened opening.NoMemory so current device = inr refl

        of_from : (why : Fault) → o.end ≡ Told why → WhyNotFrom o.old from why → IsStatus 9 (fault_status why)
        of_from why is (NotOpened reason current told so) =
            subst (λ f. IsStatus 9 (fault_status f)) (sym told) (opened reason (so tells) current (device_of why reason is told))
        of_from why is (Newest told so) = inl (ap fault_status told)

  -- ---- each command
  abbrev Loaded : ℕ → List ℕ → List Library → Type 0
  Loaded due journal libraries = (why : Fault) → (why ≡ fault.Device → ⊥) → (why ≡ fault.Input → ⊥) → IsLoadingFault o.old o.new journal libraries why
      → IsStatus due (fault_status why)

  abbrev Unmerged : List ℕ → List Library → Type 0
  Unmerged journal libraries = IsMergedLoad o.old o.new journal libraries → ⊥

  -- of a loading, what any of its misfits comes to gives what each does
  module _ (journal : List ℕ) (libraries : List Library)
      (status : (due : ℕ) → Unmerged journal libraries → Loaded due journal libraries → IsStatus due (end_status o.end)) where
    loading_none : IsNoHistory (log_bytes o.old journal) → IsStatus 6 (end_status o.end)
    loading_none none =
        status 6 (λ m. none_merged journal libraries m none) (λ why device input. none_loaded o.old o.new journal libraries tells why device input none)

    loading_old : IsOfVersion 1 (log_bytes o.old journal) → IsStatus 9 (end_status o.end)
    loading_old one =
        status 9 (λ m. old_merged journal libraries m one) (λ why device input. old_loaded o.old o.new journal libraries tells why device input one)

    loading_large : AreTooLarge o.old journal libraries → IsStatus 7 (end_status o.end)
    loading_large large =
        status 7 (λ m. large_merged journal libraries m large)
        (λ why device input. large_loaded o.old o.new journal libraries tells why device input large.journal_is)

  run_status : (words : List (List ℕ)) (journal out report : List ℕ) (files : ℕ) → Runs (libraries_of words) journal out report o
      → CountsStayed words (Run journal out report files) (around_of o)
      → (due : ℕ) → Unmerged journal (libraries_of words) → Loaded due journal (libraries_of words) → IsStatus due (end_status o.end)
  run_status words journal out report files r s due unmerged loaded =
      runs_status due journal (libraries_of words) unmerged loaded out report r (λ is. s.3 (r.out_cause is)) (λ is. s.4 (r.report_cause is))
      (λ is. s.2 (r.console_cause is)) (λ is. none_failed (around_of o) (libraries_of words) s.0 (r.input is)) (λ is. s.1 (r.device is))

  load_status : (words : List (List ℕ)) (journal : List ℕ) (files : ℕ) → Loads (libraries_of words) journal o
      → CountsStayed words (Load journal files) (around_of o)
      → (due : ℕ) → Unmerged journal (libraries_of words) → Loaded due journal (libraries_of words) → IsStatus due (end_status o.end)
  load_status words journal files l s due unmerged loaded =
      loads_status due journal (libraries_of words) unmerged loaded l (λ is. s.2 (l.console_cause is))
      (λ is. none_failed (around_of o) (libraries_of words) s.0 (l.input is)) (λ is. s.1 (l.device is))

  -- a command that reads a journal
  read_none : (journal out : List ℕ) (bytes : List Entry → List ℕ) → ReadsJournal journal out bytes o → Never out_unwritten → Never (Told fault.Device)
      → IsNoHistory (log_bytes o.old journal) → IsStatus 6 (end_status o.end)
  read_none journal out bytes r no_out no_device none =
      reads_status 6 journal (none_fits o.old (log_bytes o.old journal) none) (none_opens o.old (log_bytes o.old journal) none) out bytes r no_out no_device

  read_large : (journal out : List ℕ) (bytes : List Entry → List ℕ) → ReadsJournal journal out bytes o → Never out_unwritten → Never (Told fault.Device)
      → IsTooLarge (journal_limits o.old) (log_bytes o.old journal) → IsStatus 7 (end_status o.end)
  read_large journal out bytes r no_out no_device large =
      reads_status 7 journal (large_fits o.old (log_bytes o.old journal) large) (large_opens o.old (log_bytes o.old journal) large) out bytes r no_out no_device

  module _ (words : List (List ℕ)) where
    export_refuses : (journal out : List ℕ) (code : Option (List ℕ)) → ReadsJournal journal out (reading.due_of (reading.Export code)) o
        → CountsStayed words (Export journal out code) (around_of o) → RefusesMisfits words (Export journal out code) o.old (end_status o.end)
    export_refuses journal out code r s = record {
      no_history = read_none journal out (reading.due_of (reading.Export code)) r (λ is. s.1 (r.out_cause is)) (λ is. s.0 (r.device is));
      other_version = λ no. absurd no;
      limits = read_large journal out (reading.due_of (reading.Export code)) r (λ is. s.1 (r.out_cause is)) (λ is. s.0 (r.device is));
    }

    report_refuses : (journal out : List ℕ) → ReadsJournal journal out (reading.due_of reading.Report) o
        → CountsStayed words (Report journal out) (around_of o) → RefusesMisfits words (Report journal out) o.old (end_status o.end)
    report_refuses journal out r s = record {
      no_history = read_none journal out (reading.due_of reading.Report) r (λ is. s.1 (r.out_cause is)) (λ is. s.0 (r.device is));
      other_version = λ no. absurd no;
      limits = read_large journal out (reading.due_of reading.Report) r (λ is. s.1 (r.out_cause is)) (λ is. s.0 (r.device is));
    }

    matches_refuses : (journal out : List ℕ) → ReadsJournal journal out matches_due o
        → CountsStayed words (Matches journal out) (around_of o) → RefusesMisfits words (Matches journal out) o.old (end_status o.end)
    matches_refuses journal out r s = record {
      no_history = read_none journal out matches_due r (λ is. s.1 (r.out_cause is)) (λ is. s.0 (r.device is));
      other_version = λ no. absurd no;
      limits = read_large journal out matches_due r (λ is. s.1 (r.out_cause is)) (λ is. s.0 (r.device is));
    }

    headings_refuses : (journal : List ℕ) (range : HeadingRange) (out : List ℕ) → ReadsJournal journal out (headings_due range) o
        → CountsStayed words (Headings journal range out) (around_of o) → RefusesMisfits words (Headings journal range out) o.old (end_status o.end)
    headings_refuses journal range out r s = record {
      no_history = read_none journal out (headings_due range) r (λ is. s.1 (r.out_cause is)) (λ is. s.0 (r.device is));
      other_version = λ no. absurd no;
      limits = read_large journal out (headings_due range) r (λ is. s.1 (r.out_cause is)) (λ is. s.0 (r.device is));
    }

    run_refuses : (journal out report : List ℕ) (files : ℕ) → Runs (libraries_of words) journal out report o
        → CountsStayed words (Run journal out report files) (around_of o) → RefusesMisfits words (Run journal out report files) o.old (end_status o.end)
    run_refuses journal out report files r s = record {
      no_history = loading_none journal (libraries_of words) (run_status words journal out report files r s);
      other_version = loading_old journal (libraries_of words) (run_status words journal out report files r s);
      limits = loading_large journal (libraries_of words) (run_status words journal out report files r s);
    }

    browse_refuses : (journal out report pages : List ℕ) (files : ℕ) → Browses (libraries_of words) journal out report pages o
        → CountsStayed words (Browse journal out report pages files) (around_of o)
        → RefusesMisfits words (Browse journal out report pages files) o.old (end_status o.end)
    browse_refuses journal out report pages files b s =
        let r = b.run (λ is. s.5 (b.pages_cause is)) in
        let status = run_status words journal out report files r (s.0, s.1, s.2, s.3, s.4) in record {
          no_history = loading_none journal (libraries_of words) status;
          other_version = loading_old journal (libraries_of words) status;
          limits = loading_large journal (libraries_of words) status;
        }

    load_refuses : (journal : List ℕ) (files : ℕ) → Loads (libraries_of words) journal o
        → CountsStayed words (Load journal files) (around_of o) → RefusesMisfits words (Load journal files) o.old (end_status o.end)
    load_refuses journal files l s = record {
      no_history = loading_none journal (libraries_of words) (load_status words journal files l s);
      other_version = loading_old journal (libraries_of words) (load_status words journal files l s);
      limits = loading_large journal (libraries_of words) (load_status words journal files l s);
    }

    -- the file's holdings behind the journal's records
    module _ (journal out rest : List ℕ) (code : Option (List ℕ)) (ends : Ends words (Holdings journal out rest code) o)
        (s : CountsStayed words (Holdings journal out rest code) (around_of o)) where
      holdings_status : (due : ℕ) → IsOneFile words → (HasFittingHistory o.old (log_bytes o.old journal) → ⊥) → OpensWith o.old due (log_bytes o.old journal)
          → IsStatus due (end_status o.end)
      holdings_status due one unfit opens =
          let a = ends one.library one.named in
          attaches_status due journal unfit opens out rest one.library code a (λ is. s.3 (a.out_cause is)) (λ is. s.4 (a.rest_cause is))
          (λ is. s.2 (a.console_cause is)) (λ is. one_stayed (around_of o) (libraries_of words) s.0 one.library one.named (a.input is)) (λ is. s.1 (a.device is))

      holdings_refuses : RefusesMisfits words (Holdings journal out rest code) o.old (end_status o.end)
      holdings_refuses = record {
        no_history = λ is. holdings_status 6 is.0 (none_fits o.old (log_bytes o.old journal) is.1) (none_opens o.old (log_bytes o.old journal) is.1);
        other_version = λ no. absurd no;
        limits = λ is. holdings_status 7 is.0 (large_fits o.old (log_bytes o.old journal) is.1) (large_opens o.old (log_bytes o.old journal) is.1);
      }

    -- the same where the journal isn't held
    module _ (journal out rest : List ℕ) (code : Option (List ℕ)) (ends : Ends words (ReadHoldings journal out rest code) o)
        (s : CountsStayed words (ReadHoldings journal out rest code) (around_of o)) where
      one_status : (due : ℕ) → IsOneFile words → (bytes : List ℕ) → o.old.file journal ≡ Some bytes → (HasFittingHistory o.old bytes → ⊥) → OpensWith o.old due bytes
          → IsStatus due (end_status o.end)
      one_status due one bytes there unfit opens =
          let a = ends one.library one.named in
          unheld_status o journal out rest one.library code a (λ is. s.3 (a.out_cause is)) (λ is. s.4 (a.rest_cause is)) (λ is. s.2 (a.console_cause is))
          (λ is. neither s.1 (one_stayed (around_of o) (libraries_of words) s.0 one.library one.named) (a.input is)) due bytes tells there unfit opens

      unheld_refuses : RefusesMisfits words (ReadHoldings journal out rest code) o.old (end_status o.end)
      unheld_refuses = record {
        no_history = λ is. with_bytes (o.old.file journal) is.1 (λ bytes there no. one_status 6 is.0 bytes there (none_fits o.old bytes no) (none_opens o.old bytes no));
        other_version = λ no. absurd no;
        limits = λ is. with_bytes (o.old.file journal) is.1 (λ bytes there large. one_status 7 is.0 bytes there (large_fits o.old bytes large) (large_opens o.old bytes large));
      }

    migrate_refuses : (from into : List ℕ) → Migrates from into o → CountsStayed words (Migrate from into) (around_of o)
        → RefusesMisfits words (Migrate from into) o.old (end_status o.end)
    migrate_refuses from into m s = record {
      no_history = none_migrates from into m (λ is. neither s.0 s.1 (m.device is)) (λ is. s.2 (m.console is));
      other_version = λ newest. newest_migrates from into m (λ is. neither s.0 s.1 (m.device is)) (λ is. s.2 (m.console is)) newest.0 newest.1;
      limits = large_migrates from into m (λ is. neither s.0 s.1 (m.device is)) (λ is. s.2 (m.console is));
    }

    pub refuses : (command : Command) → Ends words command o → CountsStayed words command (around_of o)
        → RefusesMisfits words command o.old (end_status o.end)
    refuses (Run journal out report files) r s = run_refuses journal out report files r s
    refuses (Browse journal out report pages files) b s = browse_refuses journal out report pages files b s
    refuses (Load journal files) l s = load_refuses journal files l s
    refuses (Export journal out code) r s = export_refuses journal out code r s
    refuses (Report journal out) r s = report_refuses journal out r s
    refuses (VerifyPoint journal point) v s =
        owns_refuses o tells words journal point v (λ is. s.2 (v.console_cause is)) (λ is. neither s.0 s.1 (v.input is))
    refuses (Matches journal out) r s = matches_refuses journal out r s
    refuses (Holdings journal out rest code) ends s = holdings_refuses journal out rest code ends s
    refuses (Headings journal range out) r s = headings_refuses journal range out r s
    refuses (Worklist journal list page code) m s =
        lists_refuses o journal list page code m words tells (λ is. s.1 (m.list_cause is)) (λ is. s.2 (m.page_cause is)) (λ is. s.0 (m.device is))
    refuses (Migrate from into) m s = migrate_refuses from into m s
    refuses (Checkpoint journal point) c s = checkpoint_refuses o tells words journal point c s
    refuses (Quick journal point out) q s = quick_refuses o tells words journal point out q s
    refuses (Pass out) p s = record { no_history = λ no. absurd no; other_version = λ no. absurd no; limits = λ no. absurd no }
    refuses (Make seed count out) m s = record { no_history = λ no. absurd no; other_version = λ no. absurd no; limits = λ no. absurd no }
    refuses (Verify journal) v s = record { no_history = λ no. absurd no; other_version = λ no. absurd no; limits = λ no. absurd no }
    refuses (VerifyDigest journal count digest) v s = record {
      no_history = none_digested o journal count digest v tells (λ is. s.0 (v.input is));
      other_version = λ no. absurd no;
      limits = λ no. absurd no;
    }
    refuses (Salvage journal into) v s = record {
      no_history = none_salvaged o journal into v tells (λ is. s.0 (v.input is).0);
      other_version = λ no. absurd no;
      limits = λ no. absurd no;
    }
    refuses (QuickReport journal point out report) q s = quick_report_refuses o tells words journal point out report q s
    refuses (Read look journal out) l s = looks_refuses o tells words look journal out l (λ is. s.1 (l.out_cause is)) (λ is. s.0 (l.input is))
    refuses (ReadHoldings journal out rest code) ends s = unheld_refuses journal out rest code ends s
    refuses (ReadWorklist journal list page code) l s =
        lists_unheld_refuses o journal list page code l words tells (λ is. s.1 (l.list_cause is)) (λ is. s.2 (l.page_cause is)) (λ is. s.0 (l.input is))
    refuses (RefusedOf out) p s = record { no_history = λ no. absurd no; other_version = λ no. absurd no; limits = λ no. absurd no }
    refuses (TotalsOf first reports) t s = record { no_history = λ no. absurd no; other_version = λ no. absurd no; limits = λ no. absurd no }
    refuses (Join out exports) j s = record { no_history = λ no. absurd no; other_version = λ no. absurd no; limits = λ no. absurd no }
    refuses (Split count prefix files) p s = record { no_history = λ no. absurd no; other_version = λ no. absurd no; limits = λ no. absurd no }
    refuses (Help topic) t s = record { no_history = λ no. absurd no; other_version = λ no. absurd no; limits = λ no. absurd no }
    refuses Version t s = record { no_history = λ no. absurd no; other_version = λ no. absurd no; limits = λ no. absurd no }
