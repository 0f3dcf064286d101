-- A command over objects that keep their promises, and hold what is due, ends well, or memory ran out.
use Rattle.std.proofs.Common.{◌≡◌, ◌⊎◌, inl, inr, ℕ, ◌+◌, ◌≤◌, max, true, List, [], ◌∷◌, ◌++◌, length, Option, Some, None, refl, sym, ap, subst, ◌∙◌, arith}
use Rattle.std.specs.Prelude.{IsSomeAnd}
use Rattle.std.specs.List.{sum_by}
use Rattle.std.proofs.Math.Logic.{∥∥₁_elim}
use Rattle.marc_types.specs.declared.entry.Entry.{Entry}
use Rattle.marc_types.specs.Limits.{limits_of}
use Rattle.outside.specs.Fault.{Rose}
use Rattle.outside.specs.Room.{IsPromiseKept}
use Rattle.outside.specs.Sink.{WritesFront}
use Rattle.marc_stream.specs.Pieces.{items}
use Rattle.workload.specs.Workload.{workload_bytes}
use Rattle.commit_journal.specs.declared.format.TheConstants.{BLANK_LENGTH}
use Rattle.command_words.specs.declared.library.Library.{Library}
use Rattle.command_words.specs.Command.{Command, Pass, Run, Load, Browse, Export, Report, Make, Verify, VerifyPoint, VerifyDigest, Matches, Holdings, Headings, Worklist, Migrate, Salvage, Checkpoint, Quick, QuickReport, Read, ReadHoldings, ReadWorklist, Refused as RefusedOf, Totals as TotalsOf, Join, Split, Help, Version, libraries_of}
use Rattle.file_entries.specs.Files.{IsJudged}
use Rattle.file_entries.specs.declared.refused.RefusedItem.{RefusedItem}
use Rattle.console_lines.specs.Ends.{Outcome, IsAllDone, TellsNoFault, end_of, end_status, out_unwritten, side_unwritten, console_unwritten}
use Rattle.console_lines.specs.declared.end.End.TheVariants.{Told}
use Rattle.console_lines.specs.declared.end.Unwritten.TheVariants as unwritten
use Rattle.console_lines.specs.declared.fault.Fault.TheVariants as fault
use Rattle.console_lines.proofs.Ends.{out_not_console, out_not_side, side_not_console, all_not_unwritten, all_of}
use Rattle.durable_catalogue.specs.declared.fault.OpenFault.TheVariants as opening
use Rattle.durable_catalogue.specs.Images.{framed_lengths}
use Rattle.durable_catalogue.specs.Logs.{IsLogOf, HasHistory}
use Rattle.durable_catalogue.proofs.Framed.{framed_append}
use Rattle.entry_record.specs.History.{IsWithin}
use Rattle.output_files.specs.Outputs.{IsOutputLeft}
use Rattle.journal_files.specs.Journals.{journal_limits, log_bytes, KeepsHistory}
use Rattle.archive_commands.specs.Reads as reads
use Rattle.archive_commands.specs.Reads.{ReadsJournal}
use Rattle.archive_commands.specs.Telling.{matches_due}
use Rattle.heading_list.specs.Telling.{headings_due}
use Rattle.plain_commands.specs.Making.{Makes, workload_line}
use Rattle.plain_commands.specs.Passing.{FileDue, PassesFile, IsPassedInPart, IsPassedUntold, export_due, results}
use Rattle.plain_commands.specs.GivingBack.{refused_due}
use Rattle.reading_commands.specs.Looking.{LooksInto, look_due}
use Rattle.union_top.proofs.Looking.{looks_well}
use Rattle.union_top.proofs.Unheld.{unheld_well}
use Rattle.journal_verification.specs.Contents.{IsVerified}
use Rattle.journal_verification.specs.Verifying.{Verifies, IsToldInPart, verified_lines}
use Rattle.journal_verification.specs.Digests.{digest_line}
use Rattle.journal_verification.specs.Comparing.{VerifiesDigest, IsToldDigest}
use Rattle.salvage_command.specs.Salvages.{Salvages, IsSalvageOf}
use Rattle.salvage_command.specs.Told.{salvaged_lines}
use Rattle.catalogue_rules.specs.Settle.{state_of}
use Rattle.file_holdings.specs.Files.{AreHoldings}
use Rattle.holdings_command.specs.Attaching as attaching
use Rattle.holdings_command.specs.Attaching.{IsDelivered, OutFailed, RestFailed, ConsoleFailed, Whole, IsAttached}
use Rattle.migrate_command.specs.Migrations.{IsFit, IsAmid, Before, Behind}
use Rattle.migrate_command.specs.Migrates as migrates
use Rattle.migrate_command.specs.Migrates.{Migrates, BringsInto, migrated_line}
use Rattle.journal_files.specs.Faults.{IsDeviceOf}
use Rattle.console_lines.specs.Lines.{resumed_line}
use Rattle.catalogue_rules.specs.Output.{all_keys, export_of, report_of}
use Rattle.checkpoint_commands.specs.Quick.{ExportsQuickly}
use Rattle.point_verification.specs.Verifying.{VerifiesPoint}
use Rattle.loading_commands.specs.Inputs.{IsInputFault}
use Rattle.loading_commands.specs.Outcomes as outcomes
use Rattle.loading_commands.specs.Outcomes.{IsLoadingFault}
use Rattle.program_help.specs.Telling.{help_text, version_text, Tells}
use Rattle.loading_commands.specs.Loading.{Loads, Runs}
use Rattle.loading_commands.specs.Runs as runs
use Rattle.browsing_commands.specs.Pages.{pages_text}
use Rattle.browsing_commands.specs.Browses.{Browses}
use Rattle.loading_commands.specs.Runs.{IsMergedLoad, WhyNotLoad}
use Rattle.union_top.specs.Commands.{Ends}
use Rattle.union_top.specs.Fits.{FitsPass, FitsLoad, FitsReading, FitsHoldings, FitsVerify, FitsLook, FitsUnheld, FitsMigrate, FitsSalvage, FitsPoint, FitsVerifyPoint, FitsVerifyDigest, FitsTotals}
use Rattle.union_top.specs.Complete.{Around, LogStayed}
use Rattle.union_top.specs.Sure.{HoldsLog, HoldsText, PassCase, LoadCase, HoldingsCase, holdings_due, IsSurePass, IsSureMake, IsSureReading, IsSureVerify, IsSureVerifyPoint, IsSureVerifyDigest, IsSureLook, LogHas, FileHas, IsSureAttaching, IsSureHoldings, IsSureUnheld, IsSureMigrate, IsSureSalvage, IsSureQuick, IsSureLoad, IsSureRun, IsSureBrowse, IsSure, IsSureWorklist, IsSureWorklistUnheld, IsSureTotals}
use Rattle.union_top.proofs.Complete.{around_of, one_stayed, none_failed, neither}
use Rattle.union_top.proofs.Fitting.{EndsWell, well_status, Never, passes_well, makes_well, reads_well, attaches_well, loads_well, runs_well}
use Rattle.union_top.proofs.Framed.{part_no_longer}
use Rattle.union_top.proofs.Listed.{lists_well}
use Rattle.union_top.proofs.ListedUnheld.{lists_unheld_well}
use Rattle.worklist_command.specs.Unheld.{ListsUnheld}
use Rattle.worklist_command.specs.Working.{MakesWorklist, list_due}
use Rattle.worklist_page.specs.Page.{page_of}
use Rattle.union_top.proofs.Held.{in_stayed, inputs_stayed, names_stayed, out_stayed, log_stayed, same_stayed, kept_stayed, text_stayed}
use Rattle.catalogue_parts.specs.Joined.{line_of_totals}
use Rattle.parts_commands.specs.Telling.{TellsTotals}
use Rattle.union_top.proofs.Joined.{totals_well}
use Rattle.union_top.proofs.Judgements.{fits_judged}
use Rattle.union_top.proofs.Migrated.{migrates_well}
use Rattle.union_top.proofs.Salvaged.{salvages_well}
use Rattle.union_top.proofs.Pointed.{quick_well, never_side}
use Rattle.union_top.proofs.OwnPoint.{owns_well}
use Rattle.union_top.proofs.Untroubled.{verify_well, digest_well, tells_well}
use mathlib.Core.HLevel.{⊥_prop}

-- an image amid a migration is no longer than with a frame for each entry that is to come
amid_length : (may : Type 0) (history entries more : List Entry) (log image : List ℕ) → entries ++ more ≡ history → IsAmid may history entries log image
    → length image ≤ max BLANK_LENGTH (length log) + framed_lengths more
amid_length may history entries more log image is (Before has newest no_longer) = omega (arith, no_longer)
amid_length may history entries more log image is (Behind so front rest split has newest no_longer) =
    let whole = ap framed_lengths (split ∙ sym is) in
    let ends = framed_append (entries ++ front) rest in
    let begins = framed_append entries front in
    let behind = framed_append front rest in
    let all = framed_append entries more in
    omega (arith, no_longer, whole, ends, begins, behind, all)

record IsThere (P : List ℕ → Type 0) (file : Option (List ℕ)) : Type 0 where
  pub bytes : List ℕ
  pub is : file ≡ Some bytes
  pub so : P bytes

there : (P : List ℕ → Type 0) (file : Option (List ℕ)) → IsSomeAnd file P → IsThere P file
there P (Some bytes) so = record { bytes = bytes; is = refl; so = so }
there P None so = absurd so

module _ (o : Outcome) (promises : (n : List ℕ) → o.new.promise n ≡ o.old.promise n) (kept : (n : List ℕ) → IsPromiseKept o.new n (o.new.promise n)) where
  abbrev a : Around
  a = around_of o

  -- a log that is only read
  no_device : (journal : List ℕ) → HoldsLog o.old journal 0 → KeepsHistory (o.end ≡ Told fault.Device) o.old o.new journal
      → (o.end ≡ Told fault.Device → Rose (o.old.log_faults journal) (o.new.log_faults journal)) → Never o (Told fault.Device)
  no_device journal h keeps cause is = kept_stayed a promises kept (o.end ≡ Told fault.Device) journal 0 h keeps (cause is)

  module _ (due : FileDue) (libraries : List Library) (out : List ℕ) (ends : (library : Library) → libraries ≡ library ∷ [] → PassesFile due library out o)
      (f : FitsPass o.old libraries) (h : IsSurePass due libraries out a) where
    p : PassesFile due f.library out o
    p = ends f.library f.named

    abbrev pass_case : (accepted : List Entry) (refused : List RefusedItem) → IsJudged f.library.code 0 (items f.alone.bytes) accepted refused
        → PassCase o.old libraries
    pass_case accepted refused judged = record {
      library = f.library;
      named = f.named;
      accepted = accepted;
      refused = refused;
      judged = subst (λ file. IsSomeAnd file (λ bytes. IsJudged f.library.code 0 (items bytes) accepted refused)) (sym f.alone.there) judged;
    }

    sure_pass : EndsWell o.end
    sure_pass =
        passes_well o due libraries out ends f
        (λ is.
        let part : IsPassedInPart (limits_of o.old.is_large) due f.library f.alone.bytes o.old o.new out =
        subst (λ file. IsSomeAnd file (λ bytes. IsPassedInPart (limits_of o.old.is_large) due f.library bytes o.old o.new out)) f.alone.there (p.part is f.tells) in
        out_stayed a promises kept out (due f.alone.bytes part.accepted part.refused)
        (h.output (pass_case part.accepted part.refused part.judged) f.alone.bytes f.alone.there) part.left (p.out_cause is))
        (λ is.
        let part : IsPassedUntold (limits_of o.old.is_large) due f.library f.alone.bytes (o.new.file out) o.told o.now =
        subst (λ file. IsSomeAnd file (λ bytes. IsPassedUntold (limits_of o.old.is_large) due f.library bytes (o.new.file out) o.told o.now)) f.alone.there (p.untold is f.tells) in
        text_stayed a (results f.library.file part.accepted part.refused) (h.console (pass_case part.accepted part.refused part.judged)) part.console
        (p.console_cause is))
        (λ is. one_stayed a libraries (inputs_stayed a promises kept libraries h.inputs) f.library f.named (p.input is))

  sure_make : (seed count : ℕ) (out : List ℕ) → Makes seed count out o → IsSureMake seed count out a → EndsWell o.end
  sure_make seed count out m h =
      makes_well o seed count out m
      (λ is. out_stayed a promises kept out (workload_bytes seed count) h.output (m.left is h.tells) (m.out_cause is))
      (λ is. text_stayed a (workload_line seed count) h.console (m.front is) (m.console_cause is))

  -- an output that is due of a history
  no_out : (due : List Entry → List ℕ) (journal out : List ℕ) → FitsReading o.old journal → IsSureReading due journal out a
      → ((entries : List Entry) → o.end ≡ out_unwritten → o.old.tells ≡ true → HasHistory entries (log_bytes o.old journal)
      → IsOutputLeft o.old o.new out (due entries))
      → (o.end ≡ out_unwritten → Rose (o.old.out_faults out) (o.new.out_faults out)) → Never o out_unwritten
  no_out due journal out f h left cause is =
      ∥∥₁_elim f.history ⊥_prop (λ (one : (entries : List Entry) × IsLogOf entries (log_bytes o.old journal) × IsWithin (journal_limits o.old) entries).
      out_stayed a promises kept out (due one.0) (h.output one.0 ∣ one.1 ∣₁) (left one.0 is f.tells ∣ one.1 ∣₁) (cause is))

  sure_read : (journal out : List ℕ) (due : List Entry → List ℕ) → ReadsJournal journal out due o → FitsReading o.old journal
      → IsSureReading due journal out a → EndsWell o.end
  sure_read journal out due r f h =
      reads_well o journal out due r f (no_out due journal out f h r.part r.out_cause) (no_device journal h.log (r.keeps f.tells) r.device)

  sure_worklist : (journal list page : List ℕ) (code : Option (List ℕ)) → MakesWorklist journal list page code o → FitsReading o.old journal
      → IsSureWorklist journal list page code a → EndsWell o.end
  sure_worklist journal list page code m f h =
      lists_well o journal list page code m f
      (λ is.
      ∥∥₁_elim f.history ⊥_prop (λ (one : (entries : List Entry) × IsLogOf entries (log_bytes o.old journal) × IsWithin (journal_limits o.old) entries).
      out_stayed a promises kept list (list_due code one.0) (h.output one.0 ∣ one.1 ∣₁) (m.list_part one.0 is f.tells ∣ one.1 ∣₁) (m.list_cause is)))
      (λ is.
      ∥∥₁_elim f.history ⊥_prop (λ (one : (entries : List Entry) × IsLogOf entries (log_bytes o.old journal) × IsWithin (journal_limits o.old) entries).
      out_stayed a promises kept page (page_of one.0) (h.page_output one.0 ∣ one.1 ∣₁) (m.page_part one.0 is f.tells ∣ one.1 ∣₁).1 (m.page_cause is)))
      (no_device journal h.log (m.keeps f.tells) m.device)

  sure_verify : (journal : List ℕ) → Verifies journal o → FitsVerify o.old journal → IsSureVerify journal a → EndsWell o.end
  sure_verify journal v f h =
      verify_well o journal v f
      (λ is.
      let part : IsToldInPart f.bytes o.told o.now =
      subst (λ file. IsSomeAnd file (λ log. IsToldInPart log o.told o.now)) f.there (v.part is f.tells) in
      let verified = subst (λ file. IsSomeAnd file (λ log. IsVerified log part.verified)) (sym f.there) part.is in
      text_stayed a (verified_lines part.verified) (h.console part.verified verified) part.console (v.console_cause is))
      (λ is. in_stayed a promises kept journal h.input (v.input is))

  sure_digest : (journal : List ℕ) (count : ℕ) (digits : List ℕ) → VerifiesDigest journal count digits o → FitsVerifyDigest o.old journal count digits
      → IsSureVerifyDigest journal count digits a → EndsWell o.end
  sure_digest journal count digits v f h =
      digest_well o journal count digits v f
      (λ is.
      let t : IsToldDigest count digits f.verify.bytes o =
      subst (λ file. IsSomeAnd file (λ log. IsToldDigest count digits log o)) f.verify.there (v.own (subst TellsNoFault (sym is) tt) f.verify.tells) in
      text_stayed a (digest_line t.own.digest count) (h.console f.verify.bytes t.own f.verify.there) (t.front is) (v.console_cause is))
      (λ is. in_stayed a promises kept journal h.input (v.input is))

  sure_own : (journal point : List ℕ) → VerifiesPoint journal point o → FitsVerifyPoint o.old journal point → IsSureVerifyPoint journal point a → EndsWell o.end
  sure_own journal point v f h =
      owns_well o journal point v
      (λ is.
      let t = v.own (subst TellsNoFault (sym is) tt) f.look.tells in
      text_stayed a (resumed_line t.held t.count) (h.console t.history_bytes t.point_bytes t.held t.count t.history_file t.point_file t.own) (t.front is)
      (v.console_cause is))
      (λ is. neither (in_stayed a promises kept journal h.input) (in_stayed a promises kept point h.point_input) (v.input is)) f

  sure_look : (due : List Entry → List ℕ) (journal out : List ℕ) → LooksInto journal out due o → FitsLook o.old journal → IsSureLook due journal out a → EndsWell o.end
  sure_look due journal out l f h =
      looks_well o journal out due l f
      (λ is.
      ∥∥₁_elim f.history ⊥_prop (λ (one : (entries : List Entry) × IsLogOf entries f.bytes × IsWithin (journal_limits o.old) entries).
      out_stayed a promises kept out (due one.0) (h.output f.bytes one.0 f.there ∣ one.1 ∣₁) (l.part f.bytes one.0 is f.tells f.there ∣ one.1 ∣₁) (l.out_cause is)))
      (λ is. in_stayed a promises kept journal h.input (l.input is))

  sure_worklist_unheld : (journal list page : List ℕ) (code : Option (List ℕ)) → ListsUnheld journal list page code o → FitsLook o.old journal
      → IsSureWorklistUnheld journal list page code a → EndsWell o.end
  sure_worklist_unheld journal list page code l f h =
      lists_unheld_well o journal list page code l f
      (λ is.
      ∥∥₁_elim f.history ⊥_prop (λ (one : (entries : List Entry) × IsLogOf entries f.bytes × IsWithin (journal_limits o.old) entries).
      out_stayed a promises kept list (list_due code one.0) (h.output f.bytes one.0 f.there ∣ one.1 ∣₁) (l.list_part f.bytes one.0 is f.tells f.there ∣ one.1 ∣₁) (l.list_cause is)))
      (λ is.
      ∥∥₁_elim f.history ⊥_prop (λ (one : (entries : List Entry) × IsLogOf entries f.bytes × IsWithin (journal_limits o.old) entries).
      out_stayed a promises kept page (page_of one.0) (h.page_output f.bytes one.0 f.there ∣ one.1 ∣₁) (l.page_part f.bytes one.0 is f.tells f.there ∣ one.1 ∣₁).1 (l.page_cause is)))
      (λ is. in_stayed a promises kept journal h.input (l.input is))

  -- what is delivered at an end where something could not be written
  module _ (due : attaching.Due) (out rest : List ℕ) where
    all_done : o.end ≡ end_of due.refused → IsAllDone o.end
    all_done end = subst IsAllDone (sym end) (all_of due.refused)

    at_out : o.end ≡ out_unwritten → IsDelivered due out rest o → IsOutputLeft o.old o.new out due.out
    at_out is (OutFailed end left rest_stays silent) = left
    at_out is (RestFailed end whole left silent) = absurd (out_not_side o.end is end)
    at_out is (ConsoleFailed end whole rest_whole front) = absurd (out_not_console o.end is end)
    at_out is (Whole end whole rest_whole told) = absurd (all_not_unwritten o.end unwritten.Out (all_done end) is)

    at_rest : o.end ≡ side_unwritten → IsDelivered due out rest o → IsOutputLeft o.old o.new rest due.rest
    at_rest is (OutFailed end left rest_stays silent) = absurd (out_not_side o.end end is)
    at_rest is (RestFailed end whole left silent) = left
    at_rest is (ConsoleFailed end whole rest_whole front) = absurd (side_not_console o.end is end)
    at_rest is (Whole end whole rest_whole told) = absurd (all_not_unwritten o.end unwritten.Side (all_done end) is)

    at_console : o.end ≡ console_unwritten → IsDelivered due out rest o → WritesFront o.told o.now due.text
    at_console is (OutFailed end left rest_stays silent) = absurd (out_not_console o.end end is)
    at_console is (RestFailed end whole left silent) = absurd (side_not_console o.end end is)
    at_console is (ConsoleFailed end whole rest_whole front) = front
    at_console is (Whole end whole rest_whole told) = absurd (all_not_unwritten o.end unwritten.Console (all_done end) is)

  -- without a fault to tell the journal has such entries, and the holdings of the one file are attached to them
  abbrev Finds : (List Entry → Type 0) → Library → List ℕ → List ℕ → Option (List ℕ) → Type 0
  Finds has library out rest code =
      TellsNoFault o.end
      → ((entries : List Entry) → has entries → IsSomeAnd (o.old.file library.file) (λ bytes. IsAttached library code bytes (state_of entries) out rest o) → ⊥) → ⊥

  -- what is due of a journal that has such entries, and of the one file of holdings
  module _ (has : List Entry → Type 0) (libraries : List Library) (out rest : List ℕ) (code : Option (List ℕ)) (library : Library) (named : libraries ≡ library ∷ [])
      (h : IsSureAttaching has libraries out rest code a) (found : Finds has library out rest code) where
    abbrev Cases : Type 0
    Cases = HoldingsCase o.old has libraries

    -- without a fault to tell there is a case whose due was delivered
    delivered : TellsNoFault o.end → ((c : Cases) → IsDelivered (holdings_due code c) out rest o → ⊥) → ⊥
    delivered untold so = found untold (λ entries was is.
        let at = there (λ bytes. IsAttached library code bytes (state_of entries) out rest o) (o.old.file library.file) is in
        let attached = at.so in
        so (record {
          library = library;
          named = named;
          entries = entries;
          was = was;
          accepted = attached.accepted;
          refused = attached.refused;
          judged = subst (λ file. IsSomeAnd file (λ bytes. AreHoldings library.code (items bytes) attached.accepted attached.refused)) (sym at.is) attached.judged;
        }) attached.delivered)

    -- so nothing is unwritten
    never_out : (o.end ≡ out_unwritten → Rose (o.old.out_faults out) (o.new.out_faults out)) → Never o out_unwritten
    never_out cause is = delivered (subst TellsNoFault (sym is) tt) (λ c d.
        out_stayed a promises kept out (holdings_due code c).out (h.output c) (at_out (holdings_due code c) out rest is d) (cause is))

    never_rest : (o.end ≡ side_unwritten → Rose (o.old.out_faults rest) (o.new.out_faults rest)) → Never o side_unwritten
    never_rest cause is = delivered (subst TellsNoFault (sym is) tt) (λ c d.
        out_stayed a promises kept rest (holdings_due code c).rest (h.rest_output c) (at_rest (holdings_due code c) out rest is d) (cause is))

    never_console : (o.end ≡ console_unwritten → Rose o.faults o.faults_now) → Never o console_unwritten
    never_console cause is = delivered (subst TellsNoFault (sym is) tt) (λ c d.
        text_stayed a (holdings_due code c).text (h.console c) (at_console (holdings_due code c) out rest is d) (cause is))

    never_read : Rose (o.old.in_faults library.file) (o.new.in_faults library.file) → ⊥
    never_read = one_stayed a libraries (inputs_stayed a promises kept libraries h.inputs) library named

  sure_holdings : (words : List (List ℕ)) (journal out rest : List ℕ) (code : Option (List ℕ)) → Ends words (Holdings journal out rest code) o
      → FitsHoldings o.old journal (libraries_of words) → IsSureHoldings (libraries_of words) journal out rest code a → EndsWell o.end
  sure_holdings words journal out rest code ends f h =
      let c = ends f.library f.named in
      let found : Finds (LogHas o.old journal) f.library out rest code = λ untold so.
      ∥∥₁_elim f.reading.history ⊥_prop (λ (one : (entries : List Entry) × IsLogOf entries (log_bytes o.old journal) × IsWithin (journal_limits o.old) entries).
      so one.0 ∣ one.1 ∣₁ (c.delivers one.0 untold f.reading.tells ∣ one.1 ∣₁)) in
      attaches_well o words journal out rest code ends f
      (never_out (LogHas o.old journal) (libraries_of words) out rest code f.library f.named h.attaching found c.out_cause)
      (never_rest (LogHas o.old journal) (libraries_of words) out rest code f.library f.named h.attaching found c.rest_cause)
      (never_console (LogHas o.old journal) (libraries_of words) out rest code f.library f.named h.attaching found c.console_cause)
      (λ is. never_read (LogHas o.old journal) (libraries_of words) out rest code f.library f.named h.attaching found (c.input is))
      (no_device journal h.log (c.keeps f.reading.tells) c.device)

  sure_unheld : (words : List (List ℕ)) (journal out rest : List ℕ) (code : Option (List ℕ)) → Ends words (ReadHoldings journal out rest code) o
      → FitsUnheld o.old journal (libraries_of words) → IsSureUnheld (libraries_of words) journal out rest code a → EndsWell o.end
  sure_unheld words journal out rest code ends f h =
      let c = ends f.library f.named in
      let found : Finds (FileHas o.old journal) f.library out rest code = λ untold so.
      ∥∥₁_elim f.look.history ⊥_prop (λ (one : (entries : List Entry) × IsLogOf entries f.look.bytes × IsWithin (journal_limits o.old) entries).
      so one.0 (subst (λ file. IsSomeAnd file (HasHistory one.0)) (sym f.look.there) ∣ one.1 ∣₁)
      (c.delivers f.look.bytes one.0 untold f.look.tells f.look.there ∣ one.1 ∣₁)) in
      unheld_well o journal out rest f.library code c
      (never_out (FileHas o.old journal) (libraries_of words) out rest code f.library f.named h.attaching found c.out_cause)
      (never_rest (FileHas o.old journal) (libraries_of words) out rest code f.library f.named h.attaching found c.rest_cause)
      (never_console (FileHas o.old journal) (libraries_of words) out rest code f.library f.named h.attaching found c.console_cause)
      (λ is. neither (in_stayed a promises kept journal h.input)
      (never_read (FileHas o.old journal) (libraries_of words) out rest code f.library f.named h.attaching found) (c.input is)) f.look

  -- a log into which a history is brought, for which it is fit
  module _ (into : List ℕ) (history entries : List Entry) (fit : IsFit (journal_limits o.old) history entries (log_bytes o.old into))
      (holds : HoldsLog o.old into (framed_lengths fit.begins.0)) where
    into_stayed : BringsInto history o.old o.new into → LogStayed a into
    into_stayed (migrates.Unopened u) rose = same_stayed a promises kept into (framed_lengths fit.begins.0) holds u.file rose
    into_stayed (migrates.Opened is_log images content unsynced) rose =
        ∥∥₁_elim (content entries ∣ fit.has ∣₁) ⊥_prop (λ amid.
        log_stayed a promises kept into (framed_lengths fit.begins.0) holds
        (amid_length _ history entries fit.begins.0 (log_bytes o.old into) (log_bytes o.new into) fit.begins.1 amid) rose)

  module _ (from into : List ℕ) (m : Migrates from into o) (f : FitsMigrate o.old from into) (h : IsSureMigrate from into a) where
    into_holds : (fit : IsFit (journal_limits o.old) f.history f.entries (log_bytes o.old into)) → HoldsLog o.old into (framed_lengths fit.begins.0)
    into_holds fit = h.new_log f.entries fit.begins.0 ∣ fit.has ∣₁ (subst (λ es. HasHistory es (log_bytes o.old from)) (sym fit.begins.1) f.was)

    sure_migrate : EndsWell o.end
    sure_migrate =
        migrates_well o from into m f
        (λ is. neither (λ rose. kept_stayed a promises kept (IsDeviceOf o from) from 0 h.log (m.keeps f.tells) rose)
        (λ rose. ∥∥₁_elim (m.brings f.history f.tells f.was) ⊥_prop (λ brings. ∥∥₁_elim f.fits ⊥_prop (λ fit. into_stayed into f.history f.entries fit (into_holds fit) brings rose)))
        (m.device is))
        (λ is. text_stayed a (migrated_line (length f.history)) (h.console f.history f.was) (m.front f.history is f.tells f.was) (m.console is))

  sure_salvage : (journal into : List ℕ) → Salvages journal into o → FitsSalvage o.old journal into → IsSureSalvage journal into a → EndsWell o.end
  sure_salvage journal into s f h =
      let told : IsSalvageOf o.old journal f.bytes f.all = (f.tells, f.there, f.sound) in
      let fit = f.fit.fit in
      let holds = h.new_log f.bytes f.all f.fit.before fit.begins.0 f.there f.sound ∣ fit.has ∣₁ fit.begins.1 in
      salvages_well o journal into s f
      (λ is. in_stayed a promises kept journal h.input (s.input is).0)
      (λ is.
      ∥∥₁_elim (s.brings f.bytes f.all told) ⊥_prop (λ brings. into_stayed into f.all.entries f.fit.before fit holds brings (s.device is)))
      (λ is. text_stayed a (salvaged_lines f.bytes f.all) (h.console f.bytes f.all f.there f.sound) (s.front f.bytes f.all is told) (s.console is))

  module _ (libraries : List Library) (journal : List ℕ) (f : FitsLoad o.old journal libraries) (h : IsSureLoad libraries journal a) where
    abbrev load_case : IsMergedLoad o.old o.new journal libraries → LoadCase o.old journal libraries
    load_case m = record {
      before = m.before;
      added = m.added;
      accepted = m.accepted;
      refused = m.refused;
      was = m.history.was;
      judged = m.history.judged;
      merged = m.history.merged;
    }

    no_input_fault : IsInputFault libraries o.old o.new → ⊥
    no_input_fault = none_failed a libraries (inputs_stayed a promises kept libraries h.inputs)

    loading_stayed : IsLoadingFault o.old o.new journal libraries fault.Device → LogStayed a journal
    loading_stayed (outcomes.NotBegun (outcomes.Unopened of is so current keeps)) =
        let fits = fits_judged o.old journal libraries f.together in
        kept_stayed a promises kept (of ≡ opening.DeviceFault) journal (sum_by framed_lengths fits.accepted) (h.log fits.accepted fits.refused fits.judged) keeps
    loading_stayed (outcomes.NotBegun (outcomes.Unbegun before opened (inl input) was closed unread)) = cc
    loading_stayed (outcomes.NotBegun (outcomes.Unbegun before opened (inr memory) was closed unread)) = cc
    loading_stayed (outcomes.InPart p) =
        let fits = fits_judged o.old journal libraries f.together in
        log_stayed a promises kept journal (sum_by framed_lengths fits.accepted) (h.log fits.accepted fits.refused fits.judged)
        (part_no_longer o.old o.new journal libraries f.tells fits.accepted fits.refused fits.judged fault.Device p)

    load_stayed : WhyNotLoad o.old o.new journal libraries fault.Device → LogStayed a journal
    load_stayed (runs.NotLoaded is) = loading_stayed is
    load_stayed (runs.NoMemory memory loaded) = cc

    sure_load : Loads libraries journal o → EndsWell o.end
    sure_load l =
        loads_well o libraries journal l f
        (λ is.
        let untold = l.untold is f.tells in
        text_stayed a (runs.told_of untold.merged) (h.console (load_case untold.merged)) untold.console (l.console_cause is))
        (λ is. no_input_fault (l.input is)) (λ is. load_stayed (l.because fault.Device is f.tells) (l.device is))

  sure_run : (libraries : List Library) (journal out report : List ℕ) → Runs libraries journal out report o → FitsLoad o.old journal libraries
      → IsSureRun libraries journal out report a → EndsWell o.end
  sure_run libraries journal out report r f h =
      let case = load_case libraries journal f h.load in
      runs_well o libraries journal out report r f
      (λ is.
      let in_out = r.in_out is f.tells in
      out_stayed a promises kept out _ (h.output (case in_out.merged)) in_out.left (r.out_cause is))
      (λ is.
      let in_report = r.in_report is f.tells in
      out_stayed a promises kept report _ (h.report_output (case in_report.merged)) in_report.outputs.report_is (r.report_cause is))
      (λ is.
      let untold = r.untold is f.tells in
      text_stayed a (runs.told_of untold.merged) (h.load.console (case untold.merged)) untold.console (r.console_cause is))
      (λ is. no_input_fault libraries journal f h.load (r.input is))
      (λ is. load_stayed libraries journal f h.load (r.because fault.Device is f.tells) (r.device is))

  sure_browse : (libraries : List Library) (journal out report pages : List ℕ) → Browses libraries journal out report pages o → FitsLoad o.old journal libraries
      → IsSureBrowse libraries journal out report pages a → EndsWell o.end
  sure_browse libraries journal out report pages b f h =
      sure_run libraries journal out report
      (b.run (λ is.
      let p = b.in_pages is f.tells in
      out_stayed a promises kept pages (pages_text p.due) (h.pages_output (load_case libraries journal f h.run.load p.merged) p.due p.are) p.left (b.pages_cause is)))
      f h.run

  sure_quick : (journal point out : List ℕ) (report : Option (List ℕ)) → ExportsQuickly journal point out report o → FitsPoint o.old journal point
      → IsSureQuick journal point out a → Never o side_unwritten → EndsWell o.end
  sure_quick journal point out report q f h no_side =
      quick_well o journal point out report q f (kept_stayed a promises kept (IsDeviceOf o journal) journal 0 h.log (q.keeps f.reading.tells))
      (kept_stayed a promises kept (IsDeviceOf o point) point 0 h.point_log (q.point_keeps f.reading.tells))
      (λ is.
      let e = q.exported (subst TellsNoFault (sym is) tt) f.reading.tells in
      out_stayed a promises kept out (export_of all_keys e.resumed.state) (h.output e.resumed) (e.part is) (q.out_cause is))
      no_side
      (λ is.
      let e = q.exported (subst TellsNoFault (sym is) tt) f.reading.tells in
      text_stayed a (resumed_line e.resumed.taken (length e.resumed.history)) (h.console e.resumed) (e.front is) (q.console is))

  sure_text : (text : List ℕ) → Tells text o → HoldsText a text → EndsWell o.end
  sure_text text t h = tells_well o text t (λ is. text_stayed a text h (t.part is) (t.cause is))

  sure_totals : (first : List ℕ) (reports : List (List ℕ)) → TellsTotals first reports o → FitsTotals o.old first reports → IsSureTotals first reports a → EndsWell o.end
  sure_totals first reports t f h =
      totals_well o first reports t f
      (λ is. let part = t.part is f.tells in text_stayed a (line_of_totals part.whole) (h.console part.whole part.joined) part.console (t.console_cause is))
      (λ is. names_stayed a promises kept (first ∷ reports) h.inputs (t.input is))

  ends_sure : (words : List (List ℕ)) (command : Command) → Ends words command o → IsSure words command a → EndsWell o.end
  ends_sure words (Pass out) ends u = sure_pass export_due (libraries_of words) out ends u.fits u.holds
  ends_sure words (Run journal out report files) r u = sure_run (libraries_of words) journal out report r u.fits u.holds
  ends_sure words (Browse journal out report pages files) b u = sure_browse (libraries_of words) journal out report pages b u.fits u.holds
  ends_sure words (Load journal files) l u = sure_load (libraries_of words) journal u.fits u.holds l
  ends_sure words (Export journal out code) r u = sure_read journal out (reads.due_of (reads.Export code)) r u.fits u.holds
  ends_sure words (Report journal out) r u = sure_read journal out (reads.due_of reads.Report) r u.fits u.holds
  ends_sure words (Make seed count out) m u = sure_make seed count out m u.holds
  ends_sure words (Verify journal) v u = sure_verify journal v u.fits u.holds
  ends_sure words (VerifyPoint journal point) v u = sure_own journal point v u.fits u.holds
  ends_sure words (VerifyDigest journal count digest) v u = sure_digest journal count digest v u.fits u.holds
  ends_sure words (Matches journal out) r u = sure_read journal out matches_due r u.fits u.holds
  ends_sure words (Holdings journal out rest code) ends u = sure_holdings words journal out rest code ends u.fits u.holds
  ends_sure words (Headings journal range out) r u = sure_read journal out (headings_due range) r u.fits u.holds
  ends_sure words (Worklist journal list page code) m u = sure_worklist journal list page code m u.fits u.holds
  ends_sure words (Migrate from into) m u = sure_migrate from into m u.fits u.holds
  ends_sure words (Salvage journal into) s u = sure_salvage journal into s u.fits u.holds
  ends_sure words (Checkpoint journal point) c u = absurd u.holds
  ends_sure words (Quick journal point out) q u = sure_quick journal point out None q u.fits u.holds (never_side o.end q.ends)
  ends_sure words (QuickReport journal point out report) q u =
      sure_quick journal point out (Some report) q u.fits u.holds.quick
      (λ is.
      let e = q.exported (subst TellsNoFault (sym is) tt) u.fits.reading.tells in
      out_stayed a promises kept report (report_of e.resumed.state) (u.holds.report_output e.resumed) (e.report_part is) (q.report_cause is))
  ends_sure words (Read look journal out) l u = sure_look (look_due look) journal out l u.fits u.holds
  ends_sure words (ReadHoldings journal out rest code) ends u = sure_unheld words journal out rest code ends u.fits u.holds
  ends_sure words (ReadWorklist journal list page code) l u = sure_worklist_unheld journal list page code l u.fits u.holds
  ends_sure words (RefusedOf out) ends u = sure_pass refused_due (libraries_of words) out ends u.fits u.holds
  ends_sure words (TotalsOf first reports) t u = sure_totals first reports t u.fits u.holds
  ends_sure words (Join out exports) j u = absurd u.holds
  ends_sure words (Split count prefix files) s u = absurd u.holds
  ends_sure words (Help topic) t u = sure_text (help_text topic) t u.holds
  ends_sure words Version t u = sure_text version_text t u.holds

  pub sure : (words : List (List ℕ)) (command : Command) → Ends words command o → IsSure words command a → (end_status o.end ≤ 1) ⊎ (end_status o.end ≡ 8)
  sure words command ends u = well_status o.end (ends_sure words command ends u)
