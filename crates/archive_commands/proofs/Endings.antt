-- How a command ends that reads a journal, from what its steps say.
use Rattle.std.proofs.Common.{◌≡◌, ◌≢◌, ◌∙◌, ℕ, true, List, [], ◌∷◌, Some, Result, Ok, Err, OnOk, refl, sym, ap, subst}
use Rattle.marc_types.specs.declared.entry.Entry.{Entry}
use Rattle.outside.specs.Disk.{DiskView}
use Rattle.outside.specs.Fault.{Rose, HasWriteCause}
use Rattle.outside.specs.declared.fault.WriteFault.{WriteFault}
use Rattle.outside.specs.declared.fault.WriteFault.TheVariants.{OutputFault, NoMemory}
use Rattle.outside.specs.Room.{RoomView, SameBut}
use Rattle.outside.proofs.Counts.{rose_since}
use Rattle.outside.proofs.Rooms.{same_but_then}
use Rattle.durable_catalogue.specs.Logs.{HasHistory}
use Rattle.entry_record.specs.History.{IsWithin}
use Rattle.durable_catalogue.specs.Openings.{IsUnopened}
use Rattle.durable_catalogue.specs.declared.fault.OpenFault.{OpenFault}
use Rattle.durable_catalogue.specs.declared.fault.OpenFault.TheVariants as opening
use Rattle.console_lines.specs.Ends.{Outcome, IsTold, IsSilent, out_unwritten}
use Rattle.console_lines.specs.declared.end.End.TheVariants.{Done, Told}
use Rattle.console_lines.specs.declared.end.Unwritten.TheVariants.{Out}
use Rattle.console_lines.specs.declared.fault.Fault.{Fault}
use Rattle.console_lines.specs.declared.fault.Fault.TheVariants.{Device, Memory}
use Rattle.console_lines.proofs.Ends.{told_once, told_not_unwritten, told_not_done, done_not_unwritten, never_told}
use Rattle.journal_files.specs.Journals.{journal_limits, log_bytes, IsClosedDisk, KeepsHistory, KeepsLog, IsDurable}
use Rattle.output_files.specs.Outputs.{IsOutput, IsOutputLeft}
use Rattle.journal_files.proofs.Faults.{opening_device}
use Rattle.output_files.proofs.Logs.{left_opened}
use Rattle.journal_files.proofs.Histories.{due_of_any, fitting_history}
use Rattle.journal_files.proofs.Journals.{closed_keeps, closed_durable, keeps_where}
use Rattle.journal_files.specs.Faults.{fault_of_opening, WhyUnopened}
use Rattle.archive_commands.specs.Reads.{EndsReading, ReadsJournal}

-- an opening's fault that is one of reading
ends_unopened : (reason : OpenFault) → reason ≢ opening.OldVersion → EndsReading (Told (fault_of_opening reason))
ends_unopened opening.DeviceFault current = tt
ends_unopened (opening.NotAJournal place) current = tt
ends_unopened opening.OldVersion current = absurd (current refl)
ends_unopened opening.Full current = tt
ends_unopened opening.NoMemory current = tt

module _ (journal out : List ℕ) (due : List Entry → List ℕ) (o : Outcome) where
  -- a fault was told, of a journal that was not opened or where memory ran out behind that
  pub reads_fault : (reason : OpenFault) → o.end ≡ Told (fault_of_opening reason) → IsTold (fault_of_opening reason) o
      → SameBut o.old o.new (journal ∷ []) → reason ≢ opening.OldVersion
      → (o.old.tells ≡ true → IsUnopened (journal_limits o.old) (log_bytes o.old journal) reason)
      → (o.old.tells ≡ true → KeepsHistory (reason ≡ opening.DeviceFault) o.old o.new journal)
      → (o.old.tells ≡ true → reason ≢ opening.DeviceFault → reason ≢ opening.NoMemory → log_bytes o.new journal ≡ log_bytes o.old journal)
      → (reason ≡ opening.DeviceFault → Rose (o.old.log_faults journal) (o.new.log_faults journal)) → ReadsJournal journal out due o
  reads_fault reason is told apart current so keeps kept cause = record {
    ends = subst EndsReading (sym is) (ends_unopened reason current);
    keeps = λ tells.
        keeps_where (reason ≡ opening.DeviceFault) (o.end ≡ Told Device) o.old o.new journal (λ device. is ∙ ap (λ r. Told (fault_of_opening r)) device) (keeps tells);
    told = λ why also. subst (λ w. IsTold w o × WhyUnopened o.old journal w) (told_once o.end (fault_of_opening reason) why is also)
        (told, record { reason = reason; is = refl; so = so });
    untouched = λ why also. apart;
    kept = λ why also other more tells.
        let same = told_once o.end (fault_of_opening reason) why is also in
        kept tells (λ device. other (sym same ∙ ap fault_of_opening device)) (λ memory. more (sym same ∙ ap fault_of_opening memory));
    silent = λ untold. absurd (never_told o.end (fault_of_opening reason) untold is);
    device = λ also. cause (opening_device reason (told_once o.end (fault_of_opening reason) Device is also));
    out_cause = λ also. absurd (told_not_unwritten o.end (fault_of_opening reason) Out is also);
    history = λ untold. absurd (never_told o.end (fault_of_opening reason) untold is);
    durable = λ untold. absurd (never_told o.end (fault_of_opening reason) untold is);
    whole = λ entries also. absurd (told_not_done o.end (fault_of_opening reason) is also);
    part = λ entries also. absurd (told_not_unwritten o.end (fault_of_opening reason) Out is also);
  }

  -- the same of a fault in the words in which it was told
  pub reads_unopened : (reason : OpenFault) (fault : Fault) → fault ≡ fault_of_opening reason → o.end ≡ Told fault → IsTold fault o
      → SameBut o.old o.new (journal ∷ []) → reason ≢ opening.OldVersion
      → (o.old.tells ≡ true → IsUnopened (journal_limits o.old) (log_bytes o.old journal) reason)
      → (o.old.tells ≡ true → KeepsHistory (reason ≡ opening.DeviceFault) o.old o.new journal)
      → (o.old.tells ≡ true → reason ≢ opening.DeviceFault → log_bytes o.new journal ≡ log_bytes o.old journal)
      → (reason ≡ opening.DeviceFault → Rose (o.old.log_faults journal) (o.new.log_faults journal)) → ReadsJournal journal out due o
  reads_unopened reason fault words is told apart current so keeps kept =
      reads_fault reason (is ∙ ap Told words) (subst (λ f. IsTold f o) words told) apart current so keeps (λ tells other more. kept tells other)

  -- what is due of the history of a journal that was opened, written so far as it could be
  pub record WasRead (history : List Entry) : Type 1 where
    pub keeps : (failed : Type 0) → o.old.tells ≡ true → KeepsHistory failed o.old o.new journal
    pub durable : o.old.tells ≡ true → IsDurable o.new journal
    pub has : o.old.tells ≡ true → HasHistory history (log_bytes o.old journal)
    pub within : IsWithin (journal_limits o.old) history
    pub left : o.old.tells ≡ true → IsOutputLeft o.old o.new out (due history)

  pub was_read : (mid : RoomView) (disk : DiskView) (history : List Entry) → journal ≢ out → SameBut o.old mid (journal ∷ [])
      → (mid.tells ≡ true → IsClosedDisk disk o.new journal)
      → (o.old.tells ≡ true → HasHistory history (log_bytes o.old journal)) → IsWithin (journal_limits o.old) history
      → (o.old.tells ≡ true → KeepsLog (log_bytes o.old journal) disk)
      → (mid.tells ≡ true → IsOutputLeft mid o.new out (due history)) → WasRead history
  was_read mid disk history differ opened log has within kept left = record {
    keeps = λ failed tells. let then = opened.tells ∙ tells in closed_keeps o.old o.new journal disk (log then) failed (kept tells);
    durable = λ tells. let then = opened.tells ∙ tells in closed_durable o.old o.new journal disk (log then) (log_bytes o.old journal) (kept tells);
    has = has;
    within = within;
    left = λ tells. left_opened o.old mid o.new journal out (due history) differ opened (left (opened.tells ∙ tells));
  }

  module _ (history : List Entry) (r : WasRead history) where
    left_is : (entries : List Entry) → o.old.tells ≡ true → HasHistory entries (log_bytes o.old journal)
        → IsOutputLeft o.old o.new out (due entries)
    left_is entries tells has =
        due_of_any (IsOutputLeft o.old o.new out) due entries history (log_bytes o.old journal) has (r.has tells) (r.left tells)

    pub reads_whole : o.end ≡ Done → IsSilent o
        → (o.old.tells ≡ true → o.new.file out ≡ Some (due history)) → ReadsJournal journal out due o
    reads_whole is silent bytes = record {
      ends = subst EndsReading (sym is) tt;
      keeps = r.keeps (o.end ≡ Told Device);
      told = λ why also. absurd (told_not_done o.end why also is);
      untouched = λ why also. absurd (told_not_done o.end why also is);
      kept = λ why also. absurd (told_not_done o.end why also is);
      silent = λ untold. silent;
      device = λ also. absurd (told_not_done o.end Device also is);
      out_cause = λ also. absurd (done_not_unwritten o.end Out is also);
      durable = λ untold. r.durable;
      history = λ untold tells. fitting_history o.old history (log_bytes o.old journal) (r.has tells) r.within;
      whole = λ entries also tells has.
          due_of_any (λ whole. o.new.file out ≡ Some whole) due entries history (log_bytes o.old journal) has (r.has tells) (bytes tells);
      part = λ entries also. left_is entries;
    }

    pub reads_failed : o.end ≡ out_unwritten → IsSilent o
        → Rose (o.old.out_faults out) (o.new.out_faults out) → ReadsJournal journal out due o
    reads_failed is silent rose = record {
      ends = subst EndsReading (sym is) tt;
      keeps = r.keeps (o.end ≡ Told Device);
      told = λ why also. absurd (told_not_unwritten o.end why Out also is);
      untouched = λ why also. absurd (told_not_unwritten o.end why Out also is);
      kept = λ why also. absurd (told_not_unwritten o.end why Out also is);
      silent = λ untold. silent;
      device = λ also. absurd (told_not_unwritten o.end Device Out also is);
      out_cause = λ also. rose;
      durable = λ untold. r.durable;
      history = λ untold tells. fitting_history o.old history (log_bytes o.old journal) (r.has tells) r.within;
      whole = λ entries also. absurd (done_not_unwritten o.end Out also is);
      part = λ entries also. left_is entries;
    }

    -- memory ran out before the output was begun
    pub reads_no_memory : o.end ≡ Told Memory → IsTold Memory o → SameBut o.old o.new (journal ∷ []) → ReadsJournal journal out due o
    reads_no_memory is told apart =
        reads_fault opening.NoMemory is told apart (λ e. cc) (λ tells. tt) (r.keeps (opening.NoMemory ≡ opening.DeviceFault))
        (λ tells other more. absurd (more refl)) (λ e. cc)

  -- the output was written, or it could not be, or memory ran out before it was begun
  pub reads_output : {T : Type 0} → (mid : RoomView) (disk : DiskView) (history : List Entry) (written : Result T WriteFault) → journal ≢ out
      → SameBut o.old mid (journal ∷ []) → (o.old.tells ≡ true → HasHistory history (log_bytes o.old journal)) → IsWithin (journal_limits o.old) history
      → (o.old.tells ≡ true → KeepsLog (log_bytes o.old journal) disk) → (mid.tells ≡ true → IsClosedDisk disk o.new journal)
      → IsOutput mid o.new out (due history) written → OnOk written (mid.tells ≡ true → o.new.file out ≡ Some (due history))
      → (written ≡ Err NoMemory → SameBut mid o.new (journal ∷ [])) → OnOk written (o.end ≡ Done) → (written ≡ Err OutputFault → o.end ≡ out_unwritten)
      → (written ≡ Err NoMemory → o.end ≡ Told Memory) → (written ≡ Err NoMemory → IsTold Memory o) → ((written ≡ Err NoMemory → ⊥) → IsSilent o)
      → ReadsJournal journal out due o
  reads_output mid disk history written differ opened has within kept log output bytes unbegun done failed memory told silent =
      by written output.cause bytes unbegun done failed memory told silent
    where
      r : WasRead history
      r = was_read mid disk history differ opened log has within kept output.left

      by : {T : Type 0} → (written : Result T WriteFault) → HasWriteCause (mid.out_faults out) (o.new.out_faults out) written
          → OnOk written (mid.tells ≡ true → o.new.file out ≡ Some (due history)) → (written ≡ Err NoMemory → SameBut mid o.new (journal ∷ []))
          → OnOk written (o.end ≡ Done) → (written ≡ Err OutputFault → o.end ≡ out_unwritten) → (written ≡ Err NoMemory → o.end ≡ Told Memory)
          → (written ≡ Err NoMemory → IsTold Memory o) → ((written ≡ Err NoMemory → ⊥) → IsSilent o) → ReadsJournal journal out due o
      by (Ok value) cause bytes unbegun done failed memory told silent = reads_whole history r done (silent (λ e. cc)) (λ tells. bytes (opened.tells ∙ tells))
      by (Err OutputFault) cause bytes unbegun done failed memory told silent =
          reads_failed history r (failed refl) (silent (λ e. cc)) (rose_since _ _ _ (opened.outs out) (cause.failed refl))
      by (Err NoMemory) cause bytes unbegun done failed memory told silent =
          reads_no_memory history r (memory refl) (told refl) (same_but_then o.old mid o.new (journal ∷ []) opened (unbegun refl))
