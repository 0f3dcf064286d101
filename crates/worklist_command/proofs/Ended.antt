-- How the command ends, from what its steps say.
use Rattle.std.proofs.Common.{◌≡◌, ◌≢◌, ◌∙◌, ℕ, true, List, [], ◌∷◌, Option, Some, Result, Ok, Err, OnOk, refl, sym, ap, subst}
use Rattle.marc_types.specs.declared.entry.Entry.{Entry}
use Rattle.outside.specs.Disk.{DiskView}
use Rattle.outside.specs.Fault.{Rose}
use Rattle.outside.specs.Room.{RoomView, IsUntouched, SameBut}
use Rattle.outside.proofs.Rooms.{same_but_first}
use Rattle.durable_catalogue.specs.Logs.{HasHistory}
use Rattle.entry_record.specs.History.{IsWithin}
use Rattle.durable_catalogue.specs.Openings.{IsUnopened}
use Rattle.durable_catalogue.specs.declared.fault.OpenFault.{OpenFault}
use Rattle.durable_catalogue.specs.declared.fault.OpenFault.TheVariants as opening
use Rattle.console_lines.specs.Ends.{Outcome, IsTold, IsSilent}
use Rattle.console_lines.specs.declared.end.End.TheVariants.{Done, Unwritten as NotWritten, Told}
use Rattle.console_lines.specs.declared.end.Unwritten.{Unwritten}
use Rattle.console_lines.specs.declared.end.Unwritten.TheVariants.{Out, Side}
use Rattle.console_lines.specs.declared.end.OutputsFault.{OutputsFault}
use Rattle.console_lines.specs.declared.end.OutputsFault.TheVariants.{NoMemory as RanOut, Unwritten as NotBoth}
use Rattle.console_lines.specs.declared.fault.Fault.{Fault}
use Rattle.console_lines.specs.declared.fault.Fault.TheVariants.{Device, Memory}
use Rattle.console_lines.proofs.Ends.{told_once, told_not_unwritten, told_not_done, done_not_unwritten, never_told, unwritten_once}
use Rattle.journal_files.specs.Faults.{fault_of_opening, WhyUnopened}
use Rattle.journal_files.specs.Journals.{journal_limits, log_bytes, IsClosedDisk, KeepsHistory, KeepsLog, IsDurable}
use Rattle.journal_files.proofs.Faults.{opening_device}
use Rattle.journal_files.proofs.Histories.{due_of_any, fitting_history}
use Rattle.journal_files.proofs.Journals.{closed_keeps, closed_durable, keeps_where}
use Rattle.output_files.specs.Outputs.{AreWritten, AreStopped, AtFirst, AtSecond, IsOutputLeft}
use Rattle.worklist_page.specs.Page.{page_of}
use Rattle.worklist_command.specs.Working.{EndsListing, MakesWorklist, list_due, list_unwritten, page_unwritten}
use Rattle.worklist_command.proofs.Rooms.{untouched_apart}

-- an opening's fault is one of this command
ends_unopened : (reason : OpenFault) → reason ≢ opening.OldVersion → EndsListing (Told (fault_of_opening reason))
ends_unopened opening.DeviceFault current = tt
ends_unopened (opening.NotAJournal place) current = tt
ends_unopened opening.OldVersion current = absurd (current refl)
ends_unopened opening.Full current = tt
ends_unopened opening.NoMemory current = tt

module _ (journal list page : List ℕ) (code : Option (List ℕ)) (o : Outcome) where
  -- a fault was told, of a journal that was not opened or where memory ran out behind that
  listed_fault : (reason : OpenFault) → o.end ≡ Told (fault_of_opening reason) → IsTold (fault_of_opening reason) o
      → SameBut o.old o.new (journal ∷ list ∷ []) → IsUntouched o.old o.new list → reason ≢ opening.OldVersion
      → (o.old.tells ≡ true → IsUnopened (journal_limits o.old) (log_bytes o.old journal) reason)
      → (o.old.tells ≡ true → KeepsHistory (reason ≡ opening.DeviceFault) o.old o.new journal)
      → (o.old.tells ≡ true → reason ≢ opening.DeviceFault → reason ≢ opening.NoMemory → log_bytes o.new journal ≡ log_bytes o.old journal)
      → (reason ≡ opening.DeviceFault → Rose (o.old.log_faults journal) (o.new.log_faults journal)) → MakesWorklist journal list page code o
  listed_fault reason is told apart same current so keeps kept cause =
      let fault = fault_of_opening reason in
      record {
        ends = subst EndsListing (sym is) (ends_unopened reason current);
        keeps = λ tells.
            keeps_where (reason ≡ opening.DeviceFault) (o.end ≡ Told Device) o.old o.new journal (λ device. is ∙ ap (λ r. Told (fault_of_opening r)) device) (keeps tells);
        told = λ why also. subst (λ w. IsTold w o × WhyUnopened o.old journal w) (told_once o.end fault why is also) (told, record { reason = reason; is = refl; so = so });
        untouched = λ why also. (apart, same);
        kept = λ why also other more tells.
            let once = told_once o.end fault why is also in
            kept tells (λ device. other (sym once ∙ ap fault_of_opening device)) (λ memory. more (sym once ∙ ap fault_of_opening memory));
        no_page = λ also. absurd (told_not_unwritten o.end fault Out is also);
        silent = λ untold. absurd (never_told o.end fault untold is);
        device = λ also. cause (opening_device reason (told_once o.end fault Device is also));
        list_cause = λ also. absurd (told_not_unwritten o.end fault Out is also);
        page_cause = λ also. absurd (told_not_unwritten o.end fault Side is also);
        history = λ untold. absurd (never_told o.end fault untold is);
        durable = λ untold. absurd (never_told o.end fault untold is);
        whole = λ entries also. absurd (told_not_done o.end fault is also);
        list_part = λ entries also. absurd (told_not_unwritten o.end fault Out is also);
        page_part = λ entries also. absurd (told_not_unwritten o.end fault Side is also);
      }

  -- the journal was not opened
  pub listed_unopened : (reason : OpenFault) (fault : Fault) → journal ≢ list → fault ≡ fault_of_opening reason → o.end ≡ Told fault → IsTold fault o
      → SameBut o.old o.new (journal ∷ []) → reason ≢ opening.OldVersion
      → (o.old.tells ≡ true → IsUnopened (journal_limits o.old) (log_bytes o.old journal) reason)
      → (o.old.tells ≡ true → KeepsHistory (reason ≡ opening.DeviceFault) o.old o.new journal)
      → (o.old.tells ≡ true → reason ≢ opening.DeviceFault → log_bytes o.new journal ≡ log_bytes o.old journal)
      → (reason ≡ opening.DeviceFault → Rose (o.old.log_faults journal) (o.new.log_faults journal)) → MakesWorklist journal list page code o
  listed_unopened reason fault differ words is told apart current so keeps kept cause =
      listed_fault reason (is ∙ ap Told words) (subst (λ f. IsTold f o) words told) (same_but_first o.old o.new journal (list ∷ []) apart)
      (untouched_apart o.old o.new journal list differ apart) current so keeps (λ tells other more. kept tells other) cause

  -- the journal was opened, and closed again
  pub record WasListed (history : List Entry) : Type 1 where
    pub keeps : (failed : Type 0) → o.old.tells ≡ true → KeepsHistory failed o.old o.new journal
    pub durable : o.old.tells ≡ true → IsDurable o.new journal
    pub has : o.old.tells ≡ true → HasHistory history (log_bytes o.old journal)
    pub within : IsWithin (journal_limits o.old) history

  pub was_listed : (written : RoomView) (disk : DiskView) (history : List Entry) → (o.old.tells ≡ true → written.tells ≡ true)
      → (written.tells ≡ true → IsClosedDisk disk o.new journal)
      → (o.old.tells ≡ true → HasHistory history (log_bytes o.old journal)) → IsWithin (journal_limits o.old) history
      → (o.old.tells ≡ true → KeepsLog (log_bytes o.old journal) disk) → WasListed history
  was_listed written disk history tells_then log has within kept = record {
    keeps = λ failed tells. closed_keeps o.old o.new journal disk (log (tells_then tells)) failed (kept tells);
    durable = λ tells. closed_durable o.old o.new journal disk (log (tells_then tells)) (log_bytes o.old journal) (kept tells);
    has = has;
    within = within;
  }

  module _ (history : List Entry) (r : WasListed history) where
    list_of_any : (P : List ℕ → Type 0) (entries : List Entry) → o.old.tells ≡ true → HasHistory entries (log_bytes o.old journal)
        → P (list_due code history) → P (list_due code entries)
    list_of_any P entries tells has = due_of_any P (list_due code) entries history (log_bytes o.old journal) has (r.has tells)

    page_of_any : (P : List ℕ → Type 0) (entries : List Entry) → o.old.tells ≡ true → HasHistory entries (log_bytes o.old journal)
        → P (page_of history) → P (page_of entries)
    page_of_any P entries tells has = due_of_any P page_of entries history (log_bytes o.old journal) has (r.has tells)

    listed_whole : o.end ≡ Done → IsSilent o → (o.old.tells ≡ true → AreWritten list page (list_due code history) (page_of history) o.new)
        → MakesWorklist journal list page code o
    listed_whole is silent are = record {
      ends = subst EndsListing (sym is) tt;
      keeps = r.keeps (o.end ≡ Told Device);
      told = λ why also. absurd (told_not_done o.end why also is);
      untouched = λ why also. absurd (told_not_done o.end why also is);
      kept = λ why also. absurd (told_not_done o.end why also is);
      no_page = λ also. absurd (done_not_unwritten o.end Out is also);
      silent = λ untold. silent;
      device = λ also. absurd (told_not_done o.end Device also is);
      list_cause = λ also. absurd (done_not_unwritten o.end Out is also);
      page_cause = λ also. absurd (done_not_unwritten o.end Side is also);
      history = λ untold tells. fitting_history o.old history (log_bytes o.old journal) (r.has tells) r.within;
      durable = λ untold. r.durable;
      whole = λ entries also tells has. record {
        whole = list_of_any (λ due. o.new.file list ≡ Some due) entries tells has (are tells).whole;
        side_whole = page_of_any (λ due. o.new.file page ≡ Some due) entries tells has (are tells).side_whole;
      };
      list_part = λ entries also. absurd (done_not_unwritten o.end Out is also);
      page_part = λ entries also. absurd (done_not_unwritten o.end Side is also);
    }

    -- an output could not be written
    listed_stopped : (which : Unwritten) → o.end ≡ NotWritten which → IsSilent o
        → AreStopped (journal ∷ list ∷ []) list page (list_due code history) (page_of history) o.old o.new which → MakesWorklist journal list page code o
    listed_stopped which end silent (AtFirst first up left alone) =
        let is : o.end ≡ list_unwritten = end ∙ ap NotWritten first in
        record {
          ends = subst EndsListing (sym is) tt;
          keeps = r.keeps (o.end ≡ Told Device);
          told = λ why also. absurd (told_not_unwritten o.end why Out also is);
          untouched = λ why also. absurd (told_not_unwritten o.end why Out also is);
          kept = λ why also. absurd (told_not_unwritten o.end why Out also is);
          no_page = λ also. alone;
          silent = λ untold. silent;
          device = λ also. absurd (told_not_unwritten o.end Device Out also is);
          list_cause = λ also. up;
          page_cause = λ also. let no : Out ≡ Side = unwritten_once o.end Out Side is also in cc;
          history = λ untold tells. fitting_history o.old history (log_bytes o.old journal) (r.has tells) r.within;
          durable = λ untold. r.durable;
          whole = λ entries also. absurd (done_not_unwritten o.end Out also is);
          list_part = λ entries also tells has. list_of_any (IsOutputLeft o.old o.new list) entries tells has (left tells);
          page_part = λ entries also. let no : Out ≡ Side = unwritten_once o.end Out Side is also in cc;
        }
    listed_stopped which end silent (AtSecond second up whole left) =
        let is : o.end ≡ page_unwritten = end ∙ ap NotWritten second in
        record {
          ends = subst EndsListing (sym is) tt;
          keeps = r.keeps (o.end ≡ Told Device);
          told = λ why also. absurd (told_not_unwritten o.end why Side also is);
          untouched = λ why also. absurd (told_not_unwritten o.end why Side also is);
          kept = λ why also. absurd (told_not_unwritten o.end why Side also is);
          no_page = λ also. let no : Side ≡ Out = unwritten_once o.end Side Out is also in cc;
          silent = λ untold. silent;
          device = λ also. absurd (told_not_unwritten o.end Device Side also is);
          list_cause = λ also. let no : Side ≡ Out = unwritten_once o.end Side Out is also in cc;
          page_cause = λ also. up;
          history = λ untold tells. fitting_history o.old history (log_bytes o.old journal) (r.has tells) r.within;
          durable = λ untold. r.durable;
          whole = λ entries also. absurd (done_not_unwritten o.end Side also is);
          list_part = λ entries also. let no : Side ≡ Out = unwritten_once o.end Side Out is also in cc;
          page_part = λ entries also tells has.
              (list_of_any (λ due. o.new.file list ≡ Some due) entries tells has (whole tells), page_of_any (IsOutputLeft o.old o.new page) entries tells has (left tells));
        }

    -- memory ran out
    listed_no_memory : o.end ≡ Told Memory → IsTold Memory o → SameBut o.old o.new (journal ∷ list ∷ []) → IsUntouched o.old o.new list
        → MakesWorklist journal list page code o
    listed_no_memory is told apart same =
        listed_fault opening.NoMemory is told apart same (λ e. cc) (λ tells. tt) (r.keeps (opening.NoMemory ≡ opening.DeviceFault))
        (λ tells other more. absurd (more refl)) (λ e. cc)

    -- both were written, or could not be
    pub listed_ended : {T : Type 0} → (written : Result T OutputsFault)
        → OnOk written (o.old.tells ≡ true → AreWritten list page (list_due code history) (page_of history) o.new)
        → ((which : Unwritten) → written ≡ Err (NotBoth which)
        → AreStopped (journal ∷ list ∷ []) list page (list_due code history) (page_of history) o.old o.new which)
        → (written ≡ Err RanOut → SameBut o.old o.new (journal ∷ list ∷ []) × IsUntouched o.old o.new list)
        → OnOk written (o.end ≡ Done) → ((which : Unwritten) → written ≡ Err (NotBoth which) → o.end ≡ NotWritten which)
        → (written ≡ Err RanOut → o.end ≡ Told Memory) → (written ≡ Err RanOut → IsTold Memory o) → ((written ≡ Err RanOut → ⊥) → IsSilent o)
        → MakesWorklist journal list page code o
    listed_ended (Ok value) are stopped unbegun done failed memory told silent = listed_whole done (silent (λ e. cc)) are
    listed_ended (Err (NotBoth which)) are stopped unbegun done failed memory told silent =
        listed_stopped which (failed which refl) (silent (λ e. cc)) (stopped which refl)
    listed_ended (Err RanOut) are stopped unbegun done failed memory told silent =
        listed_no_memory (memory refl) (told refl) (unbegun refl).0 (unbegun refl).1
