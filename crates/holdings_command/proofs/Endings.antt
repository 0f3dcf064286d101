-- How the command ends, from what its steps say.
use Rattle.std.proofs.Common.{◌≡◌, ◌≢◌, ◌∙◌, ◌⊎◌, inl, inr, ℕ, true, List, [], ◌∷◌, Option, Result, Ok, Err, OnOk, refl, sym, ap, subst}
use Rattle.std.specs.Prelude.{IsSomeAnd, IfErr, string_bytes}
use Rattle.marc_types.specs.declared.entry.Entry.{Entry}
use Rattle.outside.specs.Disk.{DiskView}
use Rattle.outside.specs.Fault.{Rose}
use Rattle.outside.specs.Room.{RoomView, SameBut}
use Rattle.command_words.specs.declared.library.Library.{Library}
use Rattle.catalogue_rules.specs.Settle.{state_of}
use Rattle.durable_catalogue.specs.Logs.{HasHistory}
use Rattle.entry_record.specs.History.{IsWithin}
use Rattle.durable_catalogue.specs.Openings.{IsUnopened}
use Rattle.durable_catalogue.specs.declared.fault.OpenFault.{OpenFault}
use Rattle.durable_catalogue.specs.declared.fault.OpenFault.TheVariants as opening
use Rattle.console_lines.specs.Ends.{Outcome, IsTold, TellsNoFault, IsSilent, IsResultTold, out_unwritten, pages_unwritten}
use Rattle.console_lines.specs.declared.end.End.{End}
use Rattle.console_lines.specs.declared.end.End.TheVariants.{Done, Refused, Unwritten as NotWritten, Told, BroughtInPart, Differ}
use Rattle.console_lines.specs.declared.end.Unwritten.{Unwritten}
use Rattle.console_lines.specs.declared.end.Unwritten.TheVariants.{Out, Side, Pages, Console}
use Rattle.console_lines.specs.declared.end.OutputsFault.{OutputsFault}
use Rattle.console_lines.specs.declared.end.OutputsFault.TheVariants.{NoMemory as RanOut, Unwritten as NotBoth}
use Rattle.console_lines.specs.declared.fault.Fault.{Fault}
use Rattle.console_lines.specs.declared.fault.Fault.TheVariants.{Input, Device, Memory}
use Rattle.console_lines.proofs.Ends.{told_once, told_not_unwritten, never_told}
use Rattle.journal_files.specs.Journals.{journal_limits, log_bytes, IsClosedDisk, KeepsHistory, KeepsLog, IsDurable}
use Rattle.journal_files.specs.Faults.{fault_of_opening, WhyUnopened}
use Rattle.journal_files.proofs.Faults.{opening_device, opening_input}
use Rattle.journal_files.proofs.Journals.{closed_keeps, closed_durable, keeps_where}
use Rattle.output_files.specs.Kept.{kept_keys}
use Rattle.journal_files.proofs.Histories.{fitting_history}
use Rattle.holdings_export.specs.Output.{holdings_export, holdings_rest}
use Rattle.holdings_command.specs.Shelving.{IsFaultOfShelving}
use Rattle.holdings_command.specs.Ready.{IsReady}
use Rattle.output_files.specs.Outputs.{AreWritten, AreStopped}
use Rattle.holdings_command.specs.Attaching.{rest_unwritten, EndsAttaching, AttachesHoldings}
use Rattle.holdings_command.specs.declared.ready.Ready.{Ready}
use Rattle.holdings_command.proofs.OnShelves.{there_more}
use Rattle.holdings_command.proofs.Unread.{unread_is}
use Rattle.holdings_command.proofs.Delivering.{Delivers, attached_of_any, delivers_stopped, delivers_told}

-- an opening's fault is one of this command
ends_unopened : (reason : OpenFault) → reason ≢ opening.OldVersion → EndsAttaching (Told (fault_of_opening reason))
ends_unopened opening.DeviceFault current = tt
ends_unopened (opening.NotAJournal place) current = tt
ends_unopened opening.OldVersion current = absurd (current refl)
ends_unopened opening.Full current = tt
ends_unopened opening.NoMemory current = tt

-- a fault of reading the file is one of this command, and none of a device
ends_unread : (why : Fault) → IsFaultOfShelving why → EndsAttaching (Told why)
ends_unread why is = unread_is (λ w. EndsAttaching (Told w)) tt tt why is

because_unread : (room : RoomView) (journal : List ℕ) (why : Fault) → IsFaultOfShelving why → why ≢ Input → WhyUnopened room journal why
because_unread room journal why is =
    unread_is (λ w. w ≢ Input → WhyUnopened room journal w) (λ other. absurd (other refl))
    (λ other. record { reason = opening.NoMemory; is = refl; so = λ tells. tt }) why is

ends_delivered : (end : End) → TellsNoFault end → end ≢ pages_unwritten → EndsAttaching end
ends_delivered Done untold no_pages = tt
ends_delivered Refused untold no_pages = tt
ends_delivered (NotWritten Out) untold no_pages = tt
ends_delivered (NotWritten Side) untold no_pages = tt
ends_delivered (NotWritten Pages) untold no_pages = absurd (no_pages refl)
ends_delivered (NotWritten Console) untold no_pages = tt
ends_delivered (Told why) untold no_pages = absurd untold
ends_delivered BroughtInPart untold no_pages = absurd untold
ends_delivered Differ untold no_pages = absurd untold

module _ (journal out rest : List ℕ) (library : Library) (code : Option (List ℕ)) (o : Outcome) where
  -- the journal was not opened
  pub attaches_unopened : (reason : OpenFault) → o.end ≡ Told (fault_of_opening reason) → IsTold (fault_of_opening reason) o
      → SameBut o.old o.new (journal ∷ []) → reason ≢ opening.OldVersion
      → (o.old.tells ≡ true → IsUnopened (journal_limits o.old) (log_bytes o.old journal) reason)
      → (o.old.tells ≡ true → KeepsHistory (reason ≡ opening.DeviceFault) o.old o.new journal)
      → (reason ≡ opening.DeviceFault → Rose (o.old.log_faults journal) (o.new.log_faults journal))
      → AttachesHoldings journal out rest library code o
  attaches_unopened reason is told apart current so keeps cause =
      let fault = fault_of_opening reason in
      record {
        ends = subst EndsAttaching (sym is) (ends_unopened reason current);
        keeps = λ tells.
            keeps_where (reason ≡ opening.DeviceFault) (o.end ≡ Told Device) o.old o.new journal (λ device. is ∙ ap (λ r. Told (fault_of_opening r)) device) (keeps tells);
        told = λ why also. subst (λ w. IsTold w o × SameBut o.old o.new (journal ∷ [])) (told_once o.end fault why is also) (told, apart);
        because = λ why also other. subst (λ w. WhyUnopened o.old journal w) (told_once o.end fault why is also) (record { reason = reason; is = refl; so = so });
        no_rest = λ also. absurd (told_not_unwritten o.end fault Out is also);
        silent = λ either. absurd (told_not_stopped fault is either);
        device = λ also. cause (opening_device reason (told_once o.end fault Device is also));
        input = λ also. absurd (opening_input reason (told_once o.end fault Input is also));
        out_cause = λ also. absurd (told_not_unwritten o.end fault Out is also);
        rest_cause = λ also. absurd (told_not_unwritten o.end fault Side is also);
        console_cause = λ also. absurd (told_not_unwritten o.end fault Console is also);
        history = λ behind. absurd (not_behind behind);
        durable = λ behind. absurd (not_behind behind);
        delivers = λ entries untold. absurd (never_told o.end fault untold is);
      }
    where
      told_not_stopped : (why : Fault) → o.end ≡ Told why → (o.end ≡ out_unwritten) ⊎ (o.end ≡ rest_unwritten) → ⊥
      told_not_stopped why is (inl also) = told_not_unwritten o.end why Out is also
      told_not_stopped why is (inr also) = told_not_unwritten o.end why Side is also

      not_behind : TellsNoFault o.end ⊎ (o.end ≡ Told Input) → ⊥
      not_behind (inl untold) = never_told o.end (fault_of_opening reason) untold is
      not_behind (inr also) = opening_input reason (told_once o.end (fault_of_opening reason) Input is also)

  -- the journal was opened, and closed again
  pub record WasOpened (history : List Entry) : Type 1 where
    pub keeps : (failed : Type 0) → o.old.tells ≡ true → KeepsHistory failed o.old o.new journal
    pub durable : o.old.tells ≡ true → IsDurable o.new journal
    pub has : o.old.tells ≡ true → HasHistory history (log_bytes o.old journal)
    pub within : IsWithin (journal_limits o.old) history

  pub was_opened : (before : RoomView) (disk : DiskView) (history : List Entry) → (o.old.tells ≡ true → before.tells ≡ true)
      → (before.tells ≡ true → IsClosedDisk disk o.new journal)
      → (o.old.tells ≡ true → HasHistory history (log_bytes o.old journal)) → IsWithin (journal_limits o.old) history
      → (o.old.tells ≡ true → KeepsLog (log_bytes o.old journal) disk) → WasOpened history
  was_opened before disk history tells_then log has within kept = record {
    keeps = λ failed tells. let then = tells_then tells in closed_keeps o.old o.new journal disk (log then) failed (kept tells);
    durable = λ tells. let then = tells_then tells in closed_durable o.old o.new journal disk (log then) (log_bytes o.old journal) (kept tells);
    has = has;
    within = within;
  }

  module _ (history : List Entry) (r : WasOpened history) where
    -- the file was not read, or memory ran out over it
    pub attaches_unread : (why : Fault) → IsFaultOfShelving why → o.end ≡ Told why → IsTold why o → SameBut o.old o.new (journal ∷ [])
        → (why ≡ Input → Rose (o.old.in_faults library.file) (o.new.in_faults library.file)) → AttachesHoldings journal out rest library code o
    attaches_unread why kind is told apart cause = record {
      ends = subst EndsAttaching (sym is) (ends_unread why kind);
      keeps = r.keeps (o.end ≡ Told Device);
      told = λ other also. subst (λ w. IsTold w o × SameBut o.old o.new (journal ∷ [])) (told_once o.end why other is also) (told, apart);
      because = λ other also no. subst (λ w. WhyUnopened o.old journal w) (told_once o.end why other is also)
          (because_unread o.old journal why kind (λ input. no (sym (told_once o.end why other is also) ∙ input)));
      no_rest = λ also. absurd (told_not_unwritten o.end why Out is also);
      silent = λ either. absurd (told_not_stopped either);
      device = λ also. absurd (subst IsFaultOfShelving (told_once o.end why Device is also) kind);
      input = λ also. cause (told_once o.end why Input is also);
      out_cause = λ also. absurd (told_not_unwritten o.end why Out is also);
      rest_cause = λ also. absurd (told_not_unwritten o.end why Side is also);
      console_cause = λ also. absurd (told_not_unwritten o.end why Console is also);
      history = λ behind tells. fitting_history o.old history (log_bytes o.old journal) (r.has tells) r.within;
      durable = λ behind tells. r.durable tells;
      delivers = λ entries untold. absurd (never_told o.end why untold is);
    }
      where
        told_not_stopped : (o.end ≡ out_unwritten) ⊎ (o.end ≡ rest_unwritten) → ⊥
        told_not_stopped (inl also) = told_not_unwritten o.end why Out is also
        told_not_stopped (inr also) = told_not_unwritten o.end why Side is also

    -- what is due was delivered, as far as it could be
    attaches : Delivers (journal ∷ out ∷ []) out rest library code (state_of history) o → AttachesHoldings journal out rest library code o
    attaches d = record {
      ends = ends_delivered o.end d.untold d.no_pages;
      keeps = r.keeps (o.end ≡ Told Device);
      told = λ why also. absurd (never_told o.end why d.untold also);
      because = λ why also. absurd (never_told o.end why d.untold also);
      no_rest = d.no_rest;
      silent = d.silent;
      device = λ also. absurd (never_told o.end Device d.untold also);
      input = λ also. absurd (never_told o.end Input d.untold also);
      out_cause = d.out_cause;
      rest_cause = d.rest_cause;
      console_cause = d.console_cause;
      history = λ behind tells. fitting_history o.old history (log_bytes o.old journal) (r.has tells) r.within;
      durable = λ behind tells. r.durable tells;
      delivers = λ entries still tells has. there_more (o.old.file library.file)
          (λ bytes is. attached_of_any library code bytes out rest o entries history (log_bytes o.old journal) has (r.has tells) is) (d.attached tells);
    }

    module _ (ready : Ready)
        (is : o.old.tells ≡ true → IsSomeAnd (o.old.file library.file) (λ bytes. IsReady library bytes (state_of history) ready)) where
      -- the outputs were written or not, and the console told
      pub attaches_ended : {T : Type 0} → (written : Result T OutputsFault) → journal ≢ rest → out ≢ rest
          → OnOk written (o.old.tells ≡ true
          → AreWritten out rest (holdings_export (kept_keys code) (state_of history) ready.shelf) (holdings_rest (state_of history) ready.shelf) o.new)
          → IfErr written (λ why. (which : Unwritten) → why ≡ NotBoth which
          → AreStopped (journal ∷ out ∷ []) out rest (holdings_export (kept_keys code) (state_of history) ready.shelf) (holdings_rest (state_of history) ready.shelf) o.old o.new which)
          → IfErr written (λ why. why ≡ RanOut → SameBut o.old o.new (journal ∷ []))
          → OnOk written (IsResultTold o.told o.now o.faults o.faults_now (string_bytes ready.text) ready.refused o.end)
          → ((which : Unwritten) → written ≡ Err (NotBoth which) → o.end ≡ NotWritten which) → ((which : Unwritten) → written ≡ Err (NotBoth which) → IsSilent o)
          → (written ≡ Err RanOut → o.end ≡ Told Memory) → (written ≡ Err RanOut → IsTold Memory o) → AttachesHoldings journal out rest library code o
      attaches_ended (Ok value) no_journal no_out are stopped unbegun told unwritten silent memory tells =
          attaches (delivers_told (journal ∷ out ∷ []) out rest library code (state_of history) o ready is are told)
      attaches_ended (Err (NotBoth which)) no_journal no_out are stopped unbegun told unwritten silent memory tells =
          attaches (delivers_stopped (journal ∷ out ∷ []) out rest library code (state_of history) o ready is which
          ((λ e. no_journal (sym e)), ((λ e. no_out (sym e)), tt)) (unwritten which refl) (silent which refl) (stopped which refl))
      attaches_ended (Err RanOut) no_journal no_out are stopped unbegun told unwritten silent memory tells =
          attaches_unread Memory tt (memory refl) (tells refl) (unbegun refl) (λ input. cc)
