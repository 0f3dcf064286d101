-- How a command ends that looks into a journal, from what its steps say.
use Rattle.std.proofs.Common.{◌≡◌, ◌≢◌, ◌∙◌, ℕ, true, List, [], Some, Result, Ok, Err, OnOk, refl, sym, subst}
use Rattle.std.specs.Prelude.{IsSomeAnd}
use Rattle.marc_types.specs.declared.entry.Entry.{Entry}
use Rattle.marc_types.specs.declared.entry.Limits.{Limits}
use Rattle.outside.specs.Fault.{Rose}
use Rattle.outside.specs.declared.fault.WriteFault.{WriteFault}
use Rattle.outside.specs.declared.fault.WriteFault.TheVariants.{OutputFault, NoMemory}
use Rattle.outside.specs.Room.{RoomView, SameBut}
use Rattle.outside.proofs.Counts.{rose_since}
use Rattle.outside.proofs.Rooms.{same_but_then}
use Rattle.entry_record.specs.History.{IsWithin}
use Rattle.durable_catalogue.specs.Logs.{HasHistory}
use Rattle.durable_catalogue.specs.Openings.{IsUnopened}
use Rattle.durable_catalogue.specs.declared.fault.OpenFault.{OpenFault}
use Rattle.durable_catalogue.specs.declared.fault.OpenFault.TheVariants as opening
use Rattle.console_lines.specs.Ends.{Outcome, IsTold, IsSilent, out_unwritten}
use Rattle.console_lines.specs.declared.end.End.TheVariants.{Done, Told}
use Rattle.console_lines.specs.declared.end.Unwritten.TheVariants.{Out}
use Rattle.console_lines.specs.declared.fault.Fault.{Fault}
use Rattle.console_lines.specs.declared.fault.Fault.TheVariants.{Input, Memory}
use Rattle.console_lines.proofs.Ends.{told_once, told_not_unwritten, told_not_done, done_not_unwritten, never_told}
use Rattle.memory_files.specs.declared.reading.ReadFault.{ReadFault}
use Rattle.memory_files.specs.declared.reading.ReadFault.TheVariants as read
use Rattle.journal_files.specs.Journals.{journal_limits, HasFittingHistory}
use Rattle.output_files.specs.Outputs.{IsOutputLeft}
use Rattle.output_files.proofs.Parts.{left_since}
use Rattle.journal_files.proofs.Histories.{due_of_any, fitting_history}
use Rattle.unheld_journals.specs.Untaken.{WhyUntaken, fault_of_look, fault_of_reading}
use Rattle.reading_commands.specs.Looking.{EndsLooking, IsLooked, LooksInto}

-- a fault for which bytes aren't taken is one of looking, and none of the input
ends_untaken : (reason : OpenFault) → reason ≢ opening.OldVersion → EndsLooking (Told (fault_of_look reason))
ends_untaken opening.DeviceFault current = tt
ends_untaken (opening.NotAJournal place) current = tt
ends_untaken opening.OldVersion current = absurd (current refl)
ends_untaken opening.Full current = tt
ends_untaken opening.NoMemory current = tt

pub untaken_not_input : (reason : OpenFault) → fault_of_look reason ≡ Input → ⊥
untaken_not_input opening.DeviceFault is = cc
untaken_not_input (opening.NotAJournal place) is = cc
untaken_not_input opening.OldVersion is = cc
untaken_not_input opening.Full is = cc
untaken_not_input opening.NoMemory is = cc

pub same_bytes : (bytes others : List ℕ) → Some bytes ≡ Some others → bytes ≡ others
same_bytes bytes others is = cc

module _ (journal out : List ℕ) (due : List Entry → List ℕ) (o : Outcome) where
  -- a fault was told, and nothing was begun
  looks_told : (why : Fault) → o.end ≡ Told why → IsTold why o → EndsLooking (Told why) → SameBut o.old o.new []
      → (why ≡ Input → Rose (o.old.in_faults journal) (o.new.in_faults journal))
      → (why ≢ Input → why ≢ Memory → o.old.tells ≡ true → IsSomeAnd (o.old.file journal) (λ bytes. WhyUntaken (journal_limits o.old) bytes why)) → LooksInto journal out due o
  looks_told why is told ends stays input so = record {
    ends = subst EndsLooking (sym is) ends;
    told = λ other also. subst (λ w. IsTold w o) (told_once o.end why other is also) told;
    untouched = λ other also. stays;
    so = λ other also no_input no_memory tells.
        let same = told_once o.end why other is also in
        subst (λ w. IsSomeAnd (o.old.file journal) (λ bytes. WhyUntaken (journal_limits o.old) bytes w)) same
        (so (λ e. no_input (sym same ∙ e)) (λ e. no_memory (sym same ∙ e)) tells);
    silent = λ untold. absurd (never_told o.end why untold is);
    input = λ also. input (told_once o.end why Input is also);
    out_cause = λ also. absurd (told_not_unwritten o.end why Out is also);
    history = λ untold. absurd (never_told o.end why untold is);
    whole = λ bytes entries also. absurd (told_not_done o.end why is also);
    part = λ bytes entries also. absurd (told_not_unwritten o.end why Out is also);
  }

  -- the journal could not be read
  pub looks_unread : (reason : ReadFault) (fault : Fault) → fault ≡ fault_of_reading reason → o.end ≡ Told fault → IsTold fault o → SameBut o.old o.new []
      → (reason ≡ read.InputFault → Rose (o.old.in_faults journal) (o.new.in_faults journal)) → LooksInto journal out due o
  looks_unread reason fault words is told stays rose = by reason (subst (λ f. o.end ≡ Told f) words is) (subst (λ f. IsTold f o) words told) rose
    where
      by : (reason : ReadFault) → o.end ≡ Told (fault_of_reading reason) → IsTold (fault_of_reading reason) o
          → (reason ≡ read.InputFault → Rose (o.old.in_faults journal) (o.new.in_faults journal)) → LooksInto journal out due o
      by read.InputFault is told rose = looks_told Input is told tt stays (λ same. rose refl) (λ other. absurd (other refl))
      by read.NoMemory is told rose = looks_told Memory is told tt stays (λ same. cc) (λ other more. absurd (more refl))

  -- its bytes are not taken
  pub looks_untaken : (limits : Limits) (mid : RoomView) (bytes : List ℕ) (reason : OpenFault) (fault : Fault) → fault ≡ fault_of_look reason
      → o.end ≡ Told fault → IsTold fault o → reason ≢ opening.OldVersion → SameBut o.old mid [] → SameBut mid o.new []
      → (o.old.tells ≡ true → o.old.file journal ≡ Some bytes) → IsUnopened limits bytes reason → limits ≡ journal_limits o.old → LooksInto journal out due o
  looks_untaken limits mid bytes reason fault words is told current first second there unopened same_limits =
      looks_told (fault_of_look reason) (subst (λ f. o.end ≡ Told f) words is) (subst (λ f. IsTold f o) words told) (ends_untaken reason current)
      (same_but_then o.old mid o.new [] first second) (λ same. absurd (untaken_not_input reason same))
      (λ other more tells. subst (λ file. IsSomeAnd file (λ bytes. WhyUntaken (journal_limits o.old) bytes (fault_of_look reason))) (sym (there tells))
      (record { reason = reason; is = refl; so = subst (λ l. IsUnopened l bytes reason) same_limits unopened }))

  module _ (limits : Limits) (mid : RoomView) (bytes : List ℕ) (same_limits : limits ≡ journal_limits o.old) (stays : SameBut o.old mid [])
      (there : o.old.tells ≡ true → o.old.file journal ≡ Some bytes) where
    fits : (entries : List Entry) → HasHistory entries bytes → IsWithin limits entries → o.old.tells ≡ true → IsSomeAnd (o.old.file journal) (HasFittingHistory o.old)
    fits entries has within tells =
        subst (λ file. IsSomeAnd file (HasFittingHistory o.old)) (sym (there tells))
        (fitting_history o.old entries bytes has (subst (λ l. IsWithin l entries) same_limits within))

    -- any history of the file is one of the bytes that were read
    had : (others : List ℕ) (entries : List Entry) → o.old.tells ≡ true → o.old.file journal ≡ Some others → HasHistory entries others → HasHistory entries bytes
    had others entries tells at has = subst (HasHistory entries) (sym (same_bytes bytes others (sym (there tells) ∙ at))) has

    -- the output was written, or it could not be, or memory ran out before it was begun
    pub looks_output : {T : Type 0} → (written : Result T WriteFault) → IsLooked limits bytes out due mid o.new written → OnOk written (o.end ≡ Done)
        → (written ≡ Err OutputFault → o.end ≡ out_unwritten) → (written ≡ Err NoMemory → o.end ≡ Told Memory) → (written ≡ Err NoMemory → IsTold Memory o)
        → ((written ≡ Err NoMemory → ⊥) → IsSilent o) → LooksInto journal out due o
    looks_output (Ok value) l done failed memory told silent = record {
      ends = subst EndsLooking (sym done) tt;
      told = λ why also. absurd (told_not_done o.end why also done);
      untouched = λ why also. absurd (told_not_done o.end why also done);
      so = λ why also. absurd (told_not_done o.end why also done);
      silent = λ untold. silent (λ e. cc);
      input = λ also. absurd (told_not_done o.end Input also done);
      out_cause = λ also. absurd (done_not_unwritten o.end Out done also);
      history = λ untold tells. fits l.entries l.history l.within tells;
      whole = λ others entries also tells at has.
          due_of_any (λ whole. o.new.file out ≡ Some whole) due entries l.entries bytes (had others entries tells at has) l.history (l.whole (stays.tells ∙ tells));
      part = λ others entries also. absurd (done_not_unwritten o.end Out done also);
    }
    looks_output (Err OutputFault) l done failed memory told silent =
        let is = failed refl in
        record {
          ends = subst EndsLooking (sym is) tt;
          told = λ why also. absurd (told_not_unwritten o.end why Out also is);
          untouched = λ why also. absurd (told_not_unwritten o.end why Out also is);
          so = λ why also. absurd (told_not_unwritten o.end why Out also is);
          silent = λ untold. silent (λ e. cc);
          input = λ also. absurd (told_not_unwritten o.end Input Out also is);
          out_cause = λ also. rose_since _ _ _ (stays.outs out) (l.output.cause.failed refl);
          history = λ untold tells. fits l.entries l.history l.within tells;
          whole = λ others entries also. absurd (done_not_unwritten o.end Out also is);
          part = λ others entries also tells at has.
              due_of_any (IsOutputLeft o.old o.new out) due entries l.entries bytes (had others entries tells at has) l.history
              (left_since o.old mid o.new out (due l.entries) [] tt stays (l.output.left (stays.tells ∙ tells)));
        }
    looks_output (Err NoMemory) l done failed memory told silent =
        looks_told Memory (memory refl) (told refl) tt (same_but_then o.old mid o.new [] stays (l.unbegun refl)) (λ same. cc) (λ other more. absurd (more refl))
