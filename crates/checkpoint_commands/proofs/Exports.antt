-- How the outputs of a state are made from a checkpoint on, and how the command ends that does it, from what the steps say.
use Rattle.std.proofs.Common.{◌≡◌, ◌≢◌, ◌∙◌, ◌⊎◌, inl, inr, ⊎_elim, ℕ, true, List, [], ◌∷◌, length, Option, Some, Result, Ok, Err, refl, sym, ap, subst}
use Rattle.std.specs.Prelude.{IfSome, IsSome, IsErrOf}
use Rattle.std.specs.Io.KnownBytes.{Appends}
use Rattle.std.proofs.Math.Logic.{∥∥₁_elim}
use Rattle.std.specs.Coded.{Coded-set, coded_ℕ, coded_list}
use Rattle.marc_types.specs.declared.entry.Entry.{Entry}
use Rattle.outside.specs.Disk.{DiskView}
use Rattle.outside.specs.Fault.{Rose}
use Rattle.outside.specs.Room.{RoomView, IsNoneOf, SameBut, bytes_or_none}
use Rattle.outside.specs.Sink.{WritesFront}
use Rattle.outside.proofs.Rooms.{same_but_itself, same_but_then, same_but_first, same_but_more}
use Rattle.entry_record.specs.History.{IsWithin}
use Rattle.catalogue_rules.specs.State.{State}
use Rattle.catalogue_rules.specs.Settle.{state_of}
use Rattle.catalogue_rules.specs.Output.{all_keys, export_of, report_of}
use Rattle.catalogue_core.specs.Engines.{Engined}
use Rattle.durable_catalogue.specs.Logs.{IsLogOf, HasHistory}
use Rattle.durable_catalogue.specs.declared.fault.OpenFault.{OpenFault}
use Rattle.durable_catalogue.specs.declared.fault.OpenFault.TheVariants as opening
use Rattle.console_lines.specs.Ends.{Outcome, IsTold, IsSilent, out_unwritten, side_unwritten, console_unwritten}
use Rattle.console_lines.specs.Lines.{resumed_line}
use Rattle.console_lines.specs.declared.end.End.TheVariants.{Done, Told, Unwritten as Missed}
use Rattle.console_lines.specs.declared.end.Unwritten.{Unwritten as Output}
use Rattle.console_lines.specs.declared.end.Unwritten.TheVariants.{Out, Side, Console}
use Rattle.console_lines.proofs.Ends.{told_once, told_not_done, told_not_unwritten, done_not_unwritten, never_told, out_not_console, out_not_side, side_not_console}
use Rattle.output_files.specs.Outputs.{IsOutputLeft}
use Rattle.journal_files.specs.Faults.{fault_of_opening, IsDeviceOf}
use Rattle.journal_files.specs.Journals.{journal_limits, log_bytes, IsRefusedLog, IsClosedDisk, KeepsHistory, Unopened, KeepsLog, IsDurable}
use Rattle.journal_files.proofs.Histories.{reading_once, fitting_history}
use Rattle.journal_files.proofs.Journals.{closed_keeps, closed_durable, keeps_where}
use Rattle.checkpoint.specs.declared.point.Point.{Point}
use Rattle.restoring.specs.Resuming.{IsResumed, IsOfHistory}
use Rattle.restoring.proofs.Taking.{unspared_state}
use Rattle.restoring.specs.declared.resuming.Restored.{Restored}
use Rattle.checkpoint_commands.specs.PointLogs.{IsPointLog}
use Rattle.checkpoint_commands.specs.Refusals.{IsJournalRefused, IsPointRefused, IsRefusedBehind}
use Rattle.checkpoint_commands.specs.Quick.{EndsQuick, IsStateFrom, IsResumedFrom, IsExported, ExportsQuickly}
use Rattle.checkpoint_commands.specs.Exporting.{outputs_of, AreOutputsOf, AreUnwrittenOf, AtOut, AtReport, KeepsPoint, IsMadeFrom, IsWrittenFrom, IsUnwrittenFrom, IsNotWrittenFrom}
use Rattle.checkpoint_commands.specs.declared.quick.QuickFault.{QuickFault}
use Rattle.checkpoint_commands.specs.declared.quick.QuickFault.TheVariants.{Refused, Unwritten}
use Rattle.checkpoint_commands.proofs.Over.{none_of_one, apart_all, untouched_but, bytes_first, bytes_last, refused_across, keeps_across}
use Rattle.checkpoint_commands.proofs.Endings.{journal_refused}
use Rattle.checkpoint_commands.proofs.Written.{first_of, second_of, unwritten_since, outputs_since, left_over, rose_over}

-- the state that a history makes that was resumed
pub made_of_restored : (last : Option Point) (history : List Entry) (r : Restored) → IsResumed last history r
    → (IsOfHistory last history → r.engine.state ≡ state_of history) → IsStateFrom history last r.taken r.engine.state
made_of_restored last history r is whole =
    let made = ap (λ (e : Engined). e.state) is.engine_is in
    record { begun = is.begun; begins = is.begins; is = made; whole = whole; unspared = unspared_state history last r.taken is.begun r.engine.state is.begins made }

pub ok_not_err : {T E : Type 0} (result : Result T E) (value : T) (error : E) → result ≡ Ok value → result ≡ Err error → ⊥
ok_not_err {T} {E} result value error is also = let both : Ok value ≡ Err error = sym is ∙ also in cc

-- memory ran out behind the log of checkpoints
pub refused_memory : (old new : RoomView) (point : List ℕ) → (old.tells ≡ true → KeepsHistory ⊥ old new point) → IsPointRefused old new point opening.NoMemory
refused_memory old new point keeps = record { so = λ tells. tt; kept = λ device memory. absurd (memory refl); alone = λ device. keeps; cause = λ device. cc }

-- the log of checkpoints was read, and then the outputs were written, or not
module _ (point : List ℕ) (outs : List (List ℕ)) (differ : IsNoneOf point outs) (old read new : RoomView) (first : SameBut old read (point ∷ []))
    (second : SameBut read new outs) where
  pub apart_from : SameBut old new (point ∷ outs)
  apart_from =
      same_but_then old read new (point ∷ outs) (same_but_first old read point outs first)
      (same_but_more read new outs (point ∷ outs) (λ n other. other.1) second)

  pub bytes_from : log_bytes read point ≡ log_bytes old point → log_bytes new point ≡ log_bytes old point
  bytes_from same = ap bytes_or_none (second.files point differ) ∙ same

  pub keeps_from : (failed : Type 0) → KeepsHistory failed old read point → KeepsHistory failed old new point
  keeps_from failed keeps = keeps_across outs point differ old old read new (same_but_itself old outs) second failed keeps

  pub kept_from : {T : Type 0} (result : Result T QuickFault) (failed : Type 0) → (failed → IsErrOf result (Refused opening.DeviceFault))
      → log_bytes read point ≡ log_bytes old point → KeepsHistory failed old read point → KeepsPoint old new point result
  kept_from result failed also same keeps = record {
    bytes = bytes_from same;
    keeps = keeps_where failed (IsErrOf result (Refused opening.DeviceFault)) old new point also (keeps_from failed keeps);
  }

-- and what is there then
module _ (point out : List ℕ) (report : Option (List ℕ)) (differ : IsNoneOf point (outputs_of out report)) (old read new : RoomView)
    (first : SameBut old read (point ∷ [])) (last : Option Point) (history : List Entry) (r : Restored) (was : old.tells ≡ true → IsPointLog last (log_bytes old point))
    (is : IsResumed last history r) (whole : IsOfHistory last history → r.engine.state ≡ state_of history) where
  made_from : old.tells ≡ true → IsMadeFrom history point old r.taken r.engine.state
  made_from tells = record { last = last; was = was tells; is_state = made_of_restored last history r is whole }

  pub written_from : (read.tells ≡ true → AreOutputsOf r.engine.state out report new) → IsWrittenFrom history point out report old new r.taken
  written_from outputs = record { state = r.engine.state; made = made_from; outputs = λ tells. outputs (first.tells ∙ tells) }

  pub unwritten_from : (which : Output) → AreUnwrittenOf (out ∷ []) r.engine.state out report read new which
      → IsUnwrittenFrom history point out report old new which
  unwritten_from which stopped = record {
    taken = r.taken;
    state = r.engine.state;
    made = made_from;
    unwritten = unwritten_since r.engine.state point out report old read new which differ first stopped;
  }

-- a fault that is handed on
pub handed_on : {T U : Type 0} (result : Result T OpenFault) (fault : OpenFault) → result ≡ Err fault → IsErrOf result opening.DeviceFault
    → IsErrOf {T = U} {E = QuickFault} (Err (Refused fault)) (Refused opening.DeviceFault)
handed_on {T} {U} result fault err device =
    let both : Err fault ≡ Err opening.DeviceFault = sym err ∙ device in
    let same : fault ≡ opening.DeviceFault = cc in
    ap (λ f. Err (Refused f)) same

-- memory ran out behind a log of checkpoints that was read
pub memory_refused : {T : Type 0} (result : Result T OpenFault) (value : T) (old new : RoomView) (point : List ℕ) → result ≡ Ok value
    → (old.tells ≡ true → KeepsHistory (IsErrOf result opening.DeviceFault) old new point) → IsPointRefused old new point opening.NoMemory
memory_refused result value old new point is keeps =
    refused_memory old new point
    (λ tells. keeps_where (IsErrOf result opening.DeviceFault) ⊥ old new point (λ failed. ok_not_err result value opening.DeviceFault is failed) (keeps tells))

quick_ends : (report : Option (List ℕ)) (reason : OpenFault) → EndsQuick report (Told (fault_of_opening reason))
quick_ends report opening.DeviceFault = tt
quick_ends report (opening.NotAJournal place) = tt
quick_ends report opening.OldVersion = tt
quick_ends report opening.Full = tt
quick_ends report opening.NoMemory = tt

-- a fault was told
module _ (journal point out : List ℕ) (report : Option (List ℕ)) (o : Outcome) (reason : OpenFault) (is : o.end ≡ Told (fault_of_opening reason))
    (told : IsTold (fault_of_opening reason) o) where
  other_end : (which : Output) → o.end ≡ Missed which → ⊥
  other_end which also = told_not_unwritten o.end (fault_of_opening reason) which is also

  pub quick_fault : (o.old.tells ≡ true → KeepsHistory (IsDeviceOf o journal) o.old o.new journal)
      → (o.old.tells ≡ true → KeepsHistory (IsDeviceOf o point) o.old o.new point)
      → (o.old.tells ≡ true → log_bytes o.new point ≡ log_bytes o.old point)
      → IsJournalRefused journal (fault_of_opening reason) o.old o.new ⊎ IsRefusedBehind journal point (fault_of_opening reason) o.old o.new
      → ExportsQuickly journal point out report o
  quick_fault keeps point_keeps same refused = record {
    ends = subst (EndsQuick report) (sym is) (quick_ends report reason);
    keeps = keeps;
    point_keeps = point_keeps;
    point_bytes = same;
    told = λ why also. subst (λ w. IsTold w o × (IsJournalRefused journal w o.old o.new ⊎ IsRefusedBehind journal point w o.old o.new))
        (told_once o.end (fault_of_opening reason) why is also) (told, refused);
    exported = λ untold. absurd (never_told o.end (fault_of_opening reason) untold is);
    durable = λ untold. absurd (never_told o.end (fault_of_opening reason) untold is);
    whole = λ entries untold. absurd (never_told o.end (fault_of_opening reason) untold is);
    whole_report = λ entries untold. absurd (never_told o.end (fault_of_opening reason) untold is);
    no_report = λ also. absurd (other_end Out also);
    silent = λ either. ⊎_elim (λ also. absurd (other_end Out also)) (λ also. absurd (other_end Side also)) either;
    out_cause = λ also. absurd (other_end Out also);
    report_cause = λ also. absurd (other_end Side also);
    console = λ also. absurd (other_end Console also);
  }

  -- the journal was not opened
  pub quick_unopened : journal ≢ point → reason ≢ opening.OldVersion → SameBut o.old o.new (journal ∷ []) → IsRefusedLog o.old o.new journal reason
      → ExportsQuickly journal point out report o
  quick_unopened differ current apart refused =
      quick_fault
      (λ tells. keeps_where (reason ≡ opening.DeviceFault) (IsDeviceOf o journal) o.old o.new journal
      (λ device. (is ∙ ap (λ r. Told (fault_of_opening r)) device, refused.cause device)) (refused.keeps tells))
      (λ tells. Unopened (untouched_but o.old o.new journal point differ apart))
      (λ tells. ap bytes_or_none (untouched_but o.old o.new journal point differ apart).file)
      (inl (journal_refused o.old o.new journal reason current apart refused))

-- where the checkpoint is its own, what is made of the state is what is made of that of the whole history
bytes_of_own : (made : State → List ℕ) (journal point : List ℕ) (room : RoomView) (r : IsResumedFrom journal point room) (entries : List Entry)
    → HasHistory entries (log_bytes room journal) → ((last : Option Point) → IsPointLog last (log_bytes room point) → IsOfHistory last entries)
    → made r.state ≡ made (state_of entries)
bytes_of_own made journal point room r entries has own =
    ∥∥₁_elim has (Coded-set (coded_list coded_ℕ) _ _) (λ (is : IsLogOf entries (log_bytes room journal)). ∥∥₁_elim r.has (Coded-set (coded_list coded_ℕ) _ _)
    (λ (too : IsLogOf r.history (log_bytes room journal)).
    let one : entries ≡ r.history = reading_once entries r.history (log_bytes room journal) is too in
    ap made (r.is_state.whole (subst (IsOfHistory r.last) one (own r.last r.was))) ∙ ap (λ es. made (state_of es)) (sym one)))

-- so OUT has the whole history's export, and REPORT its report
module _ (journal point out : List ℕ) (report : Option (List ℕ)) (o : Outcome) (e : IsExported journal point out report o) (entries : List Entry)
    (has : HasHistory entries (log_bytes o.old journal)) (own : (last : Option Point) → IsPointLog last (log_bytes o.old point) → IsOfHistory last entries) where
  whole_of : o.end ≢ out_unwritten → o.new.file out ≡ Some (export_of all_keys (state_of entries))
  whole_of written = e.file written ∙ ap (λ bytes. Some bytes) (bytes_of_own (export_of all_keys) journal point o.old e.resumed entries has own)

  whole_report_of : o.end ≢ out_unwritten → o.end ≢ side_unwritten → IfSome report (λ name. o.new.file name ≡ Some (report_of (state_of entries)))
  whole_report_of written reported =
      subst (λ bytes. IfSome report (λ name. o.new.file name ≡ Some bytes)) (bytes_of_own report_of journal point o.old e.resumed entries has own)
      (e.report_file written reported)

-- the journal was opened, and the outputs were written from POINT on or not, and the journal was closed again
module _ (journal point out : List ℕ) (report : Option (List ℕ)) (differ : journal ≢ point) (apart_outs : IsNoneOf journal (outputs_of out report)) (o : Outcome)
    (opened mid : RoomView) (disk : DiskView) (history taken_history : List Entry) (same : history ≡ taken_history) (result : Result ℕ QuickFault)
    (first : SameBut o.old opened (journal ∷ [])) (second : SameBut opened mid (point ∷ outputs_of out report)) (last : SameBut mid o.new (journal ∷ []))
    (took : o.old.tells ≡ true → HasHistory taken_history (log_bytes o.old journal)) (fitting : IsWithin (journal_limits o.old) taken_history)
    (kept : o.old.tells ≡ true → KeepsLog (log_bytes o.old journal) disk) (log : mid.tells ≡ true → IsClosedDisk disk o.new journal)
    (keeps_point : opened.tells ≡ true → KeepsPoint opened mid point result) where
  has : o.old.tells ≡ true → HasHistory history (log_bytes o.old journal)
  has tells = subst (λ es. HasHistory es (log_bytes o.old journal)) (sym same) (took tells)

  within : IsWithin (journal_limits o.old) history
  within = subst (IsWithin (journal_limits o.old)) (sym same) fitting

  keeps_journal : (failed : Type 0) → o.old.tells ≡ true → KeepsHistory failed o.old o.new journal
  keeps_journal failed tells = closed_keeps o.old o.new journal disk (log (second.tells ∙ first.tells ∙ tells)) failed (kept tells)

  durable_journal : o.old.tells ≡ true → IsDurable o.new journal
  durable_journal tells = closed_durable o.old o.new journal disk (log (second.tells ∙ first.tells ∙ tells)) (log_bytes o.old journal) (kept tells)

  other : IsNoneOf point (journal ∷ [])
  other = none_of_one differ

  bytes_opened : log_bytes opened point ≡ log_bytes o.old point
  bytes_opened = bytes_first (journal ∷ []) point other o.old opened mid o.new first last

  same_point : o.old.tells ≡ true → log_bytes o.new point ≡ log_bytes o.old point
  same_point tells =
      bytes_last (journal ∷ []) point other o.old opened mid o.new first last ∙ (keeps_point (first.tells ∙ tells)).bytes ∙ bytes_opened

  keeps_log : (failed : Type 0) → (IsErrOf result (Refused opening.DeviceFault) → failed) → o.old.tells ≡ true → KeepsHistory failed o.old o.new point
  keeps_log failed also tells =
      keeps_where (IsErrOf result (Refused opening.DeviceFault)) failed o.old o.new point also
      (keeps_across (journal ∷ []) point other o.old opened mid o.new first last (IsErrOf result (Refused opening.DeviceFault)) (keeps_point (first.tells ∙ tells)).keeps)

  resumed_from : (taken : ℕ) (state : State) → IsMadeFrom history point opened taken state → o.old.tells ≡ true → IsResumedFrom journal point o.old
  resumed_from taken state made tells = record {
    history = history;
    has = has tells;
    within = within;
    last = made.last;
    was = subst (IsPointLog made.last) bytes_opened made.was;
    taken = taken;
    state = state;
    is_state = made.is_state;
  }

  pub quick_refused : (reason : OpenFault) → result ≡ Err (Refused reason) → o.end ≡ Told (fault_of_opening reason) → IsTold (fault_of_opening reason) o
      → IsNotWrittenFrom history point out report opened mid (Refused reason) → ExportsQuickly journal point out report o
  quick_refused reason err is told refused =
      quick_fault journal point out report o reason is told (keeps_journal (IsDeviceOf o journal)) (keeps_log (IsDeviceOf o point) device) same_point (inr (record {
        history = λ tells. fitting_history o.old history (log_bytes o.old journal) (has tells) within;
        reason = reason;
        is = refl;
        refused = across;
        apart = same_but_then o.old opened o.new (journal ∷ point ∷ []) (same_but_first o.old opened journal (point ∷ []) first)
            (same_but_then opened mid o.new (journal ∷ point ∷ []) (same_but_more opened mid (point ∷ []) (journal ∷ point ∷ []) (λ n other. other.1) refused.1)
            (same_but_first mid o.new journal (point ∷ []) last));
      }))
    where
      across : IsPointRefused o.old o.new point reason
      across = refused_across (journal ∷ []) point other o.old opened mid o.new first last reason refused.0

      device : IsErrOf result (Refused opening.DeviceFault) → IsDeviceOf o point
      device failed =
          let both : Err (Refused reason) ≡ Err (Refused opening.DeviceFault) = sym err ∙ failed in
          let one : reason ≡ opening.DeviceFault = cc in
          (is ∙ ap (λ r. Told (fault_of_opening r)) one, across.cause one)

  never : (failed : Type 0) (taken : ℕ) → result ≡ Ok taken → IsErrOf result (Refused opening.DeviceFault) → failed
  never failed taken ok err = let both : Ok taken ≡ Err (Refused opening.DeviceFault) = sym ok ∙ err in absurd cc

  module _ (taken : ℕ) (ok : result ≡ Ok taken) (w : IsWrittenFrom history point out report opened mid taken) where
    outputs_are : o.old.tells ≡ true → AreOutputsOf w.state out report o.new
    outputs_are tells = outputs_since w.state journal out report mid o.new apart_outs last (w.outputs (first.tells ∙ tells))

    pub quick_done : (count : ℕ) → count ≡ length history → o.end ≡ Done → Appends o.told o.now (resumed_line taken count)
        → ExportsQuickly journal point out report o
    unfolding resumed_from
    quick_done count counted is line = record {
      ends = subst (EndsQuick report) (sym is) tt;
      keeps = keeps_journal (IsDeviceOf o journal);
      point_keeps = keeps_log (IsDeviceOf o point) (never (IsDeviceOf o point) taken ok);
      point_bytes = same_point;
      told = λ why also. absurd (told_not_done o.end why also is);
      exported = λ untold. exported;
      durable = λ untold. durable_journal;
      whole = λ entries untold written tells has own. whole_of journal point out report o (exported tells) entries has own written;
      whole_report = λ entries untold written reported tells has own. whole_report_of journal point out report o (exported tells) entries has own written reported;
      no_report = λ also. absurd (done_not_unwritten o.end Out is also);
      silent = λ either. ⊎_elim (λ also. absurd (done_not_unwritten o.end Out is also)) (λ also. absurd (done_not_unwritten o.end Side is also)) either;
      out_cause = λ also. absurd (done_not_unwritten o.end Out is also);
      report_cause = λ also. absurd (done_not_unwritten o.end Side is also);
      console = λ also. absurd (done_not_unwritten o.end Console is also);
    }
      where
        exported : o.old.tells ≡ true → IsExported journal point out report o
        exported tells = record {
          resumed = resumed_from taken w.state (w.made (first.tells ∙ tells)) tells;
          file = λ written. (outputs_are tells).export;
          part = λ also. absurd (done_not_unwritten o.end Out is also);
          report_file = λ written reported. (outputs_are tells).report_is;
          report_part = λ also. absurd (done_not_unwritten o.end Side is also);
          line = λ done. subst (λ n. Appends o.told o.now (resumed_line taken n)) counted line;
          front = λ also. absurd (done_not_unwritten o.end Console is also);
        }

    pub quick_untold : (count : ℕ) → count ≡ length history → o.end ≡ console_unwritten → WritesFront o.told o.now (resumed_line taken count)
        → Rose o.faults o.faults_now → ExportsQuickly journal point out report o
    unfolding resumed_from
    quick_untold count counted is front rose = record {
      ends = subst (EndsQuick report) (sym is) tt;
      keeps = keeps_journal (IsDeviceOf o journal);
      point_keeps = keeps_log (IsDeviceOf o point) (never (IsDeviceOf o point) taken ok);
      point_bytes = same_point;
      told = λ why also. absurd (told_not_unwritten o.end why Console also is);
      exported = λ untold. exported;
      durable = λ untold. durable_journal;
      whole = λ entries untold written tells has own. whole_of journal point out report o (exported tells) entries has own written;
      whole_report = λ entries untold written reported tells has own. whole_report_of journal point out report o (exported tells) entries has own written reported;
      no_report = λ also. absurd (out_not_console o.end also is);
      silent = λ either. ⊎_elim (λ also. absurd (out_not_console o.end also is)) (λ also. absurd (side_not_console o.end also is)) either;
      out_cause = λ also. absurd (out_not_console o.end also is);
      report_cause = λ also. absurd (side_not_console o.end also is);
      console = λ also. rose;
    }
      where
        exported : o.old.tells ≡ true → IsExported journal point out report o
        exported tells = record {
          resumed = resumed_from taken w.state (w.made (first.tells ∙ tells)) tells;
          file = λ written. (outputs_are tells).export;
          part = λ also. absurd (out_not_console o.end also is);
          report_file = λ written reported. (outputs_are tells).report_is;
          report_part = λ also. absurd (side_not_console o.end also is);
          line = λ done. absurd (done_not_unwritten o.end Console done is);
          front = λ also. subst (λ n. WritesFront o.told o.now (resumed_line taken n)) counted front;
        }

  never_of : (which : Output) (failed : Type 0) → result ≡ Err (Unwritten which) → IsErrOf result (Refused opening.DeviceFault) → failed
  never_of which failed err refused = let both : Err (Unwritten which) ≡ Err (Refused opening.DeviceFault) = sym err ∙ refused in absurd cc

  -- OUT couldn't be written
  quick_in_out : (taken : ℕ) (state : State) → (opened.tells ≡ true → IsMadeFrom history point opened taken state) → result ≡ Err (Unwritten Out) → o.end ≡ out_unwritten → IsSilent o
      → Rose (opened.out_faults out) (mid.out_faults out) → (opened.tells ≡ true → IsOutputLeft opened mid out (export_of all_keys state))
      → SameBut opened mid (point ∷ out ∷ []) → ExportsQuickly journal point out report o
  unfolding resumed_from
  quick_in_out taken state made err is silent rose left apart = record {
    ends = subst (EndsQuick report) (sym is) tt;
    keeps = keeps_journal (IsDeviceOf o journal);
    point_keeps = keeps_log (IsDeviceOf o point) (never_of Out (IsDeviceOf o point) err);
    point_bytes = same_point;
    told = λ why also. absurd (told_not_unwritten o.end why Out also is);
    exported = λ untold tells. record {
      resumed = resumed_from taken state (made (first.tells ∙ tells)) tells;
      file = λ written. absurd (written is);
      part = λ also. left_over journal out (first_of journal out report apart_outs) o.old opened mid o.new first last (export_of all_keys state) (left (first.tells ∙ tells));
      report_file = λ written. absurd (written is);
      report_part = λ also. absurd (out_not_side o.end is also);
      line = λ done. absurd (done_not_unwritten o.end Out done is);
      front = λ also. absurd (out_not_console o.end is also);
    };
    durable = λ untold. durable_journal;
    whole = λ entries untold written. absurd (written is);
    whole_report = λ entries untold written. absurd (written is);
    no_report = λ also. apart_all o.old opened mid o.new journal (point ∷ out ∷ []) first apart last;
    silent = λ either. silent;
    out_cause = λ also. rose_over (o.old.out_faults out) (opened.out_faults out) (mid.out_faults out) (o.new.out_faults out) (first.outs out) rose (last.outs out);
    report_cause = λ also. absurd (out_not_side o.end is also);
    console = λ also. absurd (out_not_console o.end is also);
  }

  -- or REPORT couldn't, behind it
  quick_in_report : (taken : ℕ) (state : State) → (opened.tells ≡ true → IsMadeFrom history point opened taken state) → result ≡ Err (Unwritten Side) → o.end ≡ side_unwritten → IsSilent o
      → (name : List ℕ) → report ≡ Some name → Rose (opened.out_faults name) (mid.out_faults name)
      → (opened.tells ≡ true → mid.file out ≡ Some (export_of all_keys state)) → (opened.tells ≡ true → IsOutputLeft opened mid name (report_of state))
      → ExportsQuickly journal point out report o
  unfolding resumed_from
  quick_in_report taken state made err is silent name asked rose whole left = record {
    ends = subst (EndsQuick report) (sym is) (subst IsSome (sym asked) refl);
    keeps = keeps_journal (IsDeviceOf o journal);
    point_keeps = keeps_log (IsDeviceOf o point) (never_of Side (IsDeviceOf o point) err);
    point_bytes = same_point;
    told = λ why also. absurd (told_not_unwritten o.end why Side also is);
    exported = λ untold. exported;
    durable = λ untold. durable_journal;
    whole = λ entries untold written tells has own. whole_of journal point out report o (exported tells) entries has own written;
    whole_report = λ entries untold written reported. absurd (reported is);
    no_report = λ also. absurd (out_not_side o.end also is);
    silent = λ either. silent;
    out_cause = λ also. absurd (out_not_side o.end also is);
    report_cause = λ also. subst (λ r. IfSome r (λ n. Rose (o.old.out_faults n) (o.new.out_faults n))) (sym asked)
        (rose_over (o.old.out_faults name) (opened.out_faults name) (mid.out_faults name) (o.new.out_faults name) (first.outs name) rose (last.outs name));
    console = λ also. absurd (side_not_console o.end is also);
  }
    where
      exported : o.old.tells ≡ true → IsExported journal point out report o
      exported tells = record {
        resumed = resumed_from taken state (made (first.tells ∙ tells)) tells;
        file = λ written. last.files out (none_of_one (first_of journal out report apart_outs)) ∙ whole (first.tells ∙ tells);
        part = λ also. absurd (out_not_side o.end also is);
        report_file = λ written reported. absurd (reported is);
        report_part = λ also. subst (λ r. IfSome r (λ n. IsOutputLeft o.old o.new n (report_of state))) (sym asked)
            (left_over journal name (second_of journal out name report asked apart_outs) o.old opened mid o.new first last (report_of state) (left (first.tells ∙ tells)));
        line = λ done. absurd (done_not_unwritten o.end Side done is);
        front = λ also. absurd (side_not_console o.end is also);
      }

  quick_unwritten : (which : Output) → result ≡ Err (Unwritten which) → o.end ≡ Missed which → IsSilent o → (w : IsUnwrittenFrom history point out report opened mid which)
      → AreUnwrittenOf (point ∷ out ∷ []) w.state out report opened mid which → ExportsQuickly journal point out report o
  quick_unwritten which err is silent w (AtOut at rose left apart) =
      quick_in_out w.taken w.state w.made (err ∙ ap (λ u. Err (Unwritten u)) at) (is ∙ ap Missed at) silent rose left apart
  quick_unwritten which err is silent w (AtReport name asked at rose whole left) =
      quick_in_report w.taken w.state w.made (err ∙ ap (λ u. Err (Unwritten u)) at) (is ∙ ap Missed at) silent name asked rose whole left

  -- they aren't there, and the command ends by why
  pub quick_stopped : (fault : QuickFault) → result ≡ Err fault
      → ((why : OpenFault) → fault ≡ Refused why → o.end ≡ Told (fault_of_opening why)) → ((why : OpenFault) → fault ≡ Refused why → IsTold (fault_of_opening why) o)
      → ((which : Output) → fault ≡ Unwritten which → o.end ≡ Missed which) → ((which : Output) → fault ≡ Unwritten which → IsSilent o)
      → IsNotWrittenFrom history point out report opened mid fault → ExportsQuickly journal point out report o
  quick_stopped (Refused why) err end told unwritten silent w = quick_refused why err (end why refl) (told why refl) w
  quick_stopped (Unwritten which) err end told unwritten silent w = quick_unwritten which err (unwritten which refl) (silent which refl) w w.unwritten
