-- How the command ends that puts a checkpoint behind those of a log, from what its steps say.
use Rattle.std.proofs.Common.{◌≡◌, ◌≢◌, ◌∙◌, ◌⊎◌, inl, inr, ℕ, true, List, [], ◌∷◌, ◌++◌, length, Option, Result, Err, refl, sym, ap, subst, append-nil}
use Rattle.std.specs.Prelude.{IsErrOf}
use Rattle.std.specs.Io.KnownBytes.{Appends}
use Rattle.marc_types.specs.declared.entry.Entry.{Entry}
use Rattle.outside.specs.Disk.{DiskView}
use Rattle.outside.specs.Fault.{Rose}
use Rattle.outside.specs.Room.{RoomView, SameBut}
use Rattle.outside.specs.Sink.{WritesFront}
use Rattle.entry_record.specs.History.{IsWithin}
use Rattle.catalogue_core.specs.Catalogues.{Catalogued, all_entries}
use Rattle.durable_catalogue.specs.Logs.{HasHistory}
use Rattle.durable_catalogue.specs.declared.fault.OpenFault.{OpenFault}
use Rattle.durable_catalogue.specs.declared.fault.OpenFault.TheVariants as opening
use Rattle.console_lines.specs.Ends.{Outcome, IsTold, console_unwritten}
use Rattle.console_lines.specs.Lines.{checkpoint_line}
use Rattle.console_lines.specs.declared.end.End.TheVariants.{Done, Told}
use Rattle.console_lines.specs.declared.end.Unwritten.TheVariants.{Console}
use Rattle.console_lines.specs.declared.fault.Fault.TheVariants.{Device, OldVersion}
use Rattle.console_lines.proofs.Ends.{told_once, told_not_done, told_not_unwritten, done_not_unwritten, never_told}
use Rattle.journal_files.specs.Faults.{fault_of_opening, IsDeviceOf}
use Rattle.journal_files.specs.Journals.{journal_limits, log_bytes, IsRefusedLog, IsClosedDisk, KeepsHistory, Unopened, KeepsLog, IsDurable}
use Rattle.journal_files.proofs.Faults.{opening_device}
use Rattle.journal_files.proofs.Journals.{closed_keeps, closed_durable, keeps_where}
use Rattle.journal_files.proofs.Histories.{fitting_history}
use Rattle.checkpoint.specs.declared.point.Point.{Point}
use Rattle.checkpoint_commands.specs.PointLogs.{IsPointLog}
use Rattle.checkpoint_commands.specs.Refusals.{IsJournalRefused, IsPointRefused, IsRefusedBehind}
use Rattle.checkpoint_commands.specs.Rooms.{PutsBehind, IsPutBehind}
use Rattle.checkpoint_commands.specs.Checkpoints.{EndsCheckpoint, PutsHistory, Untouched, Behind, Checkpoints}
use Rattle.checkpoint_commands.proofs.Over.{none_of_one, untouched_but, bytes_first, puts_across, put_across, keeps_across, refused_across}

pub opening_old : (reason : OpenFault) → fault_of_opening reason ≡ OldVersion → reason ≡ opening.OldVersion
opening_old opening.DeviceFault is = cc
opening_old (opening.NotAJournal place) is = cc
opening_old opening.OldVersion is = refl
opening_old opening.Full is = cc
opening_old opening.NoMemory is = cc

-- a journal that was not opened, in the console's words
pub journal_refused : (old new : RoomView) (journal : List ℕ) (reason : OpenFault) → reason ≢ opening.OldVersion → SameBut old new (journal ∷ [])
    → IsRefusedLog old new journal reason → IsJournalRefused journal (fault_of_opening reason) old new
journal_refused old new journal reason current apart refused = record {
  unopened = record { reason = reason; is = refl; so = refused.so };
  current = λ is. current (opening_old reason is);
  apart = apart;
  kept = λ other tells. refused.kept tells (λ device. other (ap fault_of_opening device));
  cause = λ is. refused.cause (opening_device reason is);
}

-- a catalogue of which nothing is staged has so many entries as its history
pub counted_history : (core : Catalogued) (history : List Entry) (count : ℕ) → count ≡ length (all_entries core) → core.staged ≡ [] → core.history ≡ history
    → count ≡ length history
counted_history core history count counts none same =
    counts ∙ ap (λ staged. length (core.history ++ staged)) none ∙ ap length (append-nil core.history) ∙ ap length same

-- what is left alone unless a device failed, in the words of the fault that was answered
pub alone_err : {T : Type 0} (result : Result T OpenFault) (reason : OpenFault) (old new : RoomView) (point : List ℕ) → result ≡ Err reason
    → (old.tells ≡ true → ((last : Option Point) → IsPointLog last (log_bytes old point) → ⊥) → KeepsHistory (IsErrOf result opening.DeviceFault) old new point)
    → old.tells ≡ true → ((last : Option Point) → IsPointLog last (log_bytes old point) → ⊥) → KeepsHistory (reason ≡ opening.DeviceFault) old new point
alone_err {T} result reason old new point err alone tells none =
    keeps_where (IsErrOf result opening.DeviceFault) (reason ≡ opening.DeviceFault) old new point
    (λ device. let both : Err reason ≡ Err opening.DeviceFault = sym err ∙ device in cc) (alone tells none)

checkpoint_ends : (reason : OpenFault) → EndsCheckpoint (Told (fault_of_opening reason))
checkpoint_ends opening.DeviceFault = tt
checkpoint_ends (opening.NotAJournal place) = tt
checkpoint_ends opening.OldVersion = tt
checkpoint_ends opening.Full = tt
checkpoint_ends opening.NoMemory = tt

-- a fault was told
module _ (journal point : List ℕ) (o : Outcome) (reason : OpenFault) (is : o.end ≡ Told (fault_of_opening reason)) (told : IsTold (fault_of_opening reason) o) where
  checkpoints_fault : (o.old.tells ≡ true → KeepsHistory (IsDeviceOf o journal) o.old o.new journal) → (o.old.tells ≡ true → PutsHistory journal point o.old o.new)
      → (o.old.tells ≡ true → ((last : Option Point) → IsPointLog last (log_bytes o.old point) → ⊥) → KeepsHistory (IsDeviceOf o point) o.old o.new point)
      → (fault_of_opening reason ≢ Device → o.old.tells ≡ true → KeepsHistory ⊥ o.old o.new point)
      → IsJournalRefused journal (fault_of_opening reason) o.old o.new ⊎ IsRefusedBehind journal point (fault_of_opening reason) o.old o.new
      → Checkpoints journal point o
  checkpoints_fault keeps puts alone unadded refused = record {
    ends = subst EndsCheckpoint (sym is) (checkpoint_ends reason);
    keeps = keeps;
    puts = puts;
    alone = alone;
    unadded = λ why also other. unadded (λ device. other (sym (told_once o.end (fault_of_opening reason) why is also) ∙ device));
    told = λ why also. subst (λ w. IsTold w o × (IsJournalRefused journal w o.old o.new ⊎ IsRefusedBehind journal point w o.old o.new))
        (told_once o.end (fault_of_opening reason) why is also) (told, refused);
    whole = λ untold. absurd (never_told o.end (fault_of_opening reason) untold is);
    durable = λ untold. absurd (never_told o.end (fault_of_opening reason) untold is);
    console = λ also. absurd (told_not_unwritten o.end (fault_of_opening reason) Console is also);
  }

  -- the journal was not opened
  pub checkpoints_unopened : journal ≢ point → reason ≢ opening.OldVersion → SameBut o.old o.new (journal ∷ []) → IsRefusedLog o.old o.new journal reason
      → Checkpoints journal point o
  checkpoints_unopened differ current apart refused =
      checkpoints_fault
      (λ tells. keeps_where (reason ≡ opening.DeviceFault) (IsDeviceOf o journal) o.old o.new journal
      (λ device. (is ∙ ap (λ r. Told (fault_of_opening r)) device, refused.cause device)) (refused.keeps tells))
      (λ tells. Untouched (untouched_but o.old o.new journal point differ apart))
      (λ tells none. Unopened (untouched_but o.old o.new journal point differ apart))
      (λ other tells. Unopened (untouched_but o.old o.new journal point differ apart))
      (inl (journal_refused o.old o.new journal reason current apart refused))

-- the journal was opened, a checkpoint was put behind those of POINT or not, and the journal was closed again
module _ (journal point : List ℕ) (differ : journal ≢ point) (o : Outcome) (opened mid : RoomView) (disk : DiskView) (history : List Entry)
    (first : SameBut o.old opened (journal ∷ [])) (last : SameBut mid o.new (journal ∷ [])) (then : mid.tells ≡ opened.tells)
    (has : o.old.tells ≡ true → HasHistory history (log_bytes o.old journal)) (within : IsWithin (journal_limits o.old) history)
    (kept : o.old.tells ≡ true → KeepsLog (log_bytes o.old journal) disk) (log : mid.tells ≡ true → IsClosedDisk disk o.new journal)
    (puts : opened.tells ≡ true → PutsBehind history opened mid point) where
  keeps_journal : (failed : Type 0) → o.old.tells ≡ true → KeepsHistory failed o.old o.new journal
  keeps_journal failed tells = closed_keeps o.old o.new journal disk (log (then ∙ first.tells ∙ tells)) failed (kept tells)

  durable_journal : o.old.tells ≡ true → IsDurable o.new journal
  durable_journal tells = closed_durable o.old o.new journal disk (log (then ∙ first.tells ∙ tells)) (log_bytes o.old journal) (kept tells)

  puts_history : o.old.tells ≡ true → PutsHistory journal point o.old o.new
  puts_history tells =
      Behind history (has tells) (puts_across (journal ∷ []) point (none_of_one differ) o.old opened mid o.new first last history (puts (first.tells ∙ tells)))
      (durable_journal tells)

  pub checkpoints_refused : (reason : OpenFault) → o.end ≡ Told (fault_of_opening reason) → IsTold (fault_of_opening reason) o
      → SameBut o.old o.new (journal ∷ point ∷ []) → IsPointRefused opened mid point reason
      → (opened.tells ≡ true → ((last : Option Point) → IsPointLog last (log_bytes opened point) → ⊥) → KeepsHistory (reason ≡ opening.DeviceFault) opened mid point)
      → Checkpoints journal point o
  checkpoints_refused reason is told apart refused alone =
      checkpoints_fault journal point o reason is told (keeps_journal (IsDeviceOf o journal)) puts_history
      (λ tells none.
      keeps_where (reason ≡ opening.DeviceFault) (IsDeviceOf o point) o.old o.new point (λ device. (is ∙ ap (λ r. Told (fault_of_opening r)) device, across.cause device))
      (keeps_across (journal ∷ []) point (none_of_one differ) o.old opened mid o.new first last (reason ≡ opening.DeviceFault)
      (alone (first.tells ∙ tells)
      (λ found has. none found (subst (IsPointLog found) (bytes_first (journal ∷ []) point (none_of_one differ) o.old opened mid o.new first last) has)))))
      (λ other tells. across.alone (λ device. other (ap fault_of_opening device)) tells) (inr (record {
        history = λ tells. fitting_history o.old history (log_bytes o.old journal) (has tells) within;
        reason = reason;
        is = refl;
        refused = across;
        apart = apart;
      }))
    where
      across : IsPointRefused o.old o.new point reason
      across = refused_across (journal ∷ []) point (none_of_one differ) o.old opened mid o.new first last reason refused

  module _ (count : ℕ) (counted : count ≡ length history) (put : opened.tells ≡ true → IsPutBehind history opened mid point) where
    is_there : o.old.tells ≡ true → IsPutBehind history o.old o.new point
    is_there tells = put_across (journal ∷ []) point (none_of_one differ) o.old opened mid o.new first last history (put (first.tells ∙ tells))

    pub checkpoints_done : o.end ≡ Done → Appends o.told o.now (checkpoint_line count) → Checkpoints journal point o
    checkpoints_done is line = record {
      ends = subst EndsCheckpoint (sym is) tt;
      keeps = keeps_journal (IsDeviceOf o journal);
      puts = puts_history;
      alone = λ tells none. let there = is_there tells in absurd (none there.last there.was);
      unadded = λ why also. absurd (told_not_done o.end why also is);
      told = λ why also. absurd (told_not_done o.end why also is);
      whole = λ untold tells. record {
        history = history;
        has = has tells;
        within = within;
        put = is_there tells;
        line = λ done. subst (λ n. Appends o.told o.now (checkpoint_line n)) counted line;
        front = λ also. absurd (done_not_unwritten o.end Console is also);
      };
      durable = λ untold. durable_journal;
      console = λ also. absurd (done_not_unwritten o.end Console is also);
    }

    pub checkpoints_unwritten : o.end ≡ console_unwritten → WritesFront o.told o.now (checkpoint_line count) → Rose o.faults o.faults_now → Checkpoints journal point o
    checkpoints_unwritten is front rose = record {
      ends = subst EndsCheckpoint (sym is) tt;
      keeps = keeps_journal (IsDeviceOf o journal);
      puts = puts_history;
      alone = λ tells none. let there = is_there tells in absurd (none there.last there.was);
      unadded = λ why also. absurd (told_not_unwritten o.end why Console also is);
      told = λ why also. absurd (told_not_unwritten o.end why Console also is);
      whole = λ untold tells. record {
        history = history;
        has = has tells;
        within = within;
        put = is_there tells;
        line = λ done. absurd (done_not_unwritten o.end Console done is);
        front = λ also. subst (λ n. WritesFront o.told o.now (checkpoint_line n)) counted front;
      };
      durable = λ untold. durable_journal;
      console = λ also. rose;
    }
