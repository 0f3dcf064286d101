-- How the command ends that exports a journal from a checkpoint on, with the report or without it.
use Rattle.std.specs.Prelude.{◌≡◌, ◌≢◌, ◌⊎◌, ℕ, true, List, [], ◌∷◌, length, Option, Some, IfSome, IsSome}
use Rattle.std.specs.Io.KnownBytes.{Appends}
use Rattle.marc_types.specs.declared.entry.Entry.{Entry}
use Rattle.outside.specs.Fault.{Rose}
use Rattle.outside.specs.Room.{RoomView, SameBut}
use Rattle.outside.specs.Sink.{WritesFront}
use Rattle.entry_record.specs.History.{IsWithin}
use Rattle.catalogue_rules.specs.State.{State}
use Rattle.catalogue_rules.specs.Settle.{state_of}
use Rattle.catalogue_rules.specs.Output.{all_keys, export_of, report_of}
use Rattle.durable_catalogue.specs.Logs.{HasHistory}
use Rattle.console_lines.specs.Ends.{Outcome, IsTold, IsSilent, TellsNoFault, out_unwritten, side_unwritten, console_unwritten}
use Rattle.console_lines.specs.Lines.{resumed_line}
use Rattle.console_lines.specs.declared.end.End.{End}
use Rattle.console_lines.specs.declared.end.End.TheVariants.{Done, Refused, Unwritten, Told, BroughtInPart, Differ}
use Rattle.console_lines.specs.declared.end.Unwritten.TheVariants.{Out, Side, Pages, Console}
use Rattle.console_lines.specs.declared.fault.Fault.{Fault}
use Rattle.console_lines.specs.declared.fault.Fault.TheVariants.{Usage, Input, Device, NotAJournal, Full, Memory, OldVersion, OtherHistory}
use Rattle.output_files.specs.Outputs.{IsOutputLeft}
use Rattle.journal_files.specs.Journals.{journal_limits, log_bytes, KeepsHistory, IsDurable}
use Rattle.journal_files.specs.Faults.{IsDeviceOf}
use Rattle.checkpoint.specs.Resuming.{resumed}
use Rattle.checkpoint.specs.declared.point.Point.{Point}
use Rattle.restoring.specs.Resuming.{BeginsWith, IsOfHistory}
use Rattle.checkpoint_commands.specs.PointLogs.{IsPointLog}
use Rattle.checkpoint_commands.specs.Refusals.{IsJournalRefused, IsRefusedBehind}

-- how it ends: nothing is refused, no input is read, and a report couldn't be written only where one is asked for
abbrev pub EndsQuick : Option (List ℕ) → End → Type 0
EndsQuick report Done = Unit {0}
EndsQuick report Refused = ⊥
EndsQuick report (Unwritten Out) = Unit {0}
EndsQuick report (Unwritten Side) = IsSome report
EndsQuick report (Unwritten Pages) = ⊥
EndsQuick report (Unwritten Console) = Unit {0}
EndsQuick report (Told Usage) = ⊥
EndsQuick report (Told Input) = ⊥
EndsQuick report (Told Device) = Unit {0}
EndsQuick report (Told (NotAJournal place)) = Unit {0}
EndsQuick report (Told Full) = Unit {0}
EndsQuick report (Told Memory) = Unit {0}
EndsQuick report (Told OldVersion) = Unit {0}
EndsQuick report (Told OtherHistory) = ⊥
EndsQuick report BroughtInPart = ⊥
EndsQuick report Differ = ⊥

-- The state that a history and the last whole checkpoint of a log make, of whose entries so many are taken: the state with which the
-- checkpoint begins it, gone on with by the entries behind those. Where the checkpoint is the history's own, or there is none that can be
-- taken up, it is the state of the whole history; so it is where no entry is taken.
pub record IsStateFrom (history : List Entry) (last : Option Point) (taken : ℕ) (state : State) : Type 0 where
  pub begun : State
  pub begins : BeginsWith (length history) last taken begun
  pub is : state ≡ resumed begun taken history
  pub whole : IsOfHistory last history → state ≡ state_of history
  pub unspared : taken ≡ 0 → state ≡ state_of history

-- The journal has a history, within the room's limits, and POINT is a log of checkpoints; and so is the state that they make.
pub record IsResumedFrom (journal point : List ℕ) (room : RoomView) : Type 0 where
  pub history : List Entry
  pub has : HasHistory history (log_bytes room journal)
  pub within : IsWithin (journal_limits room) history
  pub last : Option Point
  pub was : IsPointLog last (log_bytes room point)
  pub taken : ℕ
  pub state : State
  pub is_state : IsStateFrom history last taken state

-- Its export is in OUT, and its report in REPORT, where one is asked for; and the console is told of how many entries the checkpoint spared
-- it, or a front of that, where it failed. What couldn't be written is as it was or whole.
pub record IsExported (journal point out : List ℕ) (report : Option (List ℕ)) (o : Outcome) : Type 0 where
  pub resumed : IsResumedFrom journal point o.old
  pub file : o.end ≢ out_unwritten → o.new.file out ≡ Some (export_of all_keys resumed.state)
  pub part : o.end ≡ out_unwritten → IsOutputLeft o.old o.new out (export_of all_keys resumed.state)
  pub report_file : o.end ≢ out_unwritten → o.end ≢ side_unwritten → IfSome report (λ name. o.new.file name ≡ Some (report_of resumed.state))
  pub report_part : o.end ≡ side_unwritten → IfSome report (λ name. IsOutputLeft o.old o.new name (report_of resumed.state))
  pub line : o.end ≡ Done → Appends o.told o.now (resumed_line resumed.taken (length resumed.history))
  pub front : o.end ≡ console_unwritten → WritesFront o.told o.now (resumed_line resumed.taken (length resumed.history))

-- The command `quick`: of the state that a journal's history and POINT's last whole checkpoint make, the export is written into the file
-- OUT, and then the report into the file REPORT, where one is asked for; the journal keeps its history, and nothing is written to POINT.
pub record ExportsQuickly (journal point out : List ℕ) (report : Option (List ℕ)) (o : Outcome) : Type 0 where
  pub ends : EndsQuick report o.end
  pub keeps : o.old.tells ≡ true → KeepsHistory (IsDeviceOf o journal) o.old o.new journal
  pub point_keeps : o.old.tells ≡ true → KeepsHistory (IsDeviceOf o point) o.old o.new point
  pub point_bytes : o.old.tells ≡ true → log_bytes o.new point ≡ log_bytes o.old point
  -- a fault is told for its reason, and no output is touched; one of the journal comes before POINT is opened
  pub told : (why : Fault) → o.end ≡ Told why → IsTold why o × (IsJournalRefused journal why o.old o.new ⊎ IsRefusedBehind journal point why o.old o.new)
  -- without one the outputs are there, or one could not be written, and the journal is durable
  pub exported : TellsNoFault o.end → o.old.tells ≡ true → IsExported journal point out report o
  pub durable : TellsNoFault o.end → o.old.tells ≡ true → IsDurable o.new journal
  -- so where POINT's last checkpoint is the journal's own, or there is none that can be taken up, they are those of the whole history
  pub whole : (entries : List Entry) → TellsNoFault o.end → o.end ≢ out_unwritten → o.old.tells ≡ true → HasHistory entries (log_bytes o.old journal)
      → ((last : Option Point) → IsPointLog last (log_bytes o.old point) → IsOfHistory last entries)
      → o.new.file out ≡ Some (export_of all_keys (state_of entries))
  pub whole_report : (entries : List Entry) → TellsNoFault o.end → o.end ≢ out_unwritten → o.end ≢ side_unwritten → o.old.tells ≡ true
      → HasHistory entries (log_bytes o.old journal) → ((last : Option Point) → IsPointLog last (log_bytes o.old point) → IsOfHistory last entries)
      → IfSome report (λ name. o.new.file name ≡ Some (report_of (state_of entries)))
  -- nothing that comes behind an output that could not be written has begun: REPORT behind OUT, the console behind both
  pub no_report : o.end ≡ out_unwritten → SameBut o.old o.new (journal ∷ point ∷ out ∷ [])
  pub silent : (o.end ≡ out_unwritten) ⊎ (o.end ≡ side_unwritten) → IsSilent o
  -- the outside's faults have their cause
  pub out_cause : o.end ≡ out_unwritten → Rose (o.old.out_faults out) (o.new.out_faults out)
  pub report_cause : o.end ≡ side_unwritten → IfSome report (λ name. Rose (o.old.out_faults name) (o.new.out_faults name))
  pub console : o.end ≡ console_unwritten → Rose o.faults o.faults_now
