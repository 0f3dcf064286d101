-- How the commands end that load files into a journal. The rules are this project's own.
use Rattle.std.specs.Prelude.{◌≡◌, ℕ, List, ◌++◌, Option, Some}
use Rattle.std.specs.Io.KnownBytes.{Appends}
use Rattle.marc_types.specs.declared.entry.Entry.{Entry}
use Rattle.outside.specs.Room.{RoomView}
use Rattle.outside.specs.Sink.{WritesFront}
use Rattle.command_words.specs.declared.library.Library.{Library}
use Rattle.file_entries.specs.declared.refused.RefusedItem.{RefusedItem}
use Rattle.catalogue_rules.specs.Settle.{state_of}
use Rattle.catalogue_rules.specs.Output.{export_of, all_keys, report_of}
use Rattle.console_lines.specs.Ends.{end_of}
use Rattle.console_lines.specs.declared.end.End.{End}
use Rattle.console_lines.specs.declared.fault.Fault.{Fault}
use Rattle.console_lines.specs.declared.end.End.TheVariants.{Done, Refused, Unwritten, Told, BroughtInPart, Differ}
use Rattle.console_lines.specs.declared.end.Unwritten.TheVariants as unwritten
use Rattle.console_lines.specs.declared.fault.Fault.TheVariants.{Usage, Input, Device, NotAJournal, Full, Memory, OldVersion, OtherHistory}
use Rattle.output_files.specs.Outputs.{IsOutputLeft}
use Rattle.loading_commands.specs.Outcomes.{IsLoadingFault}
use Rattle.loading_commands.specs.Merged.{IsOneHistory}
use Rattle.loading_commands.specs.Console.{console_of, any_refused}

-- the faults that loading tells: not that words are no command, nor that another journal has another history
abbrev pub IsToldOfLoading : Fault → Type 0
IsToldOfLoading Usage = ⊥
IsToldOfLoading Input = Unit {0}
IsToldOfLoading Device = Unit {0}
IsToldOfLoading (NotAJournal place) = Unit {0}
IsToldOfLoading Full = Unit {0}
IsToldOfLoading Memory = Unit {0}
IsToldOfLoading OldVersion = Unit {0}
IsToldOfLoading OtherHistory = ⊥

-- how `load` ends: it has no output but the console
abbrev pub EndsLoad : End → Type 0
EndsLoad Done = Unit {0}
EndsLoad Refused = Unit {0}
EndsLoad (Unwritten unwritten.Out) = ⊥
EndsLoad (Unwritten unwritten.Side) = ⊥
EndsLoad (Unwritten unwritten.Pages) = ⊥
EndsLoad (Unwritten unwritten.Console) = Unit {0}
EndsLoad (Told why) = IsToldOfLoading why
EndsLoad BroughtInPart = ⊥
EndsLoad Differ = ⊥

-- how `run` ends
abbrev pub EndsRun : End → Type 0
EndsRun Done = Unit {0}
EndsRun Refused = Unit {0}
EndsRun (Unwritten unwritten.Out) = Unit {0}
EndsRun (Unwritten unwritten.Side) = Unit {0}
EndsRun (Unwritten unwritten.Pages) = ⊥
EndsRun (Unwritten unwritten.Console) = Unit {0}
EndsRun (Told why) = IsToldOfLoading why
EndsRun BroughtInPart = ⊥
EndsRun Differ = ⊥

-- Files were loaded whole, and make one history behind what the journal had.
pub record IsMergedLoad (old new : RoomView) (journal : List ℕ) (libraries : List Library) : Type 0 where
  pub before : List Entry
  pub added : List Entry
  pub accepted : List (List Entry)
  pub refused : List (List RefusedItem)
  pub history : IsOneHistory old new journal libraries before added accepted refused

-- what the console is told of it
abbrev pub told_of : {old new : RoomView} {journal : List ℕ} {libraries : List Library} → IsMergedLoad old new journal libraries → List ℕ
told_of {old} {new} {journal} {libraries} m = console_of m.before m.added libraries m.accepted m.refused

-- the end where all is written: whether an item of some file is refused
abbrev pub end_after : {old new : RoomView} {journal : List ℕ} {libraries : List Library} → IsMergedLoad old new journal libraries → End
end_after m = end_of (any_refused m.refused)

-- The files were loaded whole, and the console was told their lines.
pub record IsWholeLoad (old new : RoomView) (journal : List ℕ) (libraries : List Library) (told now : Option (List ℕ)) (end : End) : Type 0 where
  pub merged : IsMergedLoad old new journal libraries
  pub console : Appends told now (told_of merged)
  pub end_is : end ≡ end_after merged

-- The console could not be written: the files were loaded whole, and it was told a front of their lines.
pub record IsUntoldLoad (old new : RoomView) (journal : List ℕ) (libraries : List Library) (told now : Option (List ℕ)) : Type 0 where
  pub merged : IsMergedLoad old new journal libraries
  pub console : WritesFront told now (told_of merged)

-- OUT is the export and REPORT the report of the state behind these entries
pub record AreOutputs (room : RoomView) (out report : List ℕ) (entries : List Entry) : Type 0 where
  pub export : room.file out ≡ Some (export_of all_keys (state_of entries))
  pub report_is : room.file report ≡ Some (report_of (state_of entries))

-- OUT is that export, and REPORT is as it was or that report
pub record AreOutAndLeft (old new : RoomView) (out report : List ℕ) (entries : List Entry) : Type 0 where
  pub export : new.file out ≡ Some (export_of all_keys (state_of entries))
  pub report_is : IsOutputLeft old new report (report_of (state_of entries))

-- The headline: the files were loaded whole, OUT is the export and REPORT the report of the state behind the one history that they
-- make, and the console was told the files' lines.
pub record IsWholeRun (old new : RoomView) (journal out report : List ℕ) (libraries : List Library) (told now : Option (List ℕ)) (end : End) : Type 0 where
  pub merged : IsMergedLoad old new journal libraries
  pub outputs : AreOutputs new out report (merged.before ++ merged.added)
  pub console : Appends told now (told_of merged)
  pub end_is : end ≡ end_after merged

-- OUT could not be written: the files were loaded whole, and OUT is as it was or the export.
pub record IsRunInOut (old new : RoomView) (journal out : List ℕ) (libraries : List Library) : Type 0 where
  pub merged : IsMergedLoad old new journal libraries
  pub left : IsOutputLeft old new out (export_of all_keys (state_of (merged.before ++ merged.added)))

-- REPORT could not be written: the files were loaded whole, OUT is the export, and REPORT is as it was or the report.
pub record IsRunInReport (old new : RoomView) (journal out report : List ℕ) (libraries : List Library) : Type 0 where
  pub merged : IsMergedLoad old new journal libraries
  pub outputs : AreOutAndLeft old new out report (merged.before ++ merged.added)

-- The console could not be written: the files were loaded whole, OUT and REPORT are, and the console was told a front of the lines.
pub record IsUntoldRun (old new : RoomView) (journal out report : List ℕ) (libraries : List Library) (told now : Option (List ℕ)) : Type 0 where
  pub merged : IsMergedLoad old new journal libraries
  pub outputs : AreOutputs new out report (merged.before ++ merged.added)
  pub console : WritesFront told now (told_of merged)

-- why a command told a fault: the files were not loaded whole, or they were and memory ran out
pub data WhyNotLoad (old new : RoomView) (journal : List ℕ) (libraries : List Library) (why : Fault) : Type 0 where
  NotLoaded : IsLoadingFault old new journal libraries why → WhyNotLoad old new journal libraries why
  NoMemory : why ≡ Memory → IsMergedLoad old new journal libraries → WhyNotLoad old new journal libraries why
