-- What a pass of one file into another comes to.
use Rattle.std.specs.Prelude.{◌≡◌, ◌≢◌, ℕ, true, List, ◌++◌, length, nat_lt, Option, Some, IsSomeAnd, string_bytes, []}
use Rattle.std.specs.Io.KnownBytes.{Appends}
use Rattle.outside.specs.Fault.{Rose}
use Rattle.outside.specs.Room.{RoomView, SameBut}
use Rattle.outside.specs.Sink.{WritesFront}
use Rattle.marc_types.specs.declared.entry.Entry.{Entry}
use Rattle.marc_types.specs.declared.entry.Limits.{Limits}
use Rattle.marc_types.specs.Limits.{limits_of}
use Rattle.marc_stream.specs.Pieces.{items}
use Rattle.command_words.specs.declared.library.Library.{Library}
use Rattle.catalogue_rules.specs.Receipts.{receipts_behind}
use Rattle.catalogue_rules.specs.Settle.{state_of}
use Rattle.catalogue_rules.specs.Output.{export_of, all_keys}
use Rattle.file_entries.specs.Files.{IsJudged}
use Rattle.file_entries.specs.declared.refused.RefusedItem.{RefusedItem}
use Rattle.console_lines.specs.Ends.{Outcome, IsTold, IsAllDone, IsCommon, IsSilent, end_of, out_unwritten, side_unwritten, pages_unwritten, console_unwritten}
use Rattle.console_lines.specs.Lines.{refused_lines, totals_line}
use Rattle.console_lines.specs.Totals.{totals_of}
use Rattle.console_lines.specs.declared.end.End.{End}
use Rattle.console_lines.specs.declared.end.End.TheVariants.{Told}
use Rattle.console_lines.specs.declared.fault.Fault.{Fault}
use Rattle.console_lines.specs.declared.fault.Fault.TheVariants.{Input, Full, Memory}
use Rattle.output_files.specs.Outputs.{IsOutputLeft}
use Rattle.plain_commands.specs.Totals.{IsWithinLimits}
use Rattle.plain_commands.specs.Loading.{IsFaultOfLoading, IsLoaded, IsFullAt, LoadedView}
use Rattle.plain_commands.specs.declared.ready.Ready.{Ready}

-- what the console is told of a file
abbrev pub results : List ℕ → List Entry → List RefusedItem → List ℕ
results file accepted refused = refused_lines file refused ++ totals_line file (totals_of accepted refused (receipts_behind [] accepted))

-- the records of the catalogue to which these entries were committed, all keys
abbrev pub exported : List Entry → List ℕ
exported accepted = export_of all_keys (state_of accepted)

-- what is due of a file with these bytes, of which these entries are accepted and these items refused
abbrev pub FileDue : Type 0
FileDue = List ℕ → List Entry → List RefusedItem → List ℕ

-- of a pass: the accepted entries' export
abbrev pub export_due : FileDue
export_due bytes accepted refused = exported accepted

-- what is to be told of a file with these bytes, whose accepted entries a catalogue with these limits has
pub record IsReady (limits : Limits) (library : Library) (bytes : List ℕ) (ready : Ready) : Type 0 where
  pub loaded : IsLoaded limits library.code (items bytes) ready.loaded
  pub text : string_bytes ready.text ≡ results library.file ready.loaded.accepted ready.loaded.refused

-- the same of the file that a room has under its name, where it tells
abbrev pub IsReadyIn : Limits → RoomView → Library → Ready → Type 0
IsReadyIn limits room library ready = room.tells ≡ true → IsSomeAnd (room.file library.file) (λ bytes. IsReady limits library bytes ready)

-- it was made of a loaded file, whichever the limits and the file's bytes are
abbrev pub IsReadyOf : LoadedView → Library → Ready → Type 0
IsReadyOf loaded library ready = (limits : Limits) (bytes : List ℕ) → IsLoaded limits library.code (items bytes) loaded
    → IsReady limits library bytes ready

-- a file with these bytes was passed: its accepted entries were committed to an empty catalogue, what is due was written, the
-- console was told the results, and the end says whether something was refused
pub record IsPassed (limits : Limits) (due : FileDue) (library : Library) (bytes : List ℕ) (written told now : Option (List ℕ)) (end : End) : Type 0 where
  pub accepted : List Entry
  pub refused : List RefusedItem
  pub judged : IsJudged library.code 0 (items bytes) accepted refused
  pub within : IsWithinLimits limits accepted
  pub export : written ≡ Some (due bytes accepted refused)
  pub console : Appends told now (results library.file accepted refused)
  pub end_is : end ≡ end_of (nat_lt 0 (length refused))

-- OUT could not be written: it is as it was, or holds what is due
pub record IsPassedInPart (limits : Limits) (due : FileDue) (library : Library) (bytes : List ℕ) (old new : RoomView) (out : List ℕ) : Type 0 where
  pub accepted : List Entry
  pub refused : List RefusedItem
  pub judged : IsJudged library.code 0 (items bytes) accepted refused
  pub within : IsWithinLimits limits accepted
  pub left : IsOutputLeft old new out (due bytes accepted refused)

-- the console could not be written: OUT is written whole, and the console was told a front of the results
pub record IsPassedUntold (limits : Limits) (due : FileDue) (library : Library) (bytes : List ℕ) (written told now : Option (List ℕ)) : Type 0 where
  pub accepted : List Entry
  pub refused : List RefusedItem
  pub judged : IsJudged library.code 0 (items bytes) accepted refused
  pub within : IsWithinLimits limits accepted
  pub export : written ≡ Some (due bytes accepted refused)
  pub console : WritesFront told now (results library.file accepted refused)

-- what there is after the delivery of a file with these bytes, by how it ends
pub record IsPassDelivered (limits : Limits) (due : FileDue) (library : Library) (bytes out : List ℕ) (o : Outcome) : Type 0 where
  pub whole : IsAllDone o.end → IsPassed limits due library bytes (o.new.file out) o.told o.now o.end
  pub part : o.end ≡ out_unwritten → IsPassedInPart limits due library bytes o.old o.new out
  pub untold : o.end ≡ console_unwritten → IsPassedUntold limits due library bytes (o.new.file out) o.told o.now

-- Which of OUT and the console could not be written: each has its cause, and where OUT could not be, the console is as it was.
pub record EndsDelivering (out : List ℕ) (o : Outcome) : Type 0 where
  pub out_cause : o.end ≡ out_unwritten → Rose (o.old.out_faults out) (o.new.out_faults out)
  pub console_cause : o.end ≡ console_unwritten → Rose o.faults o.faults_now
  pub no_side : (o.end ≢ side_unwritten) × (o.end ≢ pages_unwritten)
  pub common : IsCommon o.end
  pub silent : o.end ≡ out_unwritten → IsSilent o

-- want of memory alone is told, and leaves the room as it was
abbrev pub TellsMemoryAlone : Outcome → Type 0
TellsMemoryAlone o = (why : Fault) → o.end ≡ Told why → (why ≡ Memory) × SameBut o.old o.new [] × IsTold why o

-- a document with these bytes was delivered, of each file of which it is due
abbrev pub Delivers : List ℕ → Ready → List ℕ → Outcome → Type 0
Delivers document ready out o = (limits : Limits) (due : FileDue) (library : Library) (bytes : List ℕ) → o.old.tells ≡ true
    → IsReady limits library bytes ready → document ≡ due bytes ready.loaded.accepted ready.loaded.refused
    → IsPassDelivered limits due library bytes out o

-- what is due of a file was delivered, of each file that is ready so
abbrev pub DeliversFile : FileDue → Ready → List ℕ → Outcome → Type 0
DeliversFile due ready out o = (limits : Limits) (library : Library) (bytes : List ℕ) → o.old.tells ≡ true
    → IsReady limits library bytes ready → IsPassDelivered limits due library bytes out o

-- A command that takes one file through an empty catalogue with the room's limits, and writes what is due of it into the file OUT.
pub record PassesFile (due : FileDue) (library : Library) (out : List ℕ) (o : Outcome) : Type 0 where
  -- a fault that is told is one of loading, and leaves the room as it was
  pub told : (why : Fault) → o.end ≡ Told why → IsTold why o × IsFaultOfLoading why × SameBut o.old o.new []
  -- each fault has its cause
  pub input : o.end ≡ Told Input → Rose (o.old.in_faults library.file) (o.new.in_faults library.file)
  pub out_cause : o.end ≡ out_unwritten → Rose (o.old.out_faults out) (o.new.out_faults out)
  pub console_cause : o.end ≡ console_unwritten → Rose o.faults o.faults_now
  pub no_side : (o.end ≢ side_unwritten) × (o.end ≢ pages_unwritten)
  pub common : IsCommon o.end
  pub full : o.end ≡ Told Full → o.old.tells ≡ true
      → IsSomeAnd (o.old.file library.file) (λ bytes. IsFullAt (limits_of o.old.is_large) library.code (items bytes))
  -- the file was there, and was passed
  pub whole : IsAllDone o.end → o.old.tells ≡ true
      → IsSomeAnd (o.old.file library.file) (λ bytes. IsPassed (limits_of o.old.is_large) due library bytes (o.new.file out) o.told o.now o.end)
  -- where OUT could not be written the console is untouched; where the console could not, OUT is whole
  pub silent : o.end ≡ out_unwritten → IsSilent o
  pub part : o.end ≡ out_unwritten → o.old.tells ≡ true
      → IsSomeAnd (o.old.file library.file) (λ bytes. IsPassedInPart (limits_of o.old.is_large) due library bytes o.old o.new out)
  pub untold : o.end ≡ console_unwritten → o.old.tells ≡ true
      → IsSomeAnd (o.old.file library.file) (λ bytes. IsPassedUntold (limits_of o.old.is_large) due library bytes (o.new.file out) o.told o.now)

-- The command `pass`: the export of the file's accepted entries.
abbrev pub Passes : Library → List ℕ → Outcome → Type 0
Passes library out o = PassesFile export_due library out o
