-- How a command ends that looks into a journal which it doesn't hold. The rules are this project's own.
use Rattle.std.specs.Prelude.{◌≡◌, ◌≢◌, ℕ, true, List, [], Some, IsSomeAnd, Result, OnOk, IsErrOf}
use Rattle.marc_types.specs.declared.entry.Entry.{Entry}
use Rattle.marc_types.specs.declared.entry.Limits.{Limits}
use Rattle.outside.specs.Fault.{Rose}
use Rattle.outside.specs.Room.{RoomView, SameBut}
use Rattle.outside.specs.declared.fault.WriteFault.{WriteFault}
use Rattle.outside.specs.declared.fault.WriteFault.TheVariants.{NoMemory}
use Rattle.command_words.specs.Asked.{look_asked}
use Rattle.command_words.specs.Look.{Look}
use Rattle.command_words.specs.Look as look
use Rattle.command_words.specs.declared.asked.Look.{Look as Asked}
use Rattle.entry_record.specs.History.{IsWithin}
use Rattle.durable_catalogue.specs.Logs.{HasHistory}
use Rattle.console_lines.specs.Ends.{Outcome, IsTold, TellsNoFault, IsSilent, out_unwritten}
use Rattle.console_lines.specs.declared.end.End.{End}
use Rattle.console_lines.specs.declared.end.End.TheVariants.{Done, Refused, Unwritten, Told, BroughtInPart, Differ}
use Rattle.console_lines.specs.declared.end.Unwritten.TheVariants.{Out, Side, Pages, Console}
use Rattle.console_lines.specs.declared.fault.Fault.{Fault}
use Rattle.console_lines.specs.declared.fault.Fault.TheVariants.{Usage, Input, Device, NotAJournal, Full, Memory, OldVersion, OtherHistory}
use Rattle.output_files.specs.Outputs.{IsOutput, IsOutputLeft}
use Rattle.journal_files.specs.Journals.{journal_limits, HasFittingHistory}
use Rattle.unheld_journals.specs.Untaken.{WhyUntaken}
use Rattle.archive_commands.specs.Reads.{due_of}
use Rattle.archive_commands.specs.Reads as reads
use Rattle.archive_commands.specs.Telling.{matches_due}
use Rattle.heading_list.specs.Telling.{headings_due}

-- what is due of a history for what is looked for: the same as of a journal that is held
abbrev pub look_due : Look → List Entry → List ℕ
look_due (look.Export code) = due_of (reads.Export code)
look_due look.Report = due_of reads.Report
look_due look.Matches = matches_due
look_due (look.Headings range) = headings_due range

-- the same for what is asked for
abbrev pub asked_due : Asked → List Entry → List ℕ
asked_due asked = look_due (look_asked asked)

-- What is due of the history of these bytes, which is within the limits, was written into the file OUT, so far as it could be; without
-- memory for it nothing was begun.
pub record IsLooked {T : Type 0} (limits : Limits) (bytes out : List ℕ) (due : List Entry → List ℕ) (old new : RoomView) (written : Result T WriteFault) : Type 0 where
  pub entries : List Entry
  pub history : HasHistory entries bytes
  pub within : IsWithin limits entries
  pub output : IsOutput old new out (due entries) written
  pub whole : OnOk written (old.tells ≡ true → new.file out ≡ Some (due entries))
  pub unbegun : IsErrOf written NoMemory → SameBut old new []

-- how it ends: nothing is refused, and no device fails, since none is used
abbrev pub EndsLooking : End → Type 0
EndsLooking Done = Unit {0}
EndsLooking Refused = ⊥
EndsLooking (Unwritten Out) = Unit {0}
EndsLooking (Unwritten Side) = ⊥
EndsLooking (Unwritten Pages) = ⊥
EndsLooking (Unwritten Console) = ⊥
EndsLooking (Told Usage) = ⊥
EndsLooking (Told Input) = Unit {0}
EndsLooking (Told Device) = ⊥
EndsLooking (Told (NotAJournal place)) = Unit {0}
EndsLooking (Told Full) = Unit {0}
EndsLooking (Told Memory) = Unit {0}
EndsLooking (Told OldVersion) = ⊥
EndsLooking (Told OtherHistory) = ⊥
EndsLooking BroughtInPart = ⊥
EndsLooking Differ = ⊥

-- A command that looks into a journal: what is due of the history of the bytes that were read, up to their first closed gate, is written
-- into the file OUT. The journal is only read.
pub record LooksInto (journal out : List ℕ) (due : List Entry → List ℕ) (o : Outcome) : Type 0 where
  pub ends : EndsLooking o.end
  -- a fault is told, and leaves the room as it was
  pub told : (why : Fault) → o.end ≡ Told why → IsTold why o
  pub untouched : (why : Fault) → o.end ≡ Told why → SameBut o.old o.new []
  -- another than of the input is told for its reason
  pub so : (why : Fault) → o.end ≡ Told why → why ≢ Input → why ≢ Memory → o.old.tells ≡ true → IsSomeAnd (o.old.file journal) (λ bytes. WhyUntaken (journal_limits o.old) bytes why)
  -- without one the console is as it was
  pub silent : TellsNoFault o.end → IsSilent o
  -- the outside's faults have their cause
  pub input : o.end ≡ Told Input → Rose (o.old.in_faults journal) (o.new.in_faults journal)
  pub out_cause : o.end ≡ out_unwritten → Rose (o.old.out_faults out) (o.new.out_faults out)
  -- the file was there, with a history within the room's limits, and the output is what is due of it; where it could not be written it is as it
  -- was or that
  pub history : TellsNoFault o.end → o.old.tells ≡ true → IsSomeAnd (o.old.file journal) (HasFittingHistory o.old)
  pub whole : (bytes : List ℕ) (entries : List Entry) → o.end ≡ Done → o.old.tells ≡ true → o.old.file journal ≡ Some bytes → HasHistory entries bytes
      → o.new.file out ≡ Some (due entries)
  pub part : (bytes : List ℕ) (entries : List Entry) → o.end ≡ out_unwritten → o.old.tells ≡ true → o.old.file journal ≡ Some bytes → HasHistory entries bytes
      → IsOutputLeft o.old o.new out (due entries)

-- the same for what is asked for
abbrev pub Looks : List ℕ → List ℕ → Asked → Outcome → Type 0
Looks journal out asked o = LooksInto journal out (asked_due asked) o
