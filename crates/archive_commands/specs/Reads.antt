-- How a command ends that reads a journal.
use Rattle.std.specs.Prelude.{◌≡◌, ◌≢◌, ℕ, true, List, [], ◌∷◌, Option, Some}
use Rattle.std.specs.Option.{option_copied}
use Rattle.marc_types.specs.declared.entry.Entry.{Entry}
use Rattle.outside.specs.Fault.{Rose}
use Rattle.catalogue_rules.specs.Settle.{state_of}
use Rattle.catalogue_rules.specs.Output.{export_of, report_of}
use Rattle.durable_catalogue.specs.Logs.{HasHistory}
use Rattle.console_lines.specs.Ends.{Outcome, IsTold, TellsNoFault, IsSilent, out_unwritten}
use Rattle.console_lines.specs.declared.end.End.{End}
use Rattle.console_lines.specs.declared.end.End.TheVariants.{Done, Refused, Unwritten, Told, BroughtInPart, Differ}
use Rattle.console_lines.specs.declared.end.Unwritten.TheVariants as unwritten
use Rattle.console_lines.specs.declared.fault.Fault.{Fault}
use Rattle.console_lines.specs.declared.fault.Fault.TheVariants.{Usage, Input, Device, NotAJournal, Full, Memory, OldVersion, OtherHistory}
use Rattle.output_files.specs.Kept.{kept_keys}
use Rattle.output_files.specs.Outputs.{IsOutputLeft}
use Rattle.outside.specs.Room.{SameBut}
use Rattle.journal_files.specs.Faults.{WhyUnopened}
use Rattle.journal_files.specs.Journals.{log_bytes, HasFittingHistory, KeepsHistory, IsDurable}
use Rattle.archive_commands.specs.declared.due.Due.{Due}
use Rattle.archive_commands.specs.declared.due.Due.TheVariants as due

-- what is due of a history: the export of all keys or of those with a code, or the report
pub data DueView : Type 0 where
  Export : Option (List ℕ) → DueView
  Report : DueView

-- what is due, as contracts see it
abbrev pub due_view : Due → DueView
due_view (due.Export code) = Export (option_copied code)
due_view due.Report = Report

-- the bytes that are due of a history: the export, of all keys or a code's, or the report
abbrev pub due_of : DueView → List Entry → List ℕ
due_of (Export code) entries = export_of (kept_keys code) (state_of entries)
due_of Report entries = report_of (state_of entries)

-- how it ends: nothing is refused, and no input is read; a log of an older version is read too
abbrev pub EndsReading : End → Type 0
EndsReading Done = Unit {0}
EndsReading Refused = ⊥
EndsReading (Unwritten unwritten.Out) = Unit {0}
EndsReading (Unwritten unwritten.Side) = ⊥
EndsReading (Unwritten unwritten.Pages) = ⊥
EndsReading (Unwritten unwritten.Console) = ⊥
EndsReading (Told Usage) = ⊥
EndsReading (Told Input) = ⊥
EndsReading (Told Device) = Unit {0}
EndsReading (Told (NotAJournal place)) = Unit {0}
EndsReading (Told Full) = Unit {0}
EndsReading (Told Memory) = Unit {0}
EndsReading (Told OldVersion) = ⊥
EndsReading (Told OtherHistory) = ⊥
EndsReading BroughtInPart = ⊥
EndsReading Differ = ⊥

-- A command that reads a journal: what is due of its history is written into the file OUT, and the journal keeps it.
pub record ReadsJournal (journal out : List ℕ) (due : List Entry → List ℕ) (o : Outcome) : Type 0 where
  pub ends : EndsReading o.end
  pub keeps : o.old.tells ≡ true → KeepsHistory (o.end ≡ Told Device) o.old o.new journal
  -- a fault is told for its reason, and the output is untouched
  pub told : (why : Fault) → o.end ≡ Told why → IsTold why o × WhyUnopened o.old journal why
  pub untouched : (why : Fault) → o.end ≡ Told why → SameBut o.old o.new (journal ∷ [])
  -- a journal that is refused for what it holds keeps every byte
  pub kept : (why : Fault) → o.end ≡ Told why → why ≢ Device → why ≢ Memory → o.old.tells ≡ true → log_bytes o.new journal ≡ log_bytes o.old journal
  -- without one the console is as it was
  pub silent : TellsNoFault o.end → IsSilent o
  -- the outside's faults have their cause
  pub device : o.end ≡ Told Device → Rose (o.old.log_faults journal) (o.new.log_faults journal)
  pub out_cause : o.end ≡ out_unwritten → Rose (o.old.out_faults out) (o.new.out_faults out)
  -- the log has a history within the room's limits, which is durable, and the output is what is due of it; where it could not be written it is as it was or that
  pub history : TellsNoFault o.end → o.old.tells ≡ true → HasFittingHistory o.old (log_bytes o.old journal)
  pub durable : TellsNoFault o.end → o.old.tells ≡ true → IsDurable o.new journal
  pub whole : (entries : List Entry) → o.end ≡ Done → o.old.tells ≡ true → HasHistory entries (log_bytes o.old journal)
      → o.new.file out ≡ Some (due entries)
  pub part : (entries : List Entry) → o.end ≡ out_unwritten → o.old.tells ≡ true → HasHistory entries (log_bytes o.old journal)
      → IsOutputLeft o.old o.new out (due entries)

-- the commands `export` and `report`
abbrev pub Reads : List ℕ → List ℕ → DueView → Outcome → Type 0
Reads journal out due o = ReadsJournal journal out (due_of due) o
