-- How the command ends that tells whether a log of checkpoints is a journal's own. The rules are this project's own.
use Rattle.std.specs.Prelude.{◌≡◌, ◌≢◌, ◌⊎◌, ℕ, true, List, length, Option, Some, IfSome}
use Rattle.std.specs.Io.KnownBytes.{Appends}
use Rattle.marc_types.specs.declared.entry.Entry.{Entry}
use Rattle.marc_types.specs.declared.entry.Limits.{Limits}
use Rattle.outside.specs.Fault.{Rose}
use Rattle.outside.specs.Sink.{WritesFront}
use Rattle.entry_record.specs.History.{IsWithin}
use Rattle.durable_catalogue.specs.Logs.{HasHistory}
use Rattle.durable_catalogue.specs.Openings.{IsUnopened}
use Rattle.durable_catalogue.specs.declared.fault.OpenFault.{OpenFault}
use Rattle.durable_catalogue.specs.declared.fault.OpenFault.TheVariants as opening
use Rattle.console_lines.specs.Ends.{Outcome, IsTold, TellsNoFault, console_unwritten}
use Rattle.console_lines.specs.Lines.{resumed_line}
use Rattle.console_lines.specs.declared.end.End.{End}
use Rattle.console_lines.specs.declared.end.End.TheVariants.{Done, Refused, Unwritten, Told, BroughtInPart, Differ}
use Rattle.console_lines.specs.declared.end.Unwritten.TheVariants.{Out, Side, Pages, Console}
use Rattle.console_lines.specs.declared.fault.Fault.{Fault}
use Rattle.console_lines.specs.declared.fault.Fault.TheVariants.{Usage, Input, Device, NotAJournal, Full, Memory, OldVersion, OtherHistory}
use Rattle.journal_files.specs.Journals.{journal_limits}
use Rattle.checkpoint.specs.declared.point.Point.{Point}
use Rattle.restoring.specs.Resuming.{IsOfFront}
use Rattle.unheld_journals.specs.Untaken.{fault_of_look}
use Rattle.checkpoint_commands.specs.PointLogs.{IsPointLog, IsUntaken}

-- how it ends: nothing is refused, no output is written and no device fails
abbrev pub EndsVerifyingPoint : End → Type 0
EndsVerifyingPoint Done = Unit {0}
EndsVerifyingPoint Refused = ⊥
EndsVerifyingPoint (Unwritten Out) = ⊥
EndsVerifyingPoint (Unwritten Side) = ⊥
EndsVerifyingPoint (Unwritten Pages) = ⊥
EndsVerifyingPoint (Unwritten Console) = Unit {0}
EndsVerifyingPoint (Told Usage) = ⊥
EndsVerifyingPoint (Told Input) = Unit {0}
EndsVerifyingPoint (Told Device) = ⊥
EndsVerifyingPoint (Told (NotAJournal place)) = Unit {0}
EndsVerifyingPoint (Told Full) = Unit {0}
EndsVerifyingPoint (Told Memory) = Unit {0}
EndsVerifyingPoint (Told OldVersion) = Unit {0}
EndsVerifyingPoint (Told OtherHistory) = Unit {0}
EndsVerifyingPoint BroughtInPart = ⊥
EndsVerifyingPoint Differ = ⊥

-- so many entries of so many are those of a checkpoint that is of a front of the history
pub record IsOwnOf (history : List Entry) (last : Option Point) (held count : ℕ) : Type 0 where
  pub point : Point
  pub last_is : last ≡ Some point
  pub own : IsOfFront history point
  pub held_is : held ≡ point.entries
  pub count_is : count ≡ length history

-- there is no checkpoint, or it is of no front of the history; want of memory says nothing
pub data IsNotOwnOf (history : List Entry) (last : Option Point) : Fault → Type 0 where
  NotOwn : IfSome last (λ point. IsOfFront history point → ⊥) → IsNotOwnOf history last OtherHistory
  NoRoom : IsNotOwnOf history last Memory

-- The bytes of the one are a journal's, with a history within these limits, and those of the other are a log of checkpoints, the last of
-- which is of a front of that history, and holds so many entries of so many.
pub record AreOwn (limits : Limits) (journal point : List ℕ) (held count : ℕ) : Type 0 where
  pub history : List Entry
  pub has : HasHistory history journal
  pub within : IsWithin limits history
  pub last : Option Point
  pub is_last : IsPointLog last point
  pub own : IsOwnOf history last held count

-- Why that isn't told: the bytes of the journal are not taken, by these limits; or they are, and those of the log of checkpoints are not; or both are, and
-- its last checkpoint isn't the history's own.
pub data WhyNotOwn (limits : Limits) (journal point : List ℕ) (why : Fault) : Type 0 where
  OfJournal : (reason : OpenFault) → reason ≢ opening.OldVersion → why ≡ fault_of_look reason → IsUnopened limits journal reason
      → WhyNotOwn limits journal point why
  OfPoint : (history : List Entry) → HasHistory history journal → IsWithin limits history → (reason : OpenFault) → why ≡ fault_of_look reason
      → IsUntaken point reason → WhyNotOwn limits journal point why
  OfBoth : (history : List Entry) → HasHistory history journal → IsWithin limits history → (last : Option Point) → IsPointLog last point
      → IsNotOwnOf history last why → WhyNotOwn limits journal point why

-- Files of these bytes were there, and the console was told how many entries the checkpoint holds, and of how many; where it could not be
-- written it was told a front of that.
pub record IsToldOwn (journal point : List ℕ) (o : Outcome) : Type 0 where
  pub history_bytes : List ℕ
  pub history_file : o.old.file journal ≡ Some history_bytes
  pub point_bytes : List ℕ
  pub point_file : o.old.file point ≡ Some point_bytes
  pub held : ℕ
  pub count : ℕ
  pub own : AreOwn (journal_limits o.old) history_bytes point_bytes held count
  pub line : o.end ≡ Done → Appends o.told o.now (resumed_line held count)
  pub front : o.end ≡ console_unwritten → WritesFront o.told o.now (resumed_line held count)

-- files of these bytes were there, and this is why it isn't told that the checkpoint is the journal's own: nothing else is told
pub record IsToldWhyNotOwn (journal point : List ℕ) (why : Fault) (o : Outcome) : Type 0 where
  pub history_bytes : List ℕ
  pub history_file : o.old.file journal ≡ Some history_bytes
  pub point_bytes : List ℕ
  pub point_file : o.old.file point ≡ Some point_bytes
  pub so : WhyNotOwn (journal_limits o.old) history_bytes point_bytes why

-- The command `verify` over a journal and a log of checkpoints: it ends with 0 where the last checkpoint is of a front of the journal's
-- history, whole, and where that isn't so it doesn't. No file changes.
pub record VerifiesPoint (journal point : List ℕ) (o : Outcome) : Type 0 where
  pub ends : EndsVerifyingPoint o.end
  pub told : (why : Fault) → o.end ≡ Told why → IsTold why o
  pub own : TellsNoFault o.end → o.old.tells ≡ true → IsToldOwn journal point o
  pub so : (why : Fault) → o.end ≡ Told why → why ≢ Input → why ≢ Memory → o.old.tells ≡ true → IsToldWhyNotOwn journal point why o
  -- the outside's faults have their cause
  pub input : o.end ≡ Told Input → Rose (o.old.in_faults journal) (o.new.in_faults journal) ⊎ Rose (o.old.in_faults point) (o.new.in_faults point)
  pub console_cause : o.end ≡ console_unwritten → Rose o.faults o.faults_now
