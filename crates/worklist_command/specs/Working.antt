-- How the command ends that lists what a cataloguer works from. The rules are this project's own.
use Rattle.std.specs.Prelude.{◌≡◌, ◌≢◌, ℕ, true, List, [], ◌∷◌, Option, Result, Some, IsErrOf}
use Rattle.std.specs.Borrow.{Bor}
use Rattle.std.specs.Option.{option_copied}
use Rattle.marc_types.specs.declared.entry.Entry.{Entry}
use Rattle.outside.specs.Fault.{Rose}
use Rattle.outside.specs.Room.{IsUntouched, RoomView, SameBut}
use Rattle.catalogue_rules.specs.Settle.{state_of}
use Rattle.durable_catalogue.specs.Logs.{HasHistory}
use Rattle.console_lines.specs.Ends.{Outcome, IsTold, TellsNoFault, IsSilent, out_unwritten, side_unwritten}
use Rattle.console_lines.specs.declared.end.End.{End}
use Rattle.console_lines.specs.declared.end.End.TheVariants.{Done, Refused, Unwritten, Told, BroughtInPart, Differ}
use Rattle.console_lines.specs.declared.end.OutputsFault.{OutputsFault}
use Rattle.console_lines.specs.declared.end.OutputsFault.TheVariants as outputs
use Rattle.console_lines.specs.declared.end.Unwritten.{Unwritten as AnyUnwritten}
use Rattle.console_lines.specs.declared.end.Unwritten.TheVariants.{Out, Side, Pages, Console}
use Rattle.console_lines.specs.declared.fault.Fault.{Fault}
use Rattle.console_lines.specs.declared.fault.Fault.TheVariants.{Usage, Input, Device, NotAJournal, Full, Memory, OldVersion, OtherHistory}
use Rattle.journal_files.specs.Faults.{WhyUnopened}
use Rattle.journal_files.specs.Journals.{log_bytes, HasFittingHistory, KeepsHistory, IsDurable}
use Rattle.output_files.specs.Outputs.{AreStopped, AreWritten, IsOutputLeft}
use Rattle.heading_worklist.specs.Counting.{kept_in}
use Rattle.heading_worklist.specs.Worklist.{worklist_of}
use Rattle.worklist_page.specs.Page.{page_of, state_page}
use Rattle.worklist_page.specs.declared.bringer.Bringer.{Bringer}

-- the end where LIST could not be written
abbrev pub list_unwritten : End
list_unwritten = out_unwritten

-- the end where PAGE, the side output, could not be written
abbrev pub page_unwritten : End
page_unwritten = side_unwritten

-- how it ends: nothing is refused, and no input is read; a log of an older version is read too
abbrev pub EndsListing : End → Type 0
EndsListing Done = Unit {0}
EndsListing Refused = ⊥
EndsListing (Unwritten Out) = Unit {0}
EndsListing (Unwritten Side) = Unit {0}
EndsListing (Unwritten Pages) = ⊥
EndsListing (Unwritten Console) = ⊥
EndsListing (Told Usage) = ⊥
EndsListing (Told Input) = ⊥
EndsListing (Told Device) = Unit {0}
EndsListing (Told (NotAJournal place)) = Unit {0}
EndsListing (Told Full) = Unit {0}
EndsListing (Told Memory) = Unit {0}
EndsListing (Told OldVersion) = ⊥
EndsListing (Told OtherHistory) = ⊥
EndsListing BroughtInPart = ⊥
EndsListing Differ = ⊥

-- what is due in LIST of a history: the lines of all records, or of those with a code
abbrev pub list_due : Option (List ℕ) → List Entry → List ℕ
list_due code entries = worklist_of (kept_in code) (state_of entries)

-- the same, for a code that is lent
abbrev pub list_due_by : Option (Bor (List ℕ)) → List Entry → List ℕ
list_due_by code entries = list_due (option_copied code) entries

-- what is due in PAGE of a history that they brought
abbrev pub page_due : List Entry → List (Bringer × ℕ) → List ℕ
page_due entries brought = state_page (state_of entries) brought

-- nothing but a file changed, and it is as it was
abbrev pub LeavesList : List ℕ → RoomView → RoomView → Type 0
LeavesList list old new = SameBut old new (list ∷ []) × IsUntouched old new list

-- where one of both could not be written
abbrev pub StopsBoth : {X : Type 0} → List ℕ → List ℕ → List ℕ → List ℕ → RoomView → RoomView → Result X OutputsFault → Type 0
StopsBoth list page due_list due_page old new result =
    (which : AnyUnwritten) → IsErrOf result (outputs.Unwritten which) → AreStopped (list ∷ []) list page due_list due_page old new which

-- The command `worklist`: what a cataloguer works from of a journal's history into LIST, and then its page into PAGE. The journal keeps its
-- history.
pub record MakesWorklist (journal list page : List ℕ) (code : Option (List ℕ)) (o : Outcome) : Type 0 where
  pub ends : EndsListing o.end
  pub keeps : o.old.tells ≡ true → KeepsHistory (o.end ≡ Told Device) o.old o.new journal
  -- a fault is told for its reason, and both files are as they were
  pub told : (why : Fault) → o.end ≡ Told why → IsTold why o × WhyUnopened o.old journal why
  pub untouched : (why : Fault) → o.end ≡ Told why → SameBut o.old o.new (journal ∷ list ∷ []) × IsUntouched o.old o.new list
  -- a journal that is refused for what it holds keeps every byte
  pub kept : (why : Fault) → o.end ≡ Told why → why ≢ Device → why ≢ Memory → o.old.tells ≡ true → log_bytes o.new journal ≡ log_bytes o.old journal
  -- where LIST could not be written nothing but it and the journal has changed
  pub no_page : o.end ≡ list_unwritten → SameBut o.old o.new (journal ∷ list ∷ [])
  -- without a fault to tell the console is as it was
  pub silent : TellsNoFault o.end → IsSilent o
  -- the outside's faults have their cause
  pub device : o.end ≡ Told Device → Rose (o.old.log_faults journal) (o.new.log_faults journal)
  pub list_cause : o.end ≡ list_unwritten → Rose (o.old.out_faults list) (o.new.out_faults list)
  pub page_cause : o.end ≡ page_unwritten → Rose (o.old.out_faults page) (o.new.out_faults page)
  -- the log has a history within the room's limits, which is durable, and both files are what is due of it
  pub history : TellsNoFault o.end → o.old.tells ≡ true → HasFittingHistory o.old (log_bytes o.old journal)
  pub durable : TellsNoFault o.end → o.old.tells ≡ true → IsDurable o.new journal
  pub whole : (entries : List Entry) → o.end ≡ Done → o.old.tells ≡ true → HasHistory entries (log_bytes o.old journal)
      → AreWritten list page (list_due code entries) (page_of entries) o.new
  -- one that could not be written is as it was or that
  pub list_part : (entries : List Entry) → o.end ≡ list_unwritten → o.old.tells ≡ true → HasHistory entries (log_bytes o.old journal)
      → IsOutputLeft o.old o.new list (list_due code entries)
  pub page_part : (entries : List Entry) → o.end ≡ page_unwritten → o.old.tells ≡ true → HasHistory entries (log_bytes o.old journal)
      → (o.new.file list ≡ Some (list_due code entries)) × IsOutputLeft o.old o.new page (page_of entries)
