-- How the command ends that lists what a cataloguer works from of a journal which it doesn't hold. The rules are this project's own.
use Rattle.std.specs.Prelude.{◌≡◌, ◌≢◌, ℕ, true, List, [], ◌∷◌, Option, Some, IsSomeAnd}
use Rattle.marc_types.specs.declared.entry.Entry.{Entry}
use Rattle.outside.specs.Fault.{Rose}
use Rattle.outside.specs.Room.{IsUntouched, SameBut}
use Rattle.durable_catalogue.specs.Logs.{HasHistory}
use Rattle.console_lines.specs.Ends.{Outcome, IsTold, TellsNoFault, IsSilent}
use Rattle.console_lines.specs.declared.end.End.{End}
use Rattle.console_lines.specs.declared.end.End.TheVariants.{Done, Refused, Unwritten, Told, BroughtInPart, Differ}
use Rattle.console_lines.specs.declared.end.Unwritten.TheVariants.{Out, Side, Pages, Console}
use Rattle.console_lines.specs.declared.fault.Fault.{Fault}
use Rattle.console_lines.specs.declared.fault.Fault.TheVariants.{Usage, Input, Device, NotAJournal, Full, Memory, OldVersion, OtherHistory}
use Rattle.journal_files.specs.Journals.{journal_limits, HasFittingHistory}
use Rattle.output_files.specs.Outputs.{AreWritten, IsOutputLeft}
use Rattle.unheld_journals.specs.Untaken.{WhyUntaken}
use Rattle.worklist_page.specs.Page.{page_of}
use Rattle.worklist_command.specs.Working.{list_due, list_unwritten, page_unwritten}

-- how it ends: nothing is refused, and no device fails, since none is used
abbrev pub EndsListingUnheld : End → Type 0
EndsListingUnheld Done = Unit {0}
EndsListingUnheld Refused = ⊥
EndsListingUnheld (Unwritten Out) = Unit {0}
EndsListingUnheld (Unwritten Side) = Unit {0}
EndsListingUnheld (Unwritten Pages) = ⊥
EndsListingUnheld (Unwritten Console) = ⊥
EndsListingUnheld (Told Usage) = ⊥
EndsListingUnheld (Told Input) = Unit {0}
EndsListingUnheld (Told Device) = ⊥
EndsListingUnheld (Told (NotAJournal place)) = Unit {0}
EndsListingUnheld (Told Full) = Unit {0}
EndsListingUnheld (Told Memory) = Unit {0}
EndsListingUnheld (Told OldVersion) = ⊥
EndsListingUnheld (Told OtherHistory) = ⊥
EndsListingUnheld BroughtInPart = ⊥
EndsListingUnheld Differ = ⊥

-- The command `reading worklist`: what a cataloguer works from of the history of the bytes that were read, up to their first closed gate,
-- into LIST, and then its page into PAGE. The journal is only read.
pub record ListsUnheld (journal list page : List ℕ) (code : Option (List ℕ)) (o : Outcome) : Type 0 where
  pub ends : EndsListingUnheld o.end
  -- a fault is told, and both files are as they were
  pub told : (why : Fault) → o.end ≡ Told why → IsTold why o
  pub untouched : (why : Fault) → o.end ≡ Told why → SameBut o.old o.new (list ∷ []) × IsUntouched o.old o.new list
  -- another than of the input is told for its reason
  pub so : (why : Fault) → o.end ≡ Told why → why ≢ Input → why ≢ Memory → o.old.tells ≡ true → IsSomeAnd (o.old.file journal) (λ bytes. WhyUntaken (journal_limits o.old) bytes why)
  -- where LIST could not be written nothing but it has changed
  pub no_page : o.end ≡ list_unwritten → SameBut o.old o.new (list ∷ [])
  -- without a fault to tell the console is as it was
  pub silent : TellsNoFault o.end → IsSilent o
  -- the outside's faults have their cause
  pub input : o.end ≡ Told Input → Rose (o.old.in_faults journal) (o.new.in_faults journal)
  pub list_cause : o.end ≡ list_unwritten → Rose (o.old.out_faults list) (o.new.out_faults list)
  pub page_cause : o.end ≡ page_unwritten → Rose (o.old.out_faults page) (o.new.out_faults page)
  -- the file was there, with a history within the room's limits, and both files are what is due of it
  pub history : TellsNoFault o.end → o.old.tells ≡ true → IsSomeAnd (o.old.file journal) (HasFittingHistory o.old)
  pub whole : (bytes : List ℕ) (entries : List Entry) → o.end ≡ Done → o.old.tells ≡ true → o.old.file journal ≡ Some bytes → HasHistory entries bytes
      → AreWritten list page (list_due code entries) (page_of entries) o.new
  -- one that could not be written is as it was or that
  pub list_part : (bytes : List ℕ) (entries : List Entry) → o.end ≡ list_unwritten → o.old.tells ≡ true → o.old.file journal ≡ Some bytes
      → HasHistory entries bytes → IsOutputLeft o.old o.new list (list_due code entries)
  pub page_part : (bytes : List ℕ) (entries : List Entry) → o.end ≡ page_unwritten → o.old.tells ≡ true → o.old.file journal ≡ Some bytes
      → HasHistory entries bytes → (o.new.file list ≡ Some (list_due code entries)) × IsOutputLeft o.old o.new page (page_of entries)
