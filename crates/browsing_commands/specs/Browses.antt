-- How the command `browse` ends. The rules are this project's own.
use Rattle.std.specs.Prelude.{◌≡◌, ◌≢◌, ℕ, true, List, [], ◌∷◌, ◌++◌, length, Option, Some}
use Rattle.marc_types.specs.declared.entry.Entry.{Entry}
use Rattle.outside.specs.Fault.{Rose}
use Rattle.outside.specs.Room.{RoomView, SameBut}
use Rattle.command_words.specs.declared.library.Library.{Library}
use Rattle.console_lines.specs.Ends.{Outcome, IsAllDone, IsSilent, side_unwritten, pages_unwritten, console_unwritten}
use Rattle.console_lines.specs.declared.end.End.{End}
use Rattle.console_lines.specs.declared.end.End.TheVariants.{Done, Refused, Unwritten, Told, BroughtInPart, Differ}
use Rattle.console_lines.specs.declared.end.OutputsFault.{OutputsFault}
use Rattle.console_lines.specs.declared.end.OutputsFault.TheVariants.{Unwritten as NotWritten}
use Rattle.console_lines.specs.declared.end.Unwritten.TheVariants.{Pages}
use Rattle.output_files.specs.Outputs.{IsOutputLeft}
use Rattle.heading_rows.specs.declared.row.BrowsePage.{BrowsePage}
use Rattle.loading_commands.specs.Loading.{Runs}
use Rattle.loading_commands.specs.Outputs.{AreUnwritten}
use Rattle.loading_commands.specs.Runs.{IsToldOfLoading, IsMergedLoad, AreOutputs, IsWholeRun, IsUntoldRun}
use Rattle.browsing_commands.specs.Pages.{ArePagesOf, pages_text}

-- how it ends: any of its outputs may be unwritten
abbrev pub EndsBrowse : End → Type 0
EndsBrowse Done = Unit {0}
EndsBrowse Refused = Unit {0}
EndsBrowse (Unwritten which) = Unit {0}
EndsBrowse (Told why) = IsToldOfLoading why
EndsBrowse BroughtInPart = ⊥
EndsBrowse Differ = ⊥

-- A file has pages of these entries, the last behind all of them: none is of fewer than there were before.
pub record HoldsPages (before all : List Entry) (file : Option (List ℕ)) : Type 0 where
  pub pages : List BrowsePage
  pub are : ArePagesOf (length before) all pages
  pub bytes : file ≡ Some (pages_text pages)

-- All was done as by `run`, and PAGES has pages of the one history.
pub record IsWholeBrowse (old new : RoomView) (journal out report pages : List ℕ) (libraries : List Library) (told now : Option (List ℕ)) (end : End) : Type 0 where
  pub run : IsWholeRun old new journal out report libraries told now end
  pub paged : HoldsPages run.merged.before (run.merged.before ++ run.merged.added) (new.file pages)

-- The console could not be written: all else was done as by `run`, and PAGES has pages of the one history.
pub record IsUntoldBrowse (old new : RoomView) (journal out report pages : List ℕ) (libraries : List Library) (told now : Option (List ℕ)) : Type 0 where
  pub run : IsUntoldRun old new journal out report libraries told now
  pub paged : HoldsPages run.merged.before (run.merged.before ++ run.merged.added) (new.file pages)

-- PAGES could not be written: the files were loaded whole, OUT and REPORT are, and PAGES is as it was or has pages of the one history.
pub record IsBrowsedToPages (old new : RoomView) (journal out report pages : List ℕ) (libraries : List Library) : Type 0 where
  pub merged : IsMergedLoad old new journal libraries
  pub outputs : AreOutputs new out report (merged.before ++ merged.added)
  pub due : List BrowsePage
  pub are : ArePagesOf (length merged.before) (merged.before ++ merged.added) due
  pub left : IsOutputLeft old new pages (pages_text due)

-- what hinders the outputs, and what is there then: one of `run`'s, and PAGES isn't begun; or PAGES, behind these
pub record AreUnpaged (old new : RoomView) (out report pages : List ℕ) (entries : List Entry) (lines : List ℕ) (why : OutputsFault) : Type 0 where
  pub unrun : why ≢ NotWritten Pages → AreUnwritten old new out report entries why
  pub apart : why ≢ NotWritten Pages → SameBut old new (out ∷ report ∷ [])
  pub pages_cause : why ≡ NotWritten Pages → Rose (old.out_faults pages) (new.out_faults pages)
  pub outputs : why ≡ NotWritten Pages → old.tells ≡ true → AreOutputs new out report entries
  pub left : why ≡ NotWritten Pages → old.tells ≡ true → IsOutputLeft old new pages lines

-- The command `browse`: all that `run` does, and then the pages that a reader got meanwhile.
pub record Browses (libraries : List Library) (journal out report pages : List ℕ) (o : Outcome) : Type 0 where
  pub ends : EndsBrowse o.end
  -- all that `run` promises, which has no end at PAGES
  pub run : o.end ≢ pages_unwritten → Runs libraries journal out report o
  -- the outputs of `run` are whole where PAGES could not be written, which has its cause, and the console is as it was
  pub pages_cause : o.end ≡ pages_unwritten → Rose (o.old.out_faults pages) (o.new.out_faults pages)
  pub silent : o.end ≡ pages_unwritten → IsSilent o
  pub in_pages : o.end ≡ pages_unwritten → o.old.tells ≡ true → IsBrowsedToPages o.old o.new journal out report pages libraries
  -- where REPORT could not be written PAGES isn't begun
  pub no_pages : o.end ≡ side_unwritten → SameBut o.old o.new (journal ∷ out ∷ report ∷ [])
  -- and else it is whole, before the console is told
  pub whole : IsAllDone o.end → o.old.tells ≡ true → IsWholeBrowse o.old o.new journal out report pages libraries o.told o.now o.end
  pub untold : o.end ≡ console_unwritten → o.old.tells ≡ true → IsUntoldBrowse o.old o.new journal out report pages libraries o.told o.now
