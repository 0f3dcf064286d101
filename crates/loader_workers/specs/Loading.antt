-- What a loader makes of its file. The rules are this project's own.
use Rattle.std.specs.Prelude.{◌≡◌, ℕ, ◌≤◌, Bool, true, false, List, [], ◌++◌, All, Option}
use Rattle.std.specs.Io.KnownBytes.{IsAtEnd}
use Rattle.outside.specs.Fault.{Rose}
use Rattle.marc_types.specs.declared.entry.Entry.{Entry}
use Rattle.marc_stream.specs.Pieces.{Item}
use Rattle.marc_stream.specs.Stream.{opened, EndsWithin}
use Rattle.marc_stream.specs.Window.{Gives}
use Rattle.entry_history.specs.Commits.{Origin}
use Rattle.entry_history.specs.declared.event.Event.{Event}
use Rattle.catalogue_lock.specs.History.{items}
use Rattle.catalogue_lock.specs.Passes.{Pass}
use Rattle.file_entries.specs.Files.{IsJudged}
use Rattle.file_entries.specs.Entries.{FileView, view_of}
use Rattle.file_entries.specs.declared.refused.RefusedItem.{RefusedItem}
use Rattle.loader_workers.specs.Counts.{no_counts, counts_in}
use Rattle.loader_workers.specs.Gathering.{IsGathered}
use Rattle.loader_workers.specs.Turns.{Replies, CommitsAs, HasCommitted, HasTurned, IsCounted, IsEndOf}
use Rattle.loader_workers.specs.declared.counts.Counts.{Counts}
use Rattle.loader_workers.specs.declared.file_end.FileEnd.{FileEnd}
use Rattle.loader_workers.specs.declared.file_end.FileEnd.TheVariants.{Done, ReadFault, Full, DeviceFault, NoMemory}
use Rattle.loader_workers.specs.declared.result.FileResult.{FileResult}

-- none of these items ends, with its terminator, within the bytes that the source gave
pub record IsCutShort (start left : Option (List ℕ)) (coming : List Item) : Type 0 where
  pub given : ℕ
  pub gives : Gives start left 0 given
  pub unended : All (λ item. ¬ EndsWithin given item) coming

-- the count of a source's faults before and now: it rose where the file ended by a read fault
pub record CountsFaults (before now : ℕ) (end : FileEnd) : Type 0 where
  pub later : before ≤ now
  pub cause : end ≡ ReadFault → Rose before now

-- Which items aren't judged at an end. Done: none, and the source was read to its end. ReadFault: only such as don't end within
-- the bytes that the source gave.
abbrev pub IsReadTo : FileEnd → Bool → Option (List ℕ) → Option (List ℕ) → List Item → Type 0
IsReadTo Done tells start left coming = (tells ≡ true → coming ≡ []) × IsAtEnd left
IsReadTo ReadFault tells start left coming = tells ≡ true → IsCutShort start left coming
IsReadTo Full tells start left coming = Unit {0}
IsReadTo DeviceFault tells start left coming = Unit {0}
IsReadTo NoMemory tells start left coming = Unit {0}

-- What loading a file did. Of its items, `done` are judged and `coming` are not; of the accepted entries `front` are committed, and
-- `rest` are not.
pub record LoadsOneFile {O : Type 0} (origin : Origin) (file : FileView) (left : Option (List ℕ)) (old new : Pass O Event) (result : FileResult) : Type 0 where
  pub done : List Item
  pub coming : List Item
  pub front : List Entry
  pub rest : List Entry
  pub marks : List Event
  pub judged : IsJudged file.library file.loader done (front ++ rest) result.refused
  pub split : file.stream.tells ≡ true → file.stream.coming ≡ done ++ coming
  pub committed_is : HasCommitted origin front marks no_counts (counts_in result) old new
  pub ends : IsEndOf origin result.end rest marks (items new.seen)
  pub read_to : IsReadTo result.end file.stream.tells file.stream.left left coming

-- the file of a source that has these bytes left, at most so many, and has had so many faults
abbrev pub unread : Option (List ℕ) → ℕ → ℕ → List ℕ → ℕ → FileView
unread left bound faults code loader = view_of (opened left bound faults) code loader false

-- So far these items of the file are answered, and all accepted entries among them are committed.
pub record IsLoading {O : Type 0} (replies : Replies) (start now : FileView) (old new : Pass O Event) (counts : Counts) (refused : List RefusedItem) : Type 0 where
  pub accepted : List Entry
  pub taken : IsGathered start now accepted refused
  pub committed_are : (origin : Origin) → CommitsAs replies origin → HasCommitted origin accepted [] no_counts counts old new
  pub turned : HasTurned old new counts.accepted
  pub counted : IsCounted counts new.seen
