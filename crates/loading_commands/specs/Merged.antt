-- The one history that files make which are loaded side by side. The rules are this project's own.
use Rattle.std.specs.Prelude.{◌≡◌, ℕ, ◌+◌, ◌≤◌, max, true, List, [], ◌∷◌, ◌++◌, length, Some, is_some}
use Rattle.marc_types.specs.declared.entry.Entry.{Entry}
use Rattle.outside.specs.Disk.{OnlyContent}
use Rattle.outside.specs.Room.{RoomView}
use Rattle.command_words.specs.declared.library.Library.{Library}
use Rattle.marc_stream.specs.Pieces.{items}
use Rattle.commit_journal.specs.declared.format.TheConstants.{BLANK_LENGTH}
use Rattle.commit_journal.specs.Log.{version_of, walk_of}
use Rattle.commit_journal.specs.Journal.{EndsAt}
use Rattle.file_entries.specs.Files.{IsJudged}
use Rattle.file_entries.specs.declared.refused.RefusedItem.{RefusedItem}
use Rattle.entry_record.specs.History.{IsMerged, IsWithin}
use Rattle.durable_catalogue.specs.Logs.{HasHistory}
use Rattle.durable_catalogue.specs.Images.{HoldsEntries, framed_lengths}
use Rattle.journal_files.specs.Journals.{journal_limits, log_bytes}

-- The accepted entries and the refused items of the files of libraries, in their order: each file is there, and each of its items
-- is judged by itself. The first of these files has that loader.
pub data AreJudged (room : RoomView) : (loader : ℕ) → List Library → List (List Entry) → List (List RefusedItem) → Type 0 where
  NoFile : (loader : ℕ) → AreJudged room loader [] [] []
  OneFile : (loader : ℕ) (library : Library) (bytes : List ℕ) (entries : List Entry) (refused_items : List RefusedItem) (libraries : List Library)
      (accepted : List (List Entry)) (refused : List (List RefusedItem))
      → room.file library.file ≡ Some bytes → IsJudged library.code loader (items bytes) entries refused_items → AreJudged room (loader + 1) libraries accepted refused
      → AreJudged room loader (library ∷ libraries) (entries ∷ accepted) (refused_items ∷ refused)

-- The journal's history is what it was, followed by each file's accepted entries, each once and in its file's order; and a crash at
-- any moment leaves a prefix of it, of version 2.
pub record IsOneHistory (old new : RoomView) (journal : List ℕ) (libraries : List Library) (before added : List Entry)
    (accepted : List (List Entry)) (refused : List (List RefusedItem)) : Type 0 where
  -- what it was, each file's items, and that they are merged behind it
  pub was : HasHistory before (log_bytes old journal)
  pub version : version_of (log_bytes old journal) ≡ 2
  pub judged : AreJudged old 0 libraries accepted refused
  pub merged : IsMerged before accepted added
  -- all of it is within the journal's limits
  pub within : IsWithin (journal_limits old) (before ++ added)
  -- what it is, in the file and in each image that a crash now may leave
  pub closed : new.has_log journal ≡ true
  pub there : is_some (new.file journal) ≡ true
  pub is : HasHistory (before ++ added) (log_bytes new journal)
  pub images : (c : List ℕ) → (new.log journal).image c → HasHistory (before ++ added) c
  -- and the file is all that a crash now may leave
  pub only : OnlyContent (new.log journal)
  -- and that nothing stands behind it, and the journal takes more
  pub ended : EndsAt (walk_of (log_bytes new journal)).place (log_bytes new journal)
  pub newest : version_of (log_bytes new journal) ≡ 2
  -- and no longer than it was, or than a blank one, with a frame for each entry that was added
  pub longest : length (log_bytes new journal) ≤ max BLANK_LENGTH (length (log_bytes old journal)) + framed_lengths added
  -- each image at each moment since the opening's first sync is of version 2, begins with what it was, and is a front of what it is;
  -- where the log tells its moments there was that sync
  pub synced : (new.log journal).dated ≡ true → is_some ((new.log journal).synced 0) ≡ true
  pub crash : (s : ℕ) (c : List ℕ) → (new.log journal).dated ≡ true → (new.log journal).synced 0 ≡ Some s → (new.log journal).left s c
      → HoldsEntries (length before) (before ++ added) [] c
