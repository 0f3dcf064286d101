-- What clauses see of a `FileEntries`, and what its `next` does.
use Rattle.std.specs.Prelude.{◌≡◌, ℕ, ◌≤◌, Bool, true, false, List, ◌++◌}
use Rattle.marc_types.specs.declared.entry.Entry.{Entry}
use Rattle.marc_stream.specs.Pieces.{Item}
use Rattle.marc_stream.specs.Stream.{Stream, ReadsOn, Answers, Ends, Fails}
use Rattle.marc_types.specs.Valid.{is_code}
use Rattle.file_entries.specs.Files.{IsEntryOf, IsRefusedItem, IsJudged, listed}
use Rattle.file_entries.specs.declared.refused.RefusedItem.{RefusedItem}
use Rattle.file_entries.specs.declared.entries.NextEntry.{NextEntry}
use Rattle.file_entries.specs.declared.entries.NextEntry.TheVariants as next

-- a file that one loader makes entries of
pub record FileView : Type 0 where
  -- its items, as they are cut
  pub stream : Stream
  -- its library code
  pub library : List ℕ
  pub loader : ℕ
  -- whether the end, a fault or want of memory was answered
  pub over : Bool

-- a file of a library and loader, of which this is to come
abbrev pub view_of : Stream → List ℕ → ℕ → Bool → FileView
view_of stream library loader over = record { stream = stream; library = library; loader = loader; over = over }

-- the code is proper, and while nothing is over there are items to ask for
pub record IsFile (stream : Stream) (library : List ℕ) (over : Bool) : Type 0 where
  pub library_is : is_code library ≡ true
  pub going : over ≡ false → stream.over ≡ false

-- library and loader stay
pub record IsSameFile (old new : FileView) : Type 0 where
  pub library : new.library ≡ old.library
  pub loader : new.loader ≡ old.loader

-- the next item was answered as its entry
pub record GivesEntry (old new : FileView) (e : Entry) : Type 0 where
  pub item : Item
  pub answers : Answers old.stream new.stream item
  pub is : IsEntryOf old.library old.loader item e
  pub over : new.over ≡ false

-- the next item was answered as refused
pub record GivesRefused (old new : FileView) (refused : RefusedItem) : Type 0 where
  pub item : Item
  pub answers : Answers old.stream new.stream item
  pub why : IsRefusedItem old.library item refused.refusal
  pub listed_is : refused ≡ listed item refused.refusal
  pub over : new.over ≡ false

-- no item is left
pub record IsEnd (old new : FileView) : Type 0 where
  pub ends : Ends old.stream new.stream
  pub over : new.over ≡ true

-- the source failed before the next item was known
pub record IsFault (old new : FileView) : Type 0 where
  pub fails : Fails old.stream new.stream
  pub over : new.over ≡ true

-- memory ran out, and an item may be lost
pub record IsOutOfMemory (old new : FileView) : Type 0 where
  pub reads : ReadsOn old.stream new.stream
  pub over : new.over ≡ true

-- the next item is an entry, refused, the end, or a fault, and what is then left to come
abbrev pub EntryGives : FileView → NextEntry → FileView → Type 0
EntryGives old (next.Entry e) new = GivesEntry old new e
EntryGives old (next.Refused refused) new = GivesRefused old new refused
EntryGives old next.End new = IsEnd old new
EntryGives old next.ReadFault new = IsFault old new
EntryGives old next.NoMemory new = IsOutOfMemory old new

-- So far these entries and these refused items were answered; the other items are to come.
pub record IsAnswered (start now : FileView) (accepted : List Entry) (refused : List RefusedItem) : Type 0 where
  pub going : now.over ≡ false
  pub same : IsSameFile start now
  pub tells : now.stream.tells ≡ start.stream.tells
  pub faults : start.stream.faults ≤ now.stream.faults
  pub done : List Item
  pub judged : IsJudged start.library start.loader done accepted refused
  pub split : start.stream.tells ≡ true → start.stream.coming ≡ done ++ now.stream.coming
