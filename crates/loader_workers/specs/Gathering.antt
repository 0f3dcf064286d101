-- How a loader gathers the entries of its next turn from its file. The rules are this project's own.
use Rattle.std.specs.Prelude.{◌≡◌, ◌≢◌, ◌+◌, ◌<◌, ◌≤◌, List, [], ◌++◌, length, Option, Some, None}
use Rattle.marc_types.specs.declared.entry.Entry.{Entry}
use Rattle.marc_stream.specs.Stream.{ReadsOn}
use Rattle.file_entries.specs.Entries.{FileView, IsEnd, IsFault, IsAnswered}
use Rattle.file_entries.specs.declared.refused.RefusedItem.{RefusedItem}
use Rattle.loader_workers.specs.declared.file_end.FileEnd.{FileEnd}
use Rattle.loader_workers.specs.declared.file_end.FileEnd.TheVariants.{Done, ReadFault, Full, DeviceFault, NoMemory}

-- So far these entries and these refused items were answered, and the source was read on.
pub record IsGathered (start now : FileView) (accepted : List Entry) (refused : List RefusedItem) : Type 0 where
  pub answered : IsAnswered start now accepted refused
  pub reads : ReadsOn start.stream now.stream

-- By the end: none, where the file goes on; the file's end; a fault of the source; or want of memory, where an item may be lost
abbrev pub StopsAt : Option FileEnd → FileView → FileView → Type 0
StopsAt None last now = now ≡ last
StopsAt (Some Done) last now = IsEnd last now
StopsAt (Some ReadFault) last now = IsFault last now
StopsAt (Some NoMemory) last now = ReadsOn last.stream now.stream
StopsAt (Some Full) last now = ⊥
StopsAt (Some DeviceFault) last now = ⊥

-- These entries were gathered and these items refused. Where the file goes on there is an entry, and fewer bytes are ahead.
pub record Gathers (start now : FileView) (accepted : List Entry) (refused : List RefusedItem) (end : Option FileEnd) : Type 0 where
  pub last : FileView
  pub taken : IsGathered start last accepted refused
  pub stops : StopsAt end last now
  pub some : end ≡ None → (accepted ≢ []) × (now.stream.most < start.stream.most)

-- Since the start these entries are held, and these items were refused behind those before; each entry took a byte or more.
pub record IsGathering (start now : FileView) (before refused : List RefusedItem) (held : List Entry) : Type 0 where
  pub more : List RefusedItem
  pub refused_are : refused ≡ before ++ more
  pub taken : IsGathered start now held more
  pub falls : now.stream.most + length held ≤ start.stream.most

-- these items were refused behind those before, and these entries gathered
pub record HasGathered (start now : FileView) (before refused : List RefusedItem) (entries : List Entry) (end : Option FileEnd) : Type 0 where
  pub more : List RefusedItem
  pub refused_are : refused ≡ before ++ more
  pub gathers : Gathers start now entries more end
