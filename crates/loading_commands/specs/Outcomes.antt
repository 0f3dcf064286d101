-- What loading a command's files into a journal comes to. The rules are this project's own.
use Rattle.std.specs.Prelude.{◌≡◌, ◌≢◌, ◌⊎◌, ℕ, ◌+◌, ◌<◌, Bool, true, false, List, [], ◌∷◌, ◌++◌, length, map, take, All, Option, Some, None, is_some, Result, Ok, Err, slice_get, if◌then◌else◌, IfOk, OnErr}
use Rattle.std.specs.List.{list_any}
use Rattle.marc_types.specs.declared.entry.Entry.{Entry}
use Rattle.marc_types.specs.declared.copying.NoMemory.{NoMemory}
use Rattle.outside.specs.Fault.{Rose}
use Rattle.outside.specs.Room.{RoomView, AsLog, SameBut}
use Rattle.commit_journal.specs.Log.{version_of}
use Rattle.entry_record.specs.History.{IsWithin}
use Rattle.command_words.specs.declared.library.Library.{Library}
use Rattle.command_words.specs.declared.asked.LoadRequest.{LoadRequest}
use Rattle.console_lines.specs.declared.fault.Fault.{Fault}
use Rattle.console_lines.specs.declared.fault.Fault.TheVariants as fault
use Rattle.durable_catalogue.specs.Durables.{Opening, marked}
use Rattle.durable_catalogue.specs.Logs.{HasHistory}
use Rattle.durable_catalogue.specs.Openings.{IsUnopened}
use Rattle.durable_catalogue.specs.Views.{DurableView}
use Rattle.durable_catalogue.specs.declared.fault.OpenFault.{OpenFault}
use Rattle.durable_catalogue.specs.declared.fault.OpenFault.TheVariants as opening
use Rattle.loader_workers.specs.Loading.{IsCutShort}
use Rattle.loader_workers.specs.declared.file_end.FileEnd.{FileEnd}
use Rattle.loader_workers.specs.declared.file_end.FileEnd.TheVariants as end
use Rattle.loader_workers.specs.declared.result.FileResult.{FileResult}
use Rattle.loader_workers.specs.Files.{IsFileLoaded, AreOfOneFile, AreLoaded}
use Rattle.loader_workers.specs.declared.input.InputFile.{InputFile}
use Rattle.journal_files.specs.Faults.{fault_of_opening}
use Rattle.journal_files.specs.Journals.{journal_limits, log_bytes, IsOpenedFrom, IsOpenedAs, IsClosedTo, IsClosedAs, KeepsHistory}
use Rattle.loading_commands.specs.Inputs.{IsProper, IsInputFault, AreInputs, IsFresh}

-- the file of a library was loaded by the loader with that number
pub record IsLibraryLoaded (room : RoomView) (before added : List Entry) (mark : Option (List Entry)) (library : Library) (loader : ℕ) (result : FileResult) : Type 0 where
  pub bytes : List ℕ
  pub there : room.file library.file ≡ Some bytes
  pub loaded : IsFileLoaded (journal_limits room) before added mark library.code bytes loader result

-- each was, by the loader with its number, the first of these by `loader`
pub data AreLibrariesLoaded (room : RoomView) (before added : List Entry) (mark : Option (List Entry)) : (loader : ℕ) → List Library → List FileResult → Type 0 where
  NoLibrary : (loader : ℕ) → AreLibrariesLoaded room before added mark loader [] []
  OneLibrary : (loader : ℕ) (libraries : List Library) (results : List FileResult) (library : Library) (result : FileResult)
      → IsLibraryLoaded room before added mark library loader result → AreLibrariesLoaded room before added mark (loader + 1) libraries results
      → AreLibrariesLoaded room before added mark loader (library ∷ libraries) (result ∷ results)

-- How far each file was read, of whose input this was left: where the file's end is a read fault, no item is left out that ends, with its
-- terminator, within the bytes that the input gave.
abbrev pub AreReadTo : {room : RoomView} {before added : List Entry} {mark : Option (List Entry)} {loader : ℕ} {libraries : List Library}
    {results : List FileResult} → AreLibrariesLoaded room before added mark loader libraries results → List (Option (List ℕ)) → Type 0
AreReadTo (NoLibrary loader) [] = Unit {0}
AreReadTo (NoLibrary loader) (left ∷ lefts) = ⊥
AreReadTo (OneLibrary loader libraries results library result is are) [] = ⊥
AreReadTo (OneLibrary loader libraries results library result is are) (left ∷ lefts) =
    (result.end ≡ end.ReadFault → IsCutShort (Some is.bytes) left is.loaded.coming) × AreReadTo are lefts

-- Files were loaded behind these entries: `added` are entries of their loaders, and those of a frame that a device failed to take
-- are all of one of them.
pub record AreLoadedBehind (room : RoomView) (libraries : List Library) (before added : List Entry) (mark : Option (List Entry)) (results : List FileResult) : Type 0 where
  pub files : AreLibrariesLoaded room before added mark 0 libraries results
  pub loaders : All (λ e. e.loader < length libraries) (added ++ marked mark)
  pub frame : AreOfOneFile (length libraries) (marked mark)

-- a file has this end
abbrev pub ends_so : FileEnd → FileEnd → Bool
ends_so end.Done end.Done = true
ends_so end.ReadFault end.ReadFault = true
ends_so end.Full end.Full = true
ends_so end.DeviceFault end.DeviceFault = true
ends_so end.NoMemory end.NoMemory = true
ends_so a b = false

-- some file has this end
abbrev pub any_ends : FileEnd → List FileResult → Bool
any_ends e results = list_any (λ r. ends_so e r.end) results

-- the fault of loading: a device's before a full catalogue, that before a source's, and want of memory last
unfoldable pub loading_fault : List FileResult → Option Fault
loading_fault results =
    if any_ends end.DeviceFault results then Some fault.Device
    else if any_ends end.Full results then Some fault.Full
    else if any_ends end.ReadFault results then Some fault.Input
    else if any_ends end.NoMemory results then Some fault.Memory
    else None

-- Files were loaded whole into the journal of that name, over which the catalogue is still open: it had `before`, and has `added`
-- behind that.
pub record IsLoadedWhole (room : RoomView) (journal : List ℕ) (libraries : List Library) (d : DurableView) (results : List FileResult) : Type 0 where
  pub before : List Entry
  pub added : List Entry
  pub opened : IsOpenedFrom room journal before None d.opened
  pub entries_are : d.entries ≡ before ++ added
  pub unmarked : d.mark ≡ None
  pub loaded : AreLoadedBehind room libraries before added None results
  pub faultless : loading_fault results ≡ None

-- Loading ended by a fault, and the journal of that name and all inputs are closed. It had `before`, and has behind that what was committed; of a
-- frame that a device failed to take it may have all entries too, and there is none after another fault. A file's end is a read fault only
-- where its own input failed.
pub record IsLoadedInPart (old new : RoomView) (journal : List ℕ) (libraries : List Library) (why : Fault) : Type 0 where
  pub before : List Entry
  pub added : List Entry
  pub mark : Option (List Entry)
  pub results : List FileResult
  pub o : Opening
  pub opened : IsOpenedFrom old journal before None o
  pub loaded : AreLoadedBehind old libraries before added mark results
  pub faulty : loading_fault results ≡ Some why
  pub unmarked : why ≢ fault.Device → mark ≡ None
  pub closed : IsClosedTo new journal (before ++ added) mark o
  -- all of it is within the journal's limits, that frame included
  pub within : IsWithin (journal_limits old) ((before ++ added) ++ marked mark)
  pub lefts : List (Option (List ℕ))
  pub lefts_are : new.lefts ≡ lefts ++ old.lefts
  pub read_to : AreReadTo loaded.files lefts
  pub failing : (index : ℕ) (library : Library) (result : FileResult) → slice_get libraries index ≡ Some library → slice_get results index ≡ Some result
      → result.end ≡ end.ReadFault → Rose (old.in_faults library.file) (new.in_faults library.file)

-- the files of the first of these libraries, so many, were opened, and closed again with nothing read of them
pub record AreUnread (old new : RoomView) (libraries : List Library) : Type 0 where
  pub count : ℕ
  pub lefts_are : new.lefts ≡ map (λ (library : Library). old.file library.file) (take count libraries) ++ old.lefts

-- Why loading didn't begin: the journal isn't opened, and has the history that it had, and is full only where its version is 2; or
-- an input isn't opened, or there is no memory to begin, and the journal was opened and closed again with nothing added, and nothing read
-- of the inputs.
pub data IsUnbegun (old new : RoomView) (journal : List ℕ) (libraries : List Library) (why : Fault) : Type 0 where
  Unopened : (of : OpenFault) → why ≡ fault_of_opening of → IsUnopened (journal_limits old) (log_bytes old journal) of
      → (of ≡ opening.Full → version_of (log_bytes old journal) ≡ 2) → KeepsHistory (of ≡ opening.DeviceFault) old new journal
      → IsUnbegun old new journal libraries why
  Unbegun : (before : List Entry) (o : Opening) → (why ≡ fault.Input) ⊎ (why ≡ fault.Memory) → IsOpenedFrom old journal before None o → IsClosedTo new journal before None o
      → AreUnread old new libraries → IsUnbegun old new journal libraries why

-- why files are not loaded whole: loading didn't begin, or it ended in part
pub data IsLoadingFault (old new : RoomView) (journal : List ℕ) (libraries : List Library) (why : Fault) : Type 0 where
  NotBegun : IsUnbegun old new journal libraries why → IsLoadingFault old new journal libraries why
  InPart : IsLoadedInPart old new journal libraries why → IsLoadingFault old new journal libraries why

-- a file of these libraries isn't there
pub record IsFileMissing (libraries : List Library) (room : RoomView) : Type 0 where
  pub index : ℕ
  pub library : Library
  pub named : slice_get libraries index ≡ Some library
  pub missing : room.file library.file ≡ None

-- the journal of that name has each history that it had
abbrev pub HasSameHistory : RoomView → RoomView → List ℕ → Type 0
HasSameHistory old new journal = (entries : List Entry) → HasHistory entries (log_bytes old journal) → HasHistory entries (log_bytes new journal)

-- The journal and all files of a request were opened, when the room was so: the catalogue has the journal's history, and the inputs have
-- the files' bytes to come.
pub record HasBegun {S : Type 0} (left : S → Option (List ℕ)) (faults : S → ℕ) (old : RoomView) (asked : LoadRequest) (d : DurableView)
    (inputs : List (InputFile S)) : Type 0 where
  pub proper : IsProper asked
  pub catalogue : IsOpenedAs old asked.journal.now d
  pub inputs_are : AreInputs left old asked.libraries inputs
  pub fresh : All (IsFresh faults) inputs

-- The room while files are loaded into a journal: the journal is open, and since the room was so, with no open name, nothing else has
-- changed.
pub record IsWaiting (old now : RoomView) (journal : List ℕ) : Type 0 where
  pub free : (name : List ℕ) → old.open_as name ≡ None
  pub is_open : now.open_as journal ≡ Some AsLog
  pub apart : SameBut old now (journal ∷ [])
  pub lefts : now.lefts ≡ old.lefts

-- What was so begun, over the catalogue `d` and of these inputs, was loaded, and came to these results; without memory to load anything
-- all is as it was.
pub record Reads {S : Type 0} (left : S → Option (List ℕ)) (faults : S → ℕ) (old : RoomView) (asked : LoadRequest) (d : DurableView)
    (inputs : List (InputFile S)) (now : DurableView) (after : List (InputFile S)) (results : Result (List FileResult) NoMemory) : Type 0 where
  pub begun : HasBegun left faults old asked d inputs
  pub origin : now.opened ≡ d.opened
  pub loaded : IfOk results (λ rs. AreLoaded left faults d.opened.origin.limits d.entries inputs after rs now.entries now.mark)
  pub unbegun : OnErr results (now.entries ≡ d.entries)
  pub unmarked : OnErr results (now.mark ≡ None)
  pub unread : OnErr results (after ≡ inputs)

-- the same of what a loading holds that was loaded: it was begun over some catalogue, and of some inputs
pub record HasRead {S : Type 0} (left : S → Option (List ℕ)) (faults : S → ℕ) (old : RoomView) (asked : LoadRequest) (now : DurableView)
    (after : List (InputFile S)) (results : Result (List FileResult) NoMemory) : Type 0 where
  pub d : DurableView
  pub inputs : List (InputFile S)
  pub reads : Reads left faults old asked d inputs now after results

-- The files were not loaded whole, for that reason: the journal is closed, and a fault of the outside has its cause. What there is
-- then, where the room tells its files, is `so`.
pub record Fails (old new : RoomView) (journal : List ℕ) (libraries : List Library) (why : Fault) (so : Type 0) : Type 0 where
  pub closed : new.open_as journal ≡ None
  pub because : old.tells ≡ true → so
  pub device : why ≡ fault.Device → Rose (old.log_faults journal) (new.log_faults journal)
  pub input : why ≡ fault.Input → IsInputFault libraries old new
  pub no_usage : why ≢ fault.Usage
  pub no_other_history : why ≢ fault.OtherHistory

-- The catalogue over the journal, into which all files were loaded, is still open.
pub record HasLoaded (old new : RoomView) (journal : List ℕ) (libraries : List Library) (d : DurableView) (results : List FileResult) : Type 0 where
  pub is_open : new.open_as journal ≡ Some AsLog
  pub whole : old.tells ≡ true → IsLoadedWhole old journal libraries d results
  pub count : length results ≡ length libraries

-- the results of loading, none of which is a fault
pub record IsFinished (results : Result (List FileResult) NoMemory) (are : List FileResult) : Type 0 where
  pub ok : results ≡ Ok are
  pub faultless : loading_fault are ≡ None

-- there was no memory to begin, or the results have this fault
pub data IsStopped (why : Fault) : Result (List FileResult) NoMemory → Type 0 where
  Unloaded : (e : NoMemory) → why ≡ fault.Memory → IsStopped why (Err e)
  Faulty : (results : List FileResult) → loading_fault results ≡ Some why → IsStopped why (Ok results)

-- Loading ended by that fault, and the journal over this catalogue was closed: its file, where the room tells and the log told when it
-- was opened. A mark has its cause in the count of faults.
pub record IsClosedBy (why : Fault) (results : Result (List FileResult) NoMemory) (old new : RoomView) (journal : List ℕ) (d : DurableView) : Type 0 where
  pub ended : IsStopped why results
  pub closed : new.open_as journal ≡ None
  pub log : old.tells ≡ true → d.opened.tells ≡ true → IsClosedAs new journal d
  pub cause : is_some d.mark ≡ true → d.opened.faults ≡ 0 → Rose (old.log_faults journal) (new.log_faults journal)
