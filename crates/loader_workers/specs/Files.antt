-- What loading files side by side does to a catalogue over a journal. The rules are this project's own.
use Rattle.std.specs.Prelude.{◌≡◌, ◌≢◌, ℕ, ◌+◌, ◌<◌, ◌≤◌, true, List, [], ◌∷◌, ◌++◌, map, length, All, Option, Some, None, is_some, IsTrue}
use Rattle.std.specs.List.{range_with_len}
use Rattle.marc_types.specs.declared.entry.Entry.{Entry}
use Rattle.marc_types.specs.declared.entry.Limits.{Limits}
use Rattle.marc_types.specs.Sums.{sums_of}
use Rattle.marc_types.specs.Limits.{most_entries}
use Rattle.marc_types.specs.Valid.{is_code}
use Rattle.outside.specs.Fault.{Rose}
use Rattle.marc_stream.specs.Pieces.{Item, items}
use Rattle.file_entries.specs.Files.{IsJudged}
use Rattle.entry_record.specs.History.{brought_by, with_run, next_run}
use Rattle.catalogue_rules.specs.Receipts.{receipts_of_loader}
use Rattle.entry_history.specs.declared.event.Event.{Event}
use Rattle.catalogue_lock.specs.History.{numbered}
use Rattle.catalogue_lock.specs.Passes.{Lock, Pass, new_pass}
use Rattle.durable_catalogue.specs.Durables.{marked, events}
use Rattle.loader_workers.specs.Loading.{IsCutShort}
use Rattle.loader_workers.specs.Turns.{IsFullBehind}
use Rattle.loader_workers.specs.declared.file_end.FileEnd.{FileEnd}
use Rattle.loader_workers.specs.declared.file_end.FileEnd.TheVariants.{Done, ReadFault, Full, DeviceFault, NoMemory}
use Rattle.loader_workers.specs.declared.result.FileResult.{FileResult}
use Rattle.loader_workers.specs.declared.input.InputFile.{InputFile}

-- Why the loading of a file ended. Done: all of its items are judged, and all accepted entries are committed. ReadFault: all
-- accepted entries among those judged are committed. Full: the next one passes a limit. DeviceFault: a device failed.
abbrev pub IsEndOfFile : Limits → List Entry → ℕ → Option (List Entry) → FileEnd → List Entry → List Item → Type 0
IsEndOfFile limits history run mark Done rest coming = (rest ≡ []) × (coming ≡ [])
IsEndOfFile limits history run mark ReadFault rest coming = rest ≡ []
IsEndOfFile limits history run mark Full rest coming = IsFullBehind limits history run rest
IsEndOfFile limits history run mark DeviceFault rest coming = is_some mark ≡ true
IsEndOfFile limits history run mark NoMemory rest coming = Unit {0}

-- What loading did of one file with these bytes. Of its items `done` are judged and `coming` are not. Of the accepted entries
-- `front` are committed, `next` are those in the frame that a device failed to take, and `more` are left.
pub record IsFileLoaded (limits : Limits) (before added : List Entry) (mark : Option (List Entry)) (code : List ℕ) (bytes : List ℕ) (loader : ℕ) (result : FileResult) : Type 0 where
  pub done : List Item
  pub coming : List Item
  pub front : List Entry
  pub next : List Entry
  pub more : List Entry
  pub split : items bytes ≡ done ++ coming
  pub judged : IsJudged code loader done (front ++ next ++ more) result.refused
  pub committed_are : brought_by loader added ≡ with_run (next_run before) front
  pub marked_are : brought_by loader (marked mark) ≡ with_run (next_run before) next
  pub accepted : result.accepted ≡ length front
  pub sums : result.sums ≡ sums_of (receipts_of_loader loader before added)
  pub ends : IsEndOfFile limits (before ++ added) (next_run before) mark result.end (next ++ more) coming

-- these entries are of the loader of one of so many files
pub record AreOfOneFile (files : ℕ) (entries : List Entry) : Type 0 where
  pub loader : ℕ
  pub below : loader < files
  pub all : All (λ e. e.loader ≡ loader) entries

-- one to 64 files of proper codes
pub record CanBeLoaded {S : Type 0} (files : List (InputFile S)) : Type 0 where
  pub some : 0 < length files
  pub few : length files ≤ 64
  pub proper : All (λ file. IsTrue (is_code file.code)) files

-- the first so many passes of a new lock
abbrev pub first_passes : {O : Type 0} → Lock O → List Event → ℕ → List (Pass O Event)
first_passes l brought count = map (new_pass l.id (Some l.opened) (numbered None brought)) (range_with_len 0 count)

-- the pass behind so many
abbrev pub extra_pass : {O : Type 0} → Lock O → List Event → ℕ → Pass O Event
extra_pass l brought number = new_pass l.id (Some l.opened) (numbered None brought) number

-- A lock was made over a catalogue of these entries, limits and run, of which no frame is in doubt, and these are its first passes, one
-- for each of so many files.
pub record IsLockOver {O : Type 0} (before : List Entry) (mark : Option (List Entry)) (limits : Limits) (run files : ℕ)
    (lock : Lock O) (passes : List (Pass O Event)) : Type 0 where
  pub passes_are : passes ≡ first_passes lock (events before mark) files
  pub whole : mark ≡ None
  pub run_is : run ≡ next_run before
  pub few : limits.entries ≤ most_entries

module _ {S : Type 0} (left : S → Option (List ℕ)) (faults : S → ℕ) where
  -- One file was loaded, and its source comes back. Where that failed, no item is left out that ends, with its terminator, within
  -- the bytes that it gave.
  pub record LoadsFile (limits : Limits) (before added : List Entry) (mark : Option (List Entry)) (loader : ℕ) (old new : InputFile S) (result : FileResult) : Type 0 where
    pub loaded : (bytes : List ℕ) → left old.source ≡ Some bytes → IsFileLoaded limits before added mark old.code bytes loader result
    pub read_to : (bytes : List ℕ) (told : left old.source ≡ Some bytes) → result.end ≡ ReadFault → IsCutShort (Some bytes) (left new.source) (loaded bytes told).coming
    pub code : new.code ≡ old.code
    pub broken : result.end ≡ DeviceFault → is_some mark ≡ true
    pub later : faults old.source ≤ faults new.source
    pub cause : result.end ≡ ReadFault → Rose (faults old.source) (faults new.source)

  -- each file was loaded by the loader with its number, the first of these with `loader`
  pub data EachLoaded (limits : Limits) (before added : List Entry) (mark : Option (List Entry)) : (loader : ℕ) → List (InputFile S) → List (InputFile S) → List FileResult → Type 0 where
    NoFile : (loader : ℕ) → EachLoaded limits before added mark loader [] [] []
    OneMore : (loader : ℕ) (files after : List (InputFile S)) (results : List FileResult) (old new : InputFile S) (result : FileResult)
        → LoadsFile limits before added mark loader old new result → EachLoaded limits before added mark (loader + 1) files after results
        → EachLoaded limits before added mark loader (old ∷ files) (new ∷ after) (result ∷ results)

  -- What loading files did to a catalogue of these entries: it has `added` behind them, all of these files' loaders, and where a
  -- device failed that is marked, with a frame of one of them.
  pub record AreLoaded (limits : Limits) (before : List Entry) (old new : List (InputFile S)) (results : List FileResult) (after : List Entry) (mark : Option (List Entry)) : Type 0 where
    pub added : List Entry
    pub after_is : after ≡ before ++ added
    pub loaders : All (λ e. e.loader < length old) (added ++ marked mark)
    pub frame : AreOfOneFile (length old) (marked mark)
    pub few : length (marked mark) ≤ 32
    pub each : EachLoaded limits before added mark 0 old new results
    pub unmarked : All (λ r. r.end ≢ DeviceFault) results → mark ≡ None
