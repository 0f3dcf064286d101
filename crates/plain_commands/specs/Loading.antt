-- What a file's items make of an empty catalogue.
use Rattle.std.specs.Prelude.{◌≡◌, ℕ, ◌≤◌, Bool, true, false, List, [], ◌∷◌, ◌++◌, Option, Some, None, Result, Ok, Err, IsSomeAnd, IfOk, IfErr, cond}
use Rattle.marc_types.specs.declared.entry.Entry.{Entry}
use Rattle.marc_types.specs.declared.entry.Limits.{Limits}
use Rattle.marc_types.specs.Limits.{most_entries}
use Rattle.outside.specs.Fault.{Rose}
use Rattle.outside.specs.Room.{RoomView}
use Rattle.marc_stream.specs.Pieces.{Item, items}
use Rattle.marc_stream.specs.Stream.{Stream}
use Rattle.catalogue_core.specs.Catalogues.{Catalogued, is_full}
use Rattle.file_entries.specs.Entries.{FileView, GivesEntry, GivesRefused, IsEnd, IsFault}
use Rattle.file_entries.specs.Files.{IsEntryOf, IsJudged}
use Rattle.file_entries.specs.declared.refused.RefusedItem.{RefusedItem}
use Rattle.console_lines.specs.declared.fault.Fault.{Fault}
use Rattle.console_lines.specs.declared.fault.Fault.TheVariants.{Usage, Input, Device, NotAJournal, Full, Memory, OldVersion, OtherHistory}
use Rattle.marc_types.specs.declared.sums.Sums.{Sums}
use Rattle.plain_commands.specs.Totals.{holding, IsWithinLimits, IsSummed}

-- the limits of a catalogue, the entries of a file that were committed to it, and the file's items that are refused
pub record LoadedView : Type 0 where
  pub limits : Limits
  pub accepted : List Entry
  pub refused : List RefusedItem

-- the catalogue has these entries, they are within its limits, which aren't above the most, and their receipts are summed
pub record IsCommitted (core : Catalogued) (sums : Sums) : Type 0 where
  pub holds : core ≡ holding core.limits core.history
  pub few : core.limits.entries ≤ most_entries
  pub within : IsWithinLimits core.limits core.history
  pub summed : IsSummed core.history sums

-- an input's fault has its cause: the count of its name rose
abbrev pub HasInputCause : List ℕ → RoomView → RoomView → Fault → Type 0
HasInputCause name old new why = why ≡ Input → Rose (old.in_faults name) (new.in_faults name)

-- nothing accepted, nothing refused
abbrev pub nothing_loaded : Limits → LoadedView
nothing_loaded limits = record { limits = limits; accepted = []; refused = [] }

-- with one more accepted entry
abbrev pub with_accepted : LoadedView → Entry → LoadedView
with_accepted l e = record { limits = l.limits; accepted = l.accepted ++ e ∷ []; refused = l.refused }

-- with one more refused item
abbrev pub with_refused : LoadedView → RefusedItem → LoadedView
with_refused l item = record { limits = l.limits; accepted = l.accepted; refused = l.refused ++ item ∷ [] }

-- the limits have no room for an entry behind these
unfoldable pub lacks_room : Limits → List Entry → Entry → Bool
lacks_room limits accepted e = is_full (holding limits accepted) e

-- the items were judged, and the accepted entries are within the limits
pub record IsLoaded (limits : Limits) (library : List ℕ) (items : List Item) (loaded : LoadedView) : Type 0 where
  pub judged : IsJudged library 0 items loaded.accepted loaded.refused
  pub within : IsWithinLimits limits loaded.accepted

-- the limits have no room for the next accepted entry of these items
pub record IsFullAt (limits : Limits) (library : List ℕ) (items : List Item) : Type 0 where
  pub done : List Item
  pub accepted : List Entry
  pub refused : List RefusedItem
  pub judged : IsJudged library 0 done accepted refused
  pub item : Item
  pub rest : List Item
  pub split : items ≡ done ++ item ∷ rest
  pub next : Entry
  pub entry : IsEntryOf library 0 item next
  pub full : is_full (holding limits accepted) next ≡ true

-- the file that a room has under a name was loaded, where the room tells it
abbrev pub IsLoadedIn : Limits → RoomView → List ℕ → List ℕ → LoadedView → Type 0
IsLoadedIn limits room name library loaded =
    room.tells ≡ true → IsSomeAnd (room.file name) (λ bytes. IsLoaded limits library (items bytes) loaded)

-- for the fault Full, the limits have no room for the file that a room has under a name, where the room tells it
abbrev pub IsFullIn : Limits → RoomView → List ℕ → List ℕ → Fault → Type 0
IsFullIn limits room name library fault =
    fault ≡ Full → room.tells ≡ true → IsSomeAnd (room.file name) (λ bytes. IsFullAt limits library (items bytes))

-- the faults that end the loading of a file
abbrev pub IsFaultOfLoading : Fault → Type 0
IsFaultOfLoading Input = Unit {0}
IsFaultOfLoading Full = Unit {0}
IsFaultOfLoading Memory = Unit {0}
IsFaultOfLoading Usage = ⊥
IsFaultOfLoading Device = ⊥
IsFaultOfLoading (NotAJournal place) = ⊥
IsFaultOfLoading OldVersion = ⊥
IsFaultOfLoading OtherHistory = ⊥

-- one more item of a file was taken up
pub data IsTakenUp (old : FileView) (before : LoadedView) (new : FileView) (after : LoadedView) : Type 0 where
  TakenAsEntry : (e : Entry) → GivesEntry old new e → after ≡ with_accepted before e → IsTakenUp old before new after
  TakenAsRefused : (item : RefusedItem) → GivesRefused old new item → after ≡ with_refused before item → IsTakenUp old before new after

-- the next item is an entry, for which the limits have no room
pub record IsOverfull (old : FileView) (before : LoadedView) (new : FileView) : Type 0 where
  pub next : Entry
  pub gives : GivesEntry old new next
  pub full : lacks_room before.limits before.accepted next ≡ true

-- what becomes of the next item, by whether there was one
abbrev pub TakesNext : FileView → LoadedView → Result Bool Fault → FileView → LoadedView → Type 0
TakesNext old before (Ok true) new after = IsTakenUp old before new after
TakesNext old before (Ok false) new after = IsEnd old new × (after ≡ before)
TakesNext old before (Err Full) new after = IsOverfull old before new
TakesNext old before (Err Input) new after = IsFault old new
TakesNext old before (Err Memory) new after = Unit {0}
TakesNext old before (Err Usage) new after = ⊥
TakesNext old before (Err Device) new after = ⊥
TakesNext old before (Err (NotAJournal place)) new after = ⊥
TakesNext old before (Err OldVersion) new after = ⊥
TakesNext old before (Err OtherHistory) new after = ⊥

-- the items that are to come, where the source tells its bytes
abbrev pub told_items : Stream → Option (List Item)
told_items stream = cond stream.tells (Some stream.coming) None

-- How the loading of items ends, where these are told, with the count of their source's faults before and now.
pub record LoadsItems (limits : Limits) (library : List ℕ) (told : Option (List Item)) (before now : ℕ) (result : Result LoadedView Fault) : Type 0 where
  pub loaded : IfOk result (λ loaded. (items : List Item) → told ≡ Some items → IsLoaded limits library items loaded)
  pub full : IfErr result (λ fault. fault ≡ Full → (items : List Item) → told ≡ Some items → IsFullAt limits library items)
  pub faults : before ≤ now
  pub cause : IfErr result (λ fault. fault ≡ Input → Rose before now)
  pub kind : IfErr result IsFaultOfLoading
