-- What is written of some shares of a file.
use Rattle.std.specs.Prelude.{◌≡◌, ℕ, ◌+◌, ◌≤◌, ◌<◌, true, List, length, All, slice_get, Some, None, IsSomeAnd}
use Rattle.outside.specs.Room.{RoomView, IsNoneOf}
use Rattle.outside.specs.Fault.{Rose}
use Rattle.marc_stream.specs.Pieces.{items}
use Rattle.command_words.specs.declared.library.Library.{Library}
use Rattle.split_command.specs.Names.{share_name, names_from, names_of_files}
use Rattle.split_command.specs.Shares.{dealt}
use Rattle.split_command.specs.Cut.{FileCut, IsCut, AreCut}
use Rattle.split_command.specs.Outputs.{AreWhole, AreOldOrWhole, HasOutputFault, IsPutOrOld}
use Rattle.split_command.specs.declared.plan.Plan.{Plan}
use Rattle.split_command.specs.declared.plan.Group.{Group}
use Rattle.split_command.specs.declared.fault.SplitFault.{SplitFault}
use Rattle.split_command.specs.declared.fault.SplitFault.TheVariants.{Input, Output, Memory}

-- the file of a library is there, and comes to this
abbrev pub HasCut : RoomView → Library → FileCut → Type 0
HasCut room library cut = IsSomeAnd (room.file library.file) (λ bytes. IsCut library.code (items bytes) cut.pieces cut.refused)

-- the names of a group
abbrev pub names_in : Plan → Group → List (List ℕ)
names_in plan group = names_from plan.prefix group.file group.first group.many

-- the numbers of a group are of shares that there are
pub record IsGroup (plan : Plan) (group : Group) : Type 0 where
  pub some : plan.parts ≤ 1024
  pub shares : group.first + group.many ≤ plan.parts + 1

-- what is due to each share of a file
abbrev pub due_of : Plan → FileCut → ℕ → List ℕ
due_of plan cut share = dealt plan.bounds share cut.pieces

-- whatever the file comes to, each share of the group is whole
abbrev pub IsGroupWhole : RoomView → RoomView → Plan → Library → Group → Type 0
IsGroupWhole old new plan library group = (cut : FileCut) → old.tells ≡ true → HasCut old library cut
    → AreWhole (due_of plan cut) group.first new (names_in plan group)

-- each is whole, or as it was
abbrev pub IsGroupLeft : RoomView → RoomView → Plan → Library → Group → Type 0
IsGroupLeft old new plan library group = (cut : FileCut) → old.tells ≡ true → HasCut old library cut
    → AreOldOrWhole (due_of plan cut) group.first old new (names_in plan group)

-- the file of a library isn't under a name of the shares of the file with that number
abbrev pub IsOutside : Plan → Library → ℕ → Type 0
IsOutside plan library file = IsNoneOf library.file (names_from plan.prefix file 0 (plan.parts + 1))

-- whatever the file with that number comes to, each share before this one is whole
abbrev pub IsFileWhole : RoomView → RoomView → Plan → Library → ℕ → ℕ → Type 0
IsFileWhole old new plan library file end = (cut : FileCut) → old.tells ≡ true → IsOutside plan library file → HasCut old library cut → (share : ℕ) → share < end
    → new.file (share_name plan.prefix share file) ≡ Some (due_of plan cut share)

-- and each before this one is whole or as it was
abbrev pub IsFileLeft : RoomView → RoomView → Plan → Library → ℕ → ℕ → Type 0
IsFileLeft old new plan library file end = (cut : FileCut) → old.tells ≡ true → IsOutside plan library file → HasCut old library cut → (share : ℕ) → share < end
    → IsPutOrOld old new (share_name plan.prefix share file) (Some (due_of plan cut share))

-- why a group couldn't be written: a fault of the file's inputs or of the outputs of these names was counted, or memory ran out
abbrev pub IsGroupCause : List ℕ → List (List ℕ) → RoomView → RoomView → SplitFault → Type 0
IsGroupCause input names old new Input = Rose (old.in_faults input) (new.in_faults input)
IsGroupCause input names old new Output = HasOutputFault names old new
IsGroupCause input names old new Memory = Unit {0}

-- no file of the names of so many files' shares is there, so none of the inputs is written over
abbrev pub AreNotWritten : RoomView → Plan → ℕ → Type 0
AreNotWritten room plan files = All (λ name. room.file name ≡ None) (names_of_files plan.prefix plan.parts 0 files)

-- a fault of the input of some library's file was counted
pub record HasInputFault (libraries : List Library) (old new : RoomView) : Type 0 where
  pub index : ℕ
  pub library : Library
  pub named : slice_get libraries index ≡ Some library
  pub rose : Rose (old.in_faults library.file) (new.in_faults library.file)

-- whatever the files come to, where none is written over, each share of each is whole
abbrev pub AreFilesWhole : RoomView → RoomView → Plan → List Library → Type 0
AreFilesWhole old new plan libraries = (cuts : List FileCut) → old.tells ≡ true → AreCut old libraries cuts
    → AreNotWritten old plan (length libraries) → (file share : ℕ) (cut : FileCut) → slice_get cuts file ≡ Some cut → share ≤ plan.parts
    → new.file (share_name plan.prefix share file) ≡ Some (due_of plan cut share)

-- and each is whole or as it was
abbrev pub AreFilesLeft : RoomView → RoomView → Plan → List Library → Type 0
AreFilesLeft old new plan libraries = (cuts : List FileCut) → old.tells ≡ true → AreCut old libraries cuts
    → AreNotWritten old plan (length libraries) → (file share : ℕ) (cut : FileCut) → slice_get cuts file ≡ Some cut → share ≤ plan.parts
    → IsPutOrOld old new (share_name plan.prefix share file) (Some (due_of plan cut share))

-- why the files couldn't be dealt out: a fault of an input or of the outputs of these names was counted, or memory ran out
abbrev pub IsFilesCause : List Library → List (List ℕ) → RoomView → RoomView → SplitFault → Type 0
IsFilesCause libraries names old new Input = HasInputFault libraries old new
IsFilesCause libraries names old new Output = HasOutputFault names old new
IsFilesCause libraries names old new Memory = Unit {0}
