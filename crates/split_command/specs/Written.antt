-- What a split comes to before the console is told.
use Rattle.std.specs.Prelude.{◌≡◌, ◌⊎◌, ℕ, true, List, [], length, All, Contains, IsSome, None, Some, slice_get, string_bytes, Result, OnOk, IfErr, ◌≤◌}
use Rattle.marc_types.specs.declared.key.Key.{Key}
use Rattle.outside.specs.Room.{RoomView, SameBut}
use Rattle.command_words.specs.declared.library.Library.{Library}
use Rattle.split_command.specs.Names.{share_name, parts_name, split_names}
use Rattle.split_command.specs.Shares.{dealt}
use Rattle.split_command.specs.Cut.{FileCut, AreCut}
use Rattle.split_command.specs.Console.{console_of, any_refused, parts_text}
use Rattle.split_command.specs.Groups.{HasInputFault, IsFilesCause}
use Rattle.split_command.specs.Outputs.{IsPutOrOld}
use Rattle.split_command.specs.Splitting.{IsSplit, IsSplitLeft, WhyUnwritten}
use Rattle.split_command.specs.declared.plan.Plan.{Plan}
use Rattle.split_command.specs.declared.splitting.Told.{Told}
use Rattle.split_command.specs.declared.fault.SplitFault.{SplitFault}
use Rattle.split_command.specs.declared.fault.SplitFault.TheVariants.{Input, Output, Memory}

-- no file of the names of a split is there
abbrev pub NothingIsThere : RoomView → ℕ → List ℕ → ℕ → Type 0
NothingIsThere room parts prefix files = All (λ name. room.file name ≡ None) (split_names prefix parts files)

-- each share of each file is whole, and PREFIX.parts
pub record IsAllWritten (plan : Plan) (libraries : List Library) (new : RoomView) (cuts : List FileCut) : Type 0 where
  pub shares : (file share : ℕ) (c : FileCut) → slice_get cuts file ≡ Some c → share ≤ plan.parts
      → new.file (share_name plan.prefix share file) ≡ Some (dealt plan.bounds share c.pieces)
  pub listed : new.file (parts_name plan.prefix) ≡ Some (parts_text plan.parts libraries plan.bounds)

-- each share is whole or as it was, and PREFIX.parts is as it was
pub record IsPartWritten (plan : Plan) (libraries : List Library) (old new : RoomView) (cuts : List FileCut) : Type 0 where
  pub shares : (file share : ℕ) (c : FileCut) → slice_get cuts file ≡ Some c → share ≤ plan.parts
      → IsPutOrOld old new (share_name plan.prefix share file) (Some (dealt plan.bounds share c.pieces))
  pub unlisted : new.file (parts_name plan.prefix) ≡ old.file (parts_name plan.prefix)

-- What the writing of all files leaves, whatever these come to, where no file of its names was there.
pub record WritesFiles (old new : RoomView) (plan : Plan) (libraries : List Library) (result : Result (Unit {0}) SplitFault) : Type 0 where
  pub whole : OnOk result ((cuts : List FileCut) → old.tells ≡ true → AreCut old libraries cuts
      → NothingIsThere old plan.parts plan.prefix (length libraries) → IsAllWritten plan libraries new cuts)
  pub left : (cuts : List FileCut) → old.tells ≡ true → AreCut old libraries cuts → NothingIsThere old plan.parts plan.prefix (length libraries)
      → IsPartWritten plan libraries old new cuts ⊎ IsAllWritten plan libraries new cuts
  pub cause : IfErr result (IsFilesCause libraries (split_names plan.prefix plan.parts (length libraries)) old new)

-- all was written, and this is to be told
pub record IsWrittenWhole (parts : ℕ) (prefix : List ℕ) (libraries : List Library) (old new : RoomView) (told : Told) : Type 0 where
  pub bounds : List Key
  pub cuts : List FileCut
  pub is : IsSplit parts prefix libraries old new bounds cuts
  pub text : string_bytes told.text ≡ console_of libraries cuts
  pub has : told.has_refused ≡ any_refused cuts
  pub free : NothingIsThere old parts prefix (length libraries)

-- the same where the room tells its files
abbrev pub IsWritten : ℕ → List ℕ → List Library → RoomView → RoomView → Told → Type 0
IsWritten parts prefix libraries old new told = old.tells ≡ true → IsWrittenWhole parts prefix libraries old new told

-- why a split stopped
abbrev pub WhyStopped : ℕ → List ℕ → List Library → RoomView → RoomView → SplitFault → Type 0
WhyStopped parts prefix libraries old new Input = HasInputFault libraries old new
WhyStopped parts prefix libraries old new Output = WhyUnwritten (split_names prefix parts (length libraries)) old new
WhyStopped parts prefix libraries old new Memory = Unit {0}

-- where a file of one of the names is there, it stops so
abbrev pub StopsAtFile : SplitFault → Type 0
StopsAtFile Input = ⊥
StopsAtFile Output = Unit {0}
StopsAtFile Memory = Unit {0}

-- a split stopped, and this is left
pub record IsStopped (parts : ℕ) (prefix : List ℕ) (libraries : List Library) (old new : RoomView) (why : SplitFault) : Type 0 where
  pub cause : WhyStopped parts prefix libraries old new why
  pub kept : (name : List ℕ) → Contains (split_names prefix parts (length libraries)) name → old.tells ≡ true → IsSome (old.file name)
      → SameBut old new [] × StopsAtFile why
  pub left : old.tells ≡ true → IsSplitLeft parts prefix libraries old new
