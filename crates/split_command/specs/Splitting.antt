-- The command `split`: files cut into the shares of parts, which are loaded by themselves. The rules are this project's own.
use Rattle.std.specs.Prelude.{◌≡◌, ◌⊎◌, ℕ, ◌+◌, ◌≤◌, true, List, [], length, Some, IsSome, IsTrue, slice_get, All, Contains}
use Rattle.std.specs.List.Sorted.{IsSorted}
use Rattle.std.specs.Io.KnownBytes.{Appends}
use Rattle.marc_types.specs.Valid.{is_code}
use Rattle.marc_types.specs.Order.{key_cmp}
use Rattle.marc_types.specs.declared.key.Key.{Key}
use Rattle.marc_types.specs.declared.key.Class.TheVariants.{Authority}
use Rattle.outside.specs.Fault.{Rose}
use Rattle.outside.specs.Room.{RoomView, SameBut}
use Rattle.outside.specs.Sink.{WritesFront}
use Rattle.command_words.specs.declared.library.Library.{Library}
use Rattle.console_lines.specs.Ends.{Outcome, IsTold, IsAllDone, IsSilent, end_of, out_unwritten, console_unwritten}
use Rattle.console_lines.specs.declared.end.End.{End}
use Rattle.console_lines.specs.declared.end.End.TheVariants as ending
use Rattle.console_lines.specs.declared.end.Unwritten.TheVariants.{Out, Side, Pages, Console}
use Rattle.console_lines.specs.declared.fault.Fault.{Fault}
use Rattle.console_lines.specs.declared.fault.Fault.TheVariants as fault
use Rattle.split_command.specs.Names.{share_name, parts_name, split_names}
use Rattle.split_command.specs.Shares.{Piece, dealt}
use Rattle.split_command.specs.Cut.{FileCut, AreCut}
use Rattle.split_command.specs.Outputs.{IsPutOrOld}
use Rattle.split_command.specs.Groups.{HasInputFault}
use Rattle.split_command.specs.Console.{console_of, any_refused, parts_text}

-- the codes of these libraries obey the rule of codes
abbrev pub AreProper : List Library → Type 0
AreProper libraries = All (λ library. IsTrue (is_code library.code)) libraries

-- why an output could not be written: a file of its name is there, as far as the room tells its files, and nothing changed; or a fault
-- of the outputs of its name was counted
pub data WhyUnwritten (names : List (List ℕ)) (old new : RoomView) : Type 0 where
  IsThere : (name : List ℕ) → Contains names name → (old.tells ≡ true → IsSome (old.file name)) → SameBut old new [] → WhyUnwritten names old new
  HasFault : (name : List ℕ) → Contains names name → Rose (old.out_faults name) (new.out_faults name) → WhyUnwritten names old new

-- all pieces make authorities
abbrev pub HasNoRecord : FileCut → Type 0
HasNoRecord cut = All (λ (piece : Piece). piece.entry.class ≡ Authority) cut.pieces

-- Bounds for so many parts: they ascend, and there is one between each two parts, or none where no file has a bibliographic record.
-- Which keys they are is nowhere said: whatever they are, each record is in one part.
pub record AreBounds (parts : ℕ) (cuts : List FileCut) (bounds : List Key) : Type 0 where
  pub ascend : IsSorted key_cmp bounds
  pub many : (length bounds + 1 ≡ parts) ⊎ ((bounds ≡ []) × All HasNoRecord cuts)

-- the files are cut, and each share of each file stands under its name, as does what PREFIX.parts says
pub record IsSplit (parts : ℕ) (prefix : List ℕ) (libraries : List Library) (old new : RoomView) (bounds : List Key) (cuts : List FileCut) : Type 0 where
  pub bounded : AreBounds parts cuts bounds
  pub cut : AreCut old libraries cuts
  pub shares : (file share : ℕ) (c : FileCut) → slice_get cuts file ≡ Some c → share ≤ parts
      → new.file (share_name prefix share file) ≡ Some (dealt bounds share c.pieces)
  pub listed : new.file (parts_name prefix) ≡ Some (parts_text parts libraries bounds)

-- each share is whole, or its file is as it was; and PREFIX.parts is as it was
pub record IsSplitInPart (parts : ℕ) (prefix : List ℕ) (libraries : List Library) (old new : RoomView) (bounds : List Key) (cuts : List FileCut) : Type 0 where
  pub bounded : AreBounds parts cuts bounds
  pub cut : AreCut old libraries cuts
  pub shares : (file share : ℕ) (c : FileCut) → slice_get cuts file ≡ Some c → share ≤ parts
      → IsPutOrOld old new (share_name prefix share file) (Some (dealt bounds share c.pieces))
  pub unlisted : new.file (parts_name prefix) ≡ old.file (parts_name prefix)

-- what is left of a split that was begun: nothing changed, or some shares are whole, or all is
pub data IsSplitLeft (parts : ℕ) (prefix : List ℕ) (libraries : List Library) (old new : RoomView) : Type 0 where
  Unbegun : SameBut old new [] → IsSplitLeft parts prefix libraries old new
  InPart : (bounds : List Key) (cuts : List FileCut) → IsSplitInPart parts prefix libraries old new bounds cuts
      → IsSplitLeft parts prefix libraries old new
  InFull : (bounds : List Key) (cuts : List FileCut) → IsSplit parts prefix libraries old new bounds cuts
      → IsSplitLeft parts prefix libraries old new

-- all was written and told
pub record IsSplitAndTold (parts : ℕ) (prefix : List ℕ) (libraries : List Library) (o : Outcome) : Type 0 where
  pub bounds : List Key
  pub cuts : List FileCut
  pub is : IsSplit parts prefix libraries o.old o.new bounds cuts
  pub console : Appends o.told o.now (console_of libraries cuts)
  pub end_is : o.end ≡ end_of (any_refused cuts)

-- all was written, and the console was told a front
pub record IsSplitUntold (parts : ℕ) (prefix : List ℕ) (libraries : List Library) (o : Outcome) : Type 0 where
  pub bounds : List Key
  pub cuts : List FileCut
  pub is : IsSplit parts prefix libraries o.old o.new bounds cuts
  pub console : WritesFront o.told o.now (console_of libraries cuts)

-- how it can end
abbrev pub EndsSplitting : End → Type 0
EndsSplitting ending.Done = Unit {0}
EndsSplitting ending.Refused = Unit {0}
EndsSplitting (ending.Unwritten Out) = Unit {0}
EndsSplitting (ending.Unwritten Side) = ⊥
EndsSplitting (ending.Unwritten Pages) = ⊥
EndsSplitting (ending.Unwritten Console) = Unit {0}
EndsSplitting (ending.Told fault.Usage) = ⊥
EndsSplitting (ending.Told fault.Input) = Unit {0}
EndsSplitting (ending.Told fault.Device) = ⊥
EndsSplitting (ending.Told (fault.NotAJournal place)) = ⊥
EndsSplitting (ending.Told fault.Full) = ⊥
EndsSplitting (ending.Told fault.Memory) = Unit {0}
EndsSplitting (ending.Told fault.OldVersion) = ⊥
EndsSplitting (ending.Told fault.OtherHistory) = ⊥
EndsSplitting ending.BroughtInPart = ⊥
EndsSplitting ending.Differ = ⊥

-- The command `split`.
pub record Splits (parts : ℕ) (prefix : List ℕ) (libraries : List Library) (o : Outcome) : Type 0 where
  pub ends : EndsSplitting o.end
  pub told : (why : Fault) → o.end ≡ ending.Told why → IsTold why o
  -- each fault has its cause
  pub input : o.end ≡ ending.Told fault.Input → HasInputFault libraries o.old o.new
  pub out_cause : o.end ≡ out_unwritten → WhyUnwritten (split_names prefix parts (length libraries)) o.old o.new
  pub console_cause : o.end ≡ console_unwritten → Rose o.faults o.faults_now
  pub silent : o.end ≡ out_unwritten → IsSilent o
  -- where a file of one of its names is there, nothing changes, and it ends so
  pub kept : (name : List ℕ) → Contains (split_names prefix parts (length libraries)) name → o.old.tells ≡ true → IsSome (o.old.file name)
      → SameBut o.old o.new [] × ((o.end ≡ out_unwritten) ⊎ (o.end ≡ ending.Told fault.Memory))
  -- all was written; where the console could not be written, too
  pub whole : IsAllDone o.end → o.old.tells ≡ true → IsSplitAndTold parts prefix libraries o
  pub untold : o.end ≡ console_unwritten → o.old.tells ≡ true → IsSplitUntold parts prefix libraries o
  -- else each share is whole by itself or not there, and PREFIX.parts comes last
  pub left : o.old.tells ≡ true → IsSplitLeft parts prefix libraries o.old o.new
