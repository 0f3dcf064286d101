-- Outputs that are open side by side, each under a name of its own.
use Rattle.std.specs.Prelude.{◌≡◌, ◌⊎◌, ℕ, ◌+◌, ◌≤◌, ◌==◌, Bool, true, false, List, [], ◌∷◌, Option, Some, None, Result, IsErr, OnOk, OnErr, Contains, slice_get, if◌then◌else◌}
use Rattle.std.specs.Io.KnownBytes.{Appends}
use Rattle.outside.specs.Fault.{Rose}
use Rattle.outside.specs.Room.{RoomView, AsOutput, IsNoneOf, SameBut}
use Rattle.outside.specs.declared.fault.Failed.{Failed}
use Rattle.split_command.specs.declared.fault.SplitFault.{SplitFault}
use Rattle.split_command.specs.declared.fault.SplitFault.TheVariants.{Input, Output, Memory}

-- no name stands twice
abbrev pub AreApart : List (List ℕ) → Type 0
AreApart [] = Unit {0}
AreApart (name ∷ names) = IsNoneOf name names × AreApart names

-- none of these names is open
abbrev pub AreFree : RoomView → List (List ℕ) → Type 0
AreFree room [] = Unit {0}
AreFree room (name ∷ names) = (room.open_as name ≡ None) × AreFree room names

-- each of these names is open as an output
abbrev pub AreBegun : RoomView → List (List ℕ) → Type 0
AreBegun room [] = Unit {0}
AreBegun room (name ∷ names) = (room.open_as name ≡ Some AsOutput) × AreBegun room names

-- the file of each name is as it was
pub record KeepsFiles (old new : RoomView) : Type 0 where
  pub files : (name : List ℕ) → new.file name ≡ old.file name

-- a fault of the outputs of one of these names was counted
pub record HasOutputFault (names : List (List ℕ)) (old new : RoomView) : Type 0 where
  pub name : List ℕ
  pub among : Contains names name
  pub rose : Rose (old.out_faults name) (new.out_faults name)

-- a fault of outputs has its cause there, and want of memory needs none
abbrev pub IsOutputCause : List (List ℕ) → RoomView → RoomView → SplitFault → Type 0
IsOutputCause names old new Input = ⊥
IsOutputCause names old new Output = HasOutputFault names old new
IsOutputCause names old new Memory = Unit {0}

-- nothing is written to any of them yet, where the room tells it, and none has a fault
abbrev pub AreFresh : {K : Type 0} → (K → Option (List ℕ)) → (K → ℕ) → RoomView → List K → Type 0
AreFresh written faults room [] = Unit {0}
AreFresh written faults room (out ∷ outs) = (room.tells ≡ true → written out ≡ Some []) × (faults out ≡ 0) × AreFresh written faults room outs

-- each of these, of which the first is of that share, got what is due to its share, and no count of faults fell
abbrev pub AreDealt : {K : Type 0} → (K → Option (List ℕ)) → (K → ℕ) → (ℕ → List ℕ) → ℕ → List K → List K → Type 0
AreDealt written faults due share [] [] = Unit {0}
AreDealt written faults due share [] (now ∷ new) = ⊥
AreDealt written faults due share (was ∷ old) [] = ⊥
AreDealt written faults due share (was ∷ old) (now ∷ new) =
    Appends (written was) (written now) (due share) × (faults was ≤ faults now) × AreDealt written faults due (share + 1) old new

-- of one of these the count of faults rose
pub record HasSinkFault {K : Type 0} (faults : K → ℕ) (old new : List K) : Type 0 where
  pub index : ℕ
  pub was : K
  pub now : K
  pub before : slice_get old index ≡ Some was
  pub behind : slice_get new index ≡ Some now
  pub rose : Rose (faults was) (faults now)

-- where an output had a fault, one of its name is counted
abbrev pub RaisesFaults : {K : Type 0} → (K → ℕ) → List (List ℕ) → List K → RoomView → RoomView → Type 0
RaisesFaults {K} faults names outs old new = (index : ℕ) (name : List ℕ) (out : K) → slice_get names index ≡ Some name
    → slice_get outs index ≡ Some out → Rose 0 (faults out) → Rose (old.out_faults name) (new.out_faults name)

-- the file of that name holds this, or is as it was
abbrev pub IsPutOrOld : RoomView → RoomView → List ℕ → Option (List ℕ) → Type 0
IsPutOrOld old new name bytes = (new.file name ≡ bytes) ⊎ (new.file name ≡ old.file name)

-- An output of that name is ended: where it is kept it takes the place of its file, else that is as it was.
pub record EndsOutput (old new : RoomView) (name : List ℕ) (bytes : Option (List ℕ)) (keep : Bool) (result : Result (Unit {0}) Failed) : Type 0 where
  pub apart : SameBut old new (name ∷ [])
  pub closed : new.open_as name ≡ None
  pub put : OnOk result (old.tells ≡ true → new.file name ≡ bytes)
  pub or_not : old.tells ≡ true → IsPutOrOld old new name bytes
  pub given_up : keep ≡ false → IsErr result × (new.file name ≡ old.file name)
  pub cause : keep ≡ true → OnErr result (Rose (old.out_faults name) (new.out_faults name))

-- each file holds what was written to the output of its name
abbrev pub AreClosedWhole : {K : Type 0} → (K → Option (List ℕ)) → RoomView → List (List ℕ) → List K → Type 0
AreClosedWhole written room [] outs = Unit {0}
AreClosedWhole written room (name ∷ names) [] = ⊥
AreClosedWhole written room (name ∷ names) (out ∷ outs) = (room.file name ≡ written out) × AreClosedWhole written room names outs

-- each does, or is as it was
abbrev pub AreClosedOrNot : {K : Type 0} → (K → Option (List ℕ)) → RoomView → RoomView → List (List ℕ) → List K → Type 0
AreClosedOrNot written old new [] outs = Unit {0}
AreClosedOrNot written old new (name ∷ names) [] = ⊥
AreClosedOrNot written old new (name ∷ names) (out ∷ outs) =
    IsPutOrOld old new name (written out) × AreClosedOrNot written old new names outs

-- a piece that has a share is due there, and nowhere else
abbrev pub due_to : ℕ → List ℕ → ℕ → List ℕ
due_to own piece share = if own == share then piece else []

-- each of these shares of a file, from that share on, is as it was or whole
abbrev pub AreOldOrWhole : (ℕ → List ℕ) → ℕ → RoomView → RoomView → List (List ℕ) → Type 0
AreOldOrWhole due share old new [] = Unit {0}
AreOldOrWhole due share old new (name ∷ names) =
    IsPutOrOld old new name (Some (due share)) × AreOldOrWhole due (share + 1) old new names

-- each of these is whole
abbrev pub AreWhole : (ℕ → List ℕ) → ℕ → RoomView → List (List ℕ) → Type 0
AreWhole due share new [] = Unit {0}
AreWhole due share new (name ∷ names) = (new.file name ≡ Some (due share)) × AreWhole due (share + 1) new names
