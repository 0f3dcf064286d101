-- What an output leaves of the file of its name.
use Rattle.std.specs.Prelude.{◌≡◌, ℕ, ◌≤◌, max, true, List, length, Option, Some, None, Result}
use Rattle.console_lines.specs.declared.end.Unwritten.{Unwritten}
use Rattle.console_lines.specs.declared.end.Unwritten.TheVariants.{Out, Side}
use Rattle.outside.specs.Fault.{HasWriteCause, Rose}
use Rattle.outside.specs.Room.{RoomView, SameBut}
use Rattle.outside.specs.declared.fault.WriteFault.{WriteFault}

-- the file is as it was, or has all the bytes that are due there
pub data IsOldOrWhole (old new : Option (List ℕ)) (due : List ℕ) : Type 0 where
  AsItWas : new ≡ old → IsOldOrWhole old new due
  Whole : new ≡ Some due → IsOldOrWhole old new due

-- an output of these bytes was begun and ended, or wasn't begun: its file is as it was or whole, and where it failed it had no more bytes
pub record IsOutputLeft (old new : RoomView) (out due : List ℕ) : Type 0 where
  pub file : IsOldOrWhole (old.file out) (new.file out) due
  pub failed_at : new.failed_at out ≤ max (old.failed_at out) (length due)

-- The output of that name is closed, and its file holds what is due there or is as it was; a fault of it has its cause.
pub record IsOutput {T : Type 0} (old new : RoomView) (out due : List ℕ) (result : Result T WriteFault) : Type 0 where
  pub closed : new.open_as out ≡ None
  pub left : old.tells ≡ true → IsOutputLeft old new out due
  pub cause : HasWriteCause (old.out_faults out) (new.out_faults out) result

-- each of two outputs holds what is due there
pub record AreWritten (out side due due_side : List ℕ) (new : RoomView) : Type 0 where
  pub whole : new.file out ≡ Some due
  pub side_whole : new.file side ≡ Some due_side

-- the first could not be written, and nothing but these names changed, so the second wasn't begun; or the second could not, and the
-- first is whole
pub data AreStopped (names : List (List ℕ)) (out side due due_side : List ℕ) (old new : RoomView) (which : Unwritten) : Type 0 where
  AtFirst : which ≡ Out → Rose (old.out_faults out) (new.out_faults out)
      → (old.tells ≡ true → IsOutputLeft old new out due) → SameBut old new names
      → AreStopped names out side due due_side old new which
  AtSecond : which ≡ Side → Rose (old.out_faults side) (new.out_faults side)
      → (old.tells ≡ true → new.file out ≡ Some due) → (old.tells ≡ true → IsOutputLeft old new side due_side)
      → AreStopped names out side due due_side old new which
