-- How the command ends that joins the exports of parts. The rules are this project's own.
use Rattle.std.specs.Prelude.{◌≡◌, ◌⊎◌, ℕ, true, false, List, Option, Some}
use Rattle.std.specs.Io.KnownBytes.{Appends}
use Rattle.marc_stream.specs.Pieces.{items}
use Rattle.marc_stream.specs.Stream.{Stream}
use Rattle.outside.specs.Fault.{Rose, count_total}
use Rattle.outside.specs.Room.{RoomView, IsUntouched}
use Rattle.console_lines.specs.Ends.{Outcome, IsTold, IsSilent, IsDifferenceTold, out_unwritten}
use Rattle.console_lines.specs.declared.end.End.{End}
use Rattle.console_lines.specs.declared.end.End.TheVariants.{Done, Refused, Unwritten, Told, BroughtInPart, Differ}
use Rattle.console_lines.specs.declared.end.Unwritten.TheVariants.{Out, Side, Pages, Console}
use Rattle.console_lines.specs.declared.fault.Fault.{Fault}
use Rattle.console_lines.specs.declared.fault.Fault.TheVariants as fault
use Rattle.parts_commands.specs.Exports.{AreJoinedTo, ExportsDiffer, authorities_of, bytes_of}
use Rattle.parts_commands.specs.Reading.{IsFaultOfReading}
use Rattle.parts_commands.specs.Reports.{FileOf}
use Rattle.parts_commands.specs.Taking.{IsAppended, IsNotAppended}
use Rattle.parts_commands.specs.declared.stop.Stop.{Stop}
use Rattle.parts_commands.specs.declared.stop.Stop.TheVariants as stop
use Rattle.parts_commands.specs.declared.joining.Stopped.{Stopped}
use Rattle.parts_commands.specs.declared.joining.Stopped.TheVariants.{Unlike, Input, NoMemory, Output}

-- an export was opened to be cut into pieces: where files are told, all its items are to come
pub record IsOpened (room : RoomView) (name : List ℕ) (pieces : Stream) : Type 0 where
  pub over : pieces.over ≡ false
  pub fresh : pieces.faults ≡ 0
  pub tells : room.tells ≡ true → pieces.tells ≡ true
  pub bytes : List ℕ
  pub there : room.tells ≡ true → room.file name ≡ Some bytes
  pub coming : room.tells ≡ true → pieces.coming ≡ items bytes

-- the authorities of the file of that name were written
pub record AreWritten (file : FileOf) (name : List ℕ) (old new : Option (List ℕ)) : Type 0 where
  pub bytes : List ℕ
  pub there : file name ≡ Some bytes
  pub wrote : Appends old new (bytes_of (authorities_of (items bytes)))

-- the file of that name is a part with the authorities of the first, behind that record, and its records were written
pub record IsPartWritten (file : FileOf) (first name last last_now : List ℕ) (old new : Option (List ℕ)) : Type 0 where
  pub first_bytes : List ℕ
  pub first_there : file first ≡ Some first_bytes
  pub bytes : List ℕ
  pub there : file name ≡ Some bytes
  pub appended : IsAppended (items first_bytes) (items bytes) last last_now old new

-- it isn't, and a place of its own
pub record IsOtherPart (file : FileOf) (first name last : List ℕ) (place : ℕ) : Type 0 where
  pub first_bytes : List ℕ
  pub first_there : file first ≡ Some first_bytes
  pub bytes : List ℕ
  pub there : file name ≡ Some bytes
  pub not : IsNotAppended (items first_bytes) (items bytes) last place

-- what is joined of the files of these names was written
pub record AreJoinedBehind (file : FileOf) (names : List (List ℕ)) (old new : Option (List ℕ)) : Type 0 where
  pub due : List ℕ
  pub joined : AreJoinedTo file names due
  pub wrote : Appends old new due

-- what stopped the writing of an export of that name
abbrev pub IsStoppedAt : Stop → List ℕ → Stopped → Type 0
IsStoppedAt (stop.Unlike place) name (Unlike at of) = (at ≡ place) × (of.now ≡ name)
IsStoppedAt stop.Input name Input = Unit {0}
IsStoppedAt stop.NoMemory name NoMemory = Unit {0}
IsStoppedAt stop.Output name Output = Unit {0}
IsStoppedAt _ name _ = ⊥

-- why the joining stopped, with the output's faults before and after
abbrev pub StopsJoining : RoomView → RoomView → List (List ℕ) → ℕ → ℕ → Stopped → Type 0
StopsJoining old new names before now (Unlike place name) = old.tells ≡ true → ExportsDiffer old.file names place name.now
StopsJoining old new names before now Input = Rose (count_total old.in_faults names) (count_total new.in_faults names)
StopsJoining old new names before now NoMemory = Unit {0}
StopsJoining old new names before now Output = Rose before now

-- how it ends: nothing is refused, and the console is told faults alone
abbrev pub EndsJoining : End → Type 0
EndsJoining Done = Unit {0}
EndsJoining Refused = ⊥
EndsJoining (Unwritten Out) = Unit {0}
EndsJoining (Unwritten Side) = ⊥
EndsJoining (Unwritten Pages) = ⊥
EndsJoining (Unwritten Console) = ⊥
EndsJoining (Told why) = IsFaultOfReading why
EndsJoining BroughtInPart = ⊥
EndsJoining Differ = Unit {0}

-- the exports are there and can be joined, and OUT is what they come to
pub record IsJoinedInto (names : List (List ℕ)) (out : List ℕ) (old new : RoomView) : Type 0 where
  pub due : List ℕ
  pub joined : AreJoinedTo old.file names due
  pub put : new.file out ≡ Some due

-- what is left of OUT where the joining stopped
abbrev pub LeavesOut : RoomView → RoomView → List (List ℕ) → List ℕ → Stopped → Type 0
LeavesOut old new names out (Unlike place name) = IsUntouched old new out
LeavesOut old new names out Input = IsUntouched old new out
LeavesOut old new names out NoMemory = IsUntouched old new out
LeavesOut old new names out Output = old.tells ≡ true → IsUntouched old new out ⊎ IsJoinedInto names out old new

-- it was told which export can't be joined, and where
pub record IsOtherExportTold (names : List (List ℕ)) (o : Outcome) : Type 0 where
  pub place : ℕ
  pub name : List ℕ
  pub line : IsDifferenceTold place name o
  pub so : o.old.tells ≡ true → ExportsDiffer o.old.file names place name

-- The command `join`: what is joined of the exports is written into the file OUT, whole or not at all. No other file changes.
pub record Joins (out : List ℕ) (names : List (List ℕ)) (o : Outcome) : Type 0 where
  pub ends : EndsJoining o.end
  -- each fault is told, and has its cause
  pub told : (why : Fault) → o.end ≡ Told why → IsTold why o
  pub input : o.end ≡ Told fault.Input → Rose (count_total o.old.in_faults names) (count_total o.new.in_faults names)
  pub differ : o.end ≡ Differ → IsOtherExportTold names o
  -- where anything is told OUT is as it was; else nothing is told
  pub untouched : (o.end ≡ Differ) ⊎ ((why : Fault) × (o.end ≡ Told why)) → IsUntouched o.old o.new out
  pub silent : (o.end ≡ Done) ⊎ (o.end ≡ out_unwritten) → IsSilent o
  -- done, OUT is what is joined of the exports; where it could not be written, it is that or as it was
  pub whole : o.end ≡ Done → o.old.tells ≡ true → IsJoinedInto names out o.old o.new
  pub cause : o.end ≡ out_unwritten → Rose (o.old.out_faults out) (o.new.out_faults out)
  pub part : o.end ≡ out_unwritten → o.old.tells ≡ true → IsUntouched o.old o.new out ⊎ IsJoinedInto names out o.old o.new
