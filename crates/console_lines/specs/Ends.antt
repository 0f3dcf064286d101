-- How a command ends, and what it did. The statuses are this project's own.
use Rattle.std.specs.Prelude.{◌≡◌, ◌≢◌, ℕ, Bool, List, Option, if◌then◌else◌}
use Rattle.std.specs.Io.KnownBytes.{Appends}
use Rattle.outside.specs.Fault.{Rose}
use Rattle.outside.specs.Room.{RoomView}
use Rattle.outside.specs.Sink.{WritesFront}
use Rattle.console_lines.specs.Faults.{fault_status, fault_line, IsFaultTold}
use Rattle.console_lines.specs.Lines.{part_line, differ_line}
use Rattle.console_lines.specs.declared.fault.Fault.{Fault}
use Rattle.console_lines.specs.declared.end.End.{End}
use Rattle.console_lines.specs.declared.end.End.TheVariants.{Done, Refused, Unwritten, Told, BroughtInPart, Differ}
use Rattle.console_lines.specs.declared.end.Unwritten.TheVariants.{Out, Side, Pages, Console}

-- the exit status of an end
abbrev pub end_status : End → ℕ
end_status Done = 0
end_status Refused = 1
end_status (Unwritten which) = 4
end_status (Told fault) = fault_status fault
end_status BroughtInPart = 5
end_status Differ = 11

-- the file OUT could not be written
abbrev pub out_unwritten : End
out_unwritten = Unwritten Out

-- the side output could not be written: REPORT, or REST
abbrev pub side_unwritten : End
side_unwritten = Unwritten Side

-- the file PAGES could not be written
abbrev pub pages_unwritten : End
pages_unwritten = Unwritten Pages

-- the console could not be written
abbrev pub console_unwritten : End
console_unwritten = Unwritten Console

-- the end where all was done: whether something was refused
abbrev pub end_of : Bool → End
end_of refused = if refused then Refused else Done

-- all was done, and something was refused or nothing was
abbrev pub IsAllDone : End → Type 0
IsAllDone Done = Unit {0}
IsAllDone Refused = Unit {0}
IsAllDone (Unwritten which) = ⊥
IsAllDone (Told fault) = ⊥
IsAllDone BroughtInPart = ⊥
IsAllDone Differ = ⊥

-- no fault was told, and neither that a journal was brought in part nor that parts differ
abbrev pub TellsNoFault : End → Type 0
TellsNoFault Done = Unit {0}
TellsNoFault Refused = Unit {0}
TellsNoFault (Unwritten which) = Unit {0}
TellsNoFault (Told fault) = ⊥
TellsNoFault BroughtInPart = ⊥
TellsNoFault Differ = ⊥

-- it is no end that some commands alone have
abbrev pub IsCommon : End → Type 0
IsCommon end = (end ≢ BroughtInPart) × (end ≢ Differ)

-- the console got the text, and the end is by whether something was refused; or it could not be written, and got a front of the text
pub data IsResultTold (old new : Option (List ℕ)) (before now : ℕ) (text : List ℕ) (refused : Bool) (end : End) : Type 0 where
  ResultTold : end ≡ end_of refused → Appends old new text → IsResultTold old new before now text refused end
  ResultUntold : end ≡ console_unwritten → Rose before now → WritesFront old new text → IsResultTold old new before now text refused end

-- a console was told what was done, as far as it could be written, and the command ends so
abbrev pub TellsResult : {K : Type 0} → (K → Option (List ℕ)) → (K → ℕ) → K → K → List ℕ → Bool → End → Type 0
TellsResult written faults old new text refused end = IsResultTold (written old) (written new) (faults old) (faults new) text refused end

-- a console was told nothing, and met no fault
abbrev pub TellsNothing : {K : Type 0} → (K → Option (List ℕ)) → (K → ℕ) → K → K → Type 0
TellsNothing written faults old new = (written new ≡ written old) × (faults new ≡ faults old)

-- What a command did: the room before and after, what the console had been told and is told now, its faults, and the end.
pub record Outcome : Type 1 where
  pub old : RoomView
  pub new : RoomView
  pub told : Option (List ℕ)
  pub now : Option (List ℕ)
  pub faults : ℕ
  pub faults_now : ℕ
  pub end : End

-- the same from a room and a console, as they are seen before and after
abbrev pub outcome : {R K : Type 0} → (R → RoomView) → (K → Option (List ℕ)) → (K → ℕ) → R → R → K → K → End → Outcome
outcome seen written faults room room_now console console_now end = record {
  old = seen room;
  new = seen room_now;
  told = written console;
  now = written console_now;
  faults = faults console;
  faults_now = faults console_now;
  end = end;
}

-- the console is as it was
abbrev pub IsSilent : Outcome → Type 0
IsSilent o = (o.now ≡ o.told) × (o.faults_now ≡ o.faults)

-- the console was told that fault, as far as it could be written
abbrev pub IsTold : Fault → Outcome → Type 0
IsTold fault o = IsFaultTold o.told o.now o.faults o.faults_now (fault_line fault)

-- the console was told that the new journal got a part of what was to be brought, as far as it could be written
abbrev pub IsPartTold : Outcome → Type 0
IsPartTold o = IsFaultTold o.told o.now o.faults o.faults_now part_line

-- the console was told that parts differ, at that byte of the file of that name, as far as it could be written
abbrev pub IsDifferenceTold : ℕ → List ℕ → Outcome → Type 0
IsDifferenceTold place name o = IsFaultTold o.told o.now o.faults o.faults_now (differ_line place name)
