-- Why a command ends before its end. The statuses and lines are this project's own.
use Rattle.std.specs.Prelude.{ℕ, ◌++◌, ◌≤◌, List, ◌∷◌, [], Option, codes}
use Rattle.std.specs.Fmt.{decimal}
use Rattle.std.specs.Io.KnownBytes.{Appends}
use Rattle.outside.specs.Fault.{Rose}
use Rattle.outside.specs.Sink.{WritesFront}
use Rattle.console_lines.specs.declared.fault.Fault.{Fault}
use Rattle.console_lines.specs.declared.fault.Fault.TheVariants.{Usage, Input, Device, NotAJournal, Full, Memory, OldVersion, OtherHistory}

-- the exit status of a fault
abbrev pub fault_status : Fault → ℕ
fault_status Usage = 2
fault_status Input = 3
fault_status Device = 5
fault_status (NotAJournal place) = 6
fault_status Full = 7
fault_status Memory = 8
fault_status OldVersion = 9
fault_status OtherHistory = 10

-- the line of a fault
abbrev pub fault_line : Fault → List ℕ
fault_line Usage = codes "union_cat: usage\n"
fault_line Input = codes "union_cat: input fault\n"
fault_line Device = codes "union_cat: device fault\n"
fault_line (NotAJournal place) = codes "union_cat: not a journal at " ++ decimal place ++ 10 ∷ []
fault_line Full = codes "union_cat: full\n"
fault_line Memory = codes "union_cat: out of memory\n"
fault_line OldVersion = codes "union_cat: wrong journal version\n"
fault_line OtherHistory = codes "union_cat: other history\n"

-- the console got the line, or its count of faults rose and it got a front of the line
pub data IsFaultTold (old new : Option (List ℕ)) (before now : ℕ) (line : List ℕ) : Type 0 where
  Told : before ≤ now → Appends old new line → IsFaultTold old new before now line
  Untold : Rose before now → WritesFront old new line → IsFaultTold old new before now line

-- a console was told a fault, as far as it could be written
abbrev pub TellsFault : {K : Type 0} → (K → Option (List ℕ)) → (K → ℕ) → K → K → Fault → Type 0
TellsFault written faults old new fault = IsFaultTold (written old) (written new) (faults old) (faults new) (fault_line fault)
