-- What the reading of reports comes to, call by call.
use Rattle.std.specs.Prelude.{◌≡◌, ℕ, ◌+◌, ◌-◌, ◌^◌, ◌≤◌, true, List, ◌∷◌, ◌++◌, Option, Some, IfSome}
use Rattle.outside.specs.Fault.{Rose, count_total}
use Rattle.outside.specs.Room.{RoomView}
use Rattle.catalogue_parts.specs.declared.totals.Totals.{Totals}
use Rattle.console_lines.specs.declared.fault.Fault.{Fault}
use Rattle.console_lines.specs.declared.fault.Fault.TheVariants.{Usage, Input, Device, NotAJournal, Full, Memory, OldVersion, OtherHistory}
use Rattle.parts_commands.specs.Reports.{FileOf, IsReportOf, IsLastLine, IsPartReport, IsNotBeyond, ReportsDiffer}
use Rattle.parts_commands.specs.declared.reports.Stopped.{Stopped}
use Rattle.parts_commands.specs.declared.reports.Stopped.TheVariants as stopped
use Rattle.parts_commands.specs.declared.sums.Sums.{Sums}

-- the numbers of sums
abbrev pub numbers_of : Sums → Totals
numbers_of sums = record {
  authorities = sums.authorities;
  bibliographic = sums.bibliographic;
  linked = sums.linked;
  ambiguous = sums.ambiguous;
  unlinked = sums.unlinked;
}

-- with what a part counts beyond what stands in all of them
abbrev pub with_part : Totals → Totals → Totals → Totals
with_part whole shared part = record {
  authorities = whole.authorities + (part.authorities - shared.authorities);
  bibliographic = whole.bibliographic + (part.bibliographic - shared.bibliographic);
  linked = whole.linked + (part.linked - shared.linked);
  ambiguous = whole.ambiguous + (part.ambiguous - shared.ambiguous);
  unlinked = whole.unlinked + (part.unlinked - shared.unlinked);
}

-- the greatest number of 64 bits
abbrev pub greatest : ℕ
greatest = 2 ^ 64 - 1

-- no number is greater
pub record AreUpTo (most : ℕ) (t : Totals) : Type 0 where
  pub authorities : t.authorities ≤ most
  pub bibliographic : t.bibliographic ≤ most
  pub linked : t.linked ≤ most
  pub ambiguous : t.ambiguous ≤ most
  pub unlinked : t.unlinked ≤ most

-- the last line begins at that place, and these numbers are told there, if any
pub record IsRead (bytes : List ℕ) (totals : Option Totals) (place : ℕ) : Type 0 where
  pub last : IsLastLine bytes place
  pub is : IfSome totals (λ t. IsReportOf t bytes)
  pub every : (t : Totals) → IsReportOf t bytes → totals ≡ Some t

-- an input failed, or memory ran out
abbrev pub IsFaultOfReading : Fault → Type 0
IsFaultOfReading Usage = ⊥
IsFaultOfReading Input = Unit {0}
IsFaultOfReading Device = ⊥
IsFaultOfReading (NotAJournal place) = ⊥
IsFaultOfReading Full = ⊥
IsFaultOfReading Memory = Unit {0}
IsFaultOfReading OldVersion = ⊥
IsFaultOfReading OtherHistory = ⊥

-- the report of that name was added
pub record IsAdded (file : FileOf) (shared : Totals) (name : List ℕ) (old new : Totals) : Type 0 where
  pub part : Totals
  pub report : IsPartReport file shared name part
  pub new_is : new ≡ with_part old shared part

-- why the reading of one file stopped: a fault, or the file isn't what it should be
abbrev pub StopsAt : RoomView → RoomView → List ℕ → (ℕ → Type 0) → Stopped → Type 0
StopsAt old new name Why (stopped.Fault why) = IsFaultOfReading why × (why ≡ Input → Rose (old.in_faults name) (new.in_faults name))
StopsAt old new name Why (stopped.Differ place at) = (at.now ≡ name) × (old.tells ≡ true → Why place)

-- the same of one of these files
abbrev pub StopsAmong : RoomView → RoomView → Totals → List (List ℕ) → Stopped → Type 0
StopsAmong old new shared names (stopped.Fault why) =
    IsFaultOfReading why × (why ≡ Input → Rose (count_total old.in_faults names) (count_total new.in_faults names))
StopsAmong old new shared names (stopped.Differ place name) =
    (before : List (List ℕ)) × (after : List (List ℕ)) × (names ≡ before ++ name.now ∷ after) × (old.tells ≡ true → IsNotBeyond old.file shared name.now place)

-- the same of all files
abbrev pub StopsSumming : RoomView → RoomView → List ℕ → List (List ℕ) → Stopped → Type 0
StopsSumming old new first names (stopped.Fault why) =
    IsFaultOfReading why × (why ≡ Input → Rose (count_total old.in_faults (first ∷ names)) (count_total new.in_faults (first ∷ names)))
StopsSumming old new first names (stopped.Differ place name) = old.tells ≡ true → ReportsDiffer old.file first names place name.now
