-- How the command ends that tells the numbers of a whole from the reports of its parts. The rules are this project's own.
use Rattle.std.specs.Prelude.{◌≡◌, ℕ, true, List, ◌∷◌, Option}
use Rattle.std.specs.Io.KnownBytes.{Appends}
use Rattle.outside.specs.Fault.{Rose, count_total}
use Rattle.outside.specs.Sink.{WritesFront}
use Rattle.catalogue_parts.specs.declared.totals.Totals.{Totals}
use Rattle.catalogue_parts.specs.Joined.{line_of_totals}
use Rattle.console_lines.specs.Ends.{Outcome, IsTold, IsDifferenceTold, console_unwritten}
use Rattle.console_lines.specs.Faults.{IsFaultTold, fault_line}
use Rattle.console_lines.specs.declared.end.End.{End}
use Rattle.console_lines.specs.declared.end.End.TheVariants.{Done, Refused, Unwritten, Told, BroughtInPart, Differ}
use Rattle.console_lines.specs.declared.end.Unwritten.TheVariants.{Out, Side, Pages, Console}
use Rattle.console_lines.specs.declared.fault.Fault.{Fault}
use Rattle.console_lines.specs.declared.fault.Fault.TheVariants.{Input, Memory}
use Rattle.parts_commands.specs.Reading.{IsFaultOfReading}
use Rattle.parts_commands.specs.Reports.{AreJoined, ReportsDiffer}

-- how it ends: nothing is refused, and no output is written
abbrev pub EndsTotals : End → Type 0
EndsTotals Done = Unit {0}
EndsTotals Refused = ⊥
EndsTotals (Unwritten Out) = ⊥
EndsTotals (Unwritten Side) = ⊥
EndsTotals (Unwritten Pages) = ⊥
EndsTotals (Unwritten Console) = Unit {0}
EndsTotals (Told why) = IsFaultOfReading why
EndsTotals BroughtInPart = ⊥
EndsTotals Differ = Unit {0}

-- the console got the line; or it could not be written, and got a front of it; or memory ran out, which was told
pub data IsLineTold (old new : Option (List ℕ)) (before now : ℕ) (line : List ℕ) (end : End) : Type 0 where
  LineTold : end ≡ Done → Appends old new line → IsLineTold old new before now line end
  LineUntold : end ≡ console_unwritten → Rose before now → WritesFront old new line → IsLineTold old new before now line end
  NoRoomForLine : end ≡ Told Memory → IsFaultTold old new before now (fault_line Memory) → IsLineTold old new before now line end

-- the line of the whole was told, to which its parts' reports come
pub record IsWholeTold (first : List ℕ) (reports : List (List ℕ)) (o : Outcome) : Type 0 where
  pub whole : Totals
  pub joined : AreJoined o.old.file first reports whole
  pub console : Appends o.told o.now (line_of_totals whole)

-- or a front of that
pub record IsWholeToldInPart (first : List ℕ) (reports : List (List ℕ)) (o : Outcome) : Type 0 where
  pub whole : Totals
  pub joined : AreJoined o.old.file first reports whole
  pub console : WritesFront o.told o.now (line_of_totals whole)

-- it was told which report can't be joined, and where its last line begins
pub record IsOtherReportTold (first : List ℕ) (reports : List (List ℕ)) (o : Outcome) : Type 0 where
  pub place : ℕ
  pub name : List ℕ
  pub line : IsDifferenceTold place name o
  pub so : o.old.tells ≡ true → ReportsDiffer o.old.file first reports place name

-- The command `totals`: the line of the whole is told, from the report of the authorities alone and those of the parts. No file changes.
pub record TellsTotals (first : List ℕ) (reports : List (List ℕ)) (o : Outcome) : Type 0 where
  pub ends : EndsTotals o.end
  -- each fault is told, and has its cause
  pub told : (why : Fault) → o.end ≡ Told why → IsTold why o
  pub input : o.end ≡ Told Input → Rose (count_total o.old.in_faults (first ∷ reports)) (count_total o.new.in_faults (first ∷ reports))
  pub console_cause : o.end ≡ console_unwritten → Rose o.faults o.faults_now
  -- the reports are there and can be joined, and what they come to is told; or which can't
  pub whole : o.end ≡ Done → o.old.tells ≡ true → IsWholeTold first reports o
  pub part : o.end ≡ console_unwritten → o.old.tells ≡ true → IsWholeToldInPart first reports o
  pub differ : o.end ≡ Differ → IsOtherReportTold first reports o
