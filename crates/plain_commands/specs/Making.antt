-- What making a workload comes to.
use Rattle.std.specs.Prelude.{◌≡◌, ◌⊎◌, ℕ, true, List, Some}
use Rattle.std.specs.Io.KnownBytes.{Appends}
use Rattle.outside.specs.Fault.{Rose}
use Rattle.outside.specs.Room.{IsUntouched}
use Rattle.outside.specs.Sink.{WritesFront}
use Rattle.workload.specs.Workload.{workload_bytes}
use Rattle.plain_commands.specs.Entries.{workload_entries}
use Rattle.plain_commands.specs.Totals.{sums_behind}
use Rattle.console_lines.specs.Ends.{Outcome, IsTold, IsSilent, out_unwritten, console_unwritten}
use Rattle.console_lines.specs.Lines.{made_line}
use Rattle.console_lines.specs.declared.end.End.{End}
use Rattle.console_lines.specs.declared.end.End.TheVariants.{Done, Refused, Unwritten, Told, BroughtInPart, Differ}
use Rattle.console_lines.specs.declared.end.Unwritten.TheVariants.{Out, Side, Pages, Console}
use Rattle.console_lines.specs.declared.fault.Fault.TheVariants.{Memory}
use Rattle.marc_types.specs.declared.sums.Sums.{Sums}
use Rattle.output_files.specs.Outputs.{IsOutputLeft}

-- the sums over the receipts of a workload's entries in an empty catalogue
abbrev pub workload_sums : ℕ → ℕ → Sums
workload_sums seed count = sums_behind (workload_entries seed count)

-- what the console is told of a workload
abbrev pub workload_line : ℕ → ℕ → List ℕ
workload_line seed count = made_line count (workload_sums seed count)

-- how a make ends: nothing is refused, and no fault is told but want of memory
abbrev pub EndsMaking : End → Type 0
EndsMaking Done = Unit {0}
EndsMaking Refused = ⊥
EndsMaking (Unwritten Out) = Unit {0}
EndsMaking (Unwritten Side) = ⊥
EndsMaking (Unwritten Pages) = ⊥
EndsMaking (Unwritten Console) = Unit {0}
EndsMaking (Told why) = why ≡ Memory
EndsMaking BroughtInPart = ⊥
EndsMaking Differ = ⊥

-- The command `make`: a workload of so many records into the file OUT.
pub record Makes (seed count : ℕ) (out : List ℕ) (o : Outcome) : Type 0 where
  pub ends : EndsMaking o.end
  pub told : o.end ≡ Told Memory → IsTold Memory o
  -- OUT or the console could not be written; where OUT could not, the console is untouched
  pub out_cause : o.end ≡ out_unwritten → Rose (o.old.out_faults out) (o.new.out_faults out)
  pub console_cause : o.end ≡ console_unwritten → Rose o.faults o.faults_now
  pub silent : o.end ≡ out_unwritten → IsSilent o
  -- OUT holds the workload; where it could not be written, it is as it was or holds it; and where memory ran out, it is as it was
  pub made : (o.end ≡ Done) ⊎ (o.end ≡ console_unwritten) → o.old.tells ≡ true → o.new.file out ≡ Some (workload_bytes seed count)
  pub left : o.end ≡ out_unwritten → o.old.tells ≡ true → IsOutputLeft o.old o.new out (workload_bytes seed count)
  pub untouched : o.end ≡ Told Memory → IsUntouched o.old o.new out
  -- the console was told the line of the workload, or a front of it where it could not be written
  pub line : o.end ≡ Done → Appends o.told o.now (workload_line seed count)
  pub front : o.end ≡ console_unwritten → WritesFront o.told o.now (workload_line seed count)
