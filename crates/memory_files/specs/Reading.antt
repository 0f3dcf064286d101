-- Why the reading of an input fails.
use Rattle.std.specs.Prelude.{ℕ, ◌≤◌, Result, IsErrOf}
use Rattle.outside.specs.Fault.{Rose}
use Rattle.memory_files.specs.declared.reading.ReadFault.{ReadFault}
use Rattle.memory_files.specs.declared.reading.ReadFault.TheVariants.{InputFault}

-- a fault of the input comes only where its count of faults rose; want of memory needs no cause
pub record HasReadCause {T : Type 0} (before now : ℕ) (result : Result T ReadFault) : Type 0 where
  pub later : before ≤ now
  pub failed : IsErrOf result InputFault → Rose before now
