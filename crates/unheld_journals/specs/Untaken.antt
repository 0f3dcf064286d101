-- Why the bytes of a journal that isn't held aren't had, or aren't taken. The rules are this project's own.
use Rattle.std.specs.Prelude.{◌≡◌, ℕ, List}
use Rattle.marc_types.specs.declared.entry.Limits.{Limits}
use Rattle.durable_catalogue.specs.Openings.{IsUnopened}
use Rattle.durable_catalogue.specs.declared.fault.OpenFault.{OpenFault}
use Rattle.durable_catalogue.specs.declared.fault.OpenFault.TheVariants as opening
use Rattle.console_lines.specs.declared.fault.Fault.{Fault}
use Rattle.console_lines.specs.declared.fault.Fault.TheVariants.{Input, NotAJournal, Full, Memory, OldVersion}
use Rattle.memory_files.specs.declared.reading.ReadFault.{ReadFault}
use Rattle.memory_files.specs.declared.reading.ReadFault.TheVariants as read

-- why a journal's bytes aren't had, as the console tells it
abbrev pub fault_of_reading : ReadFault → Fault
fault_of_reading read.InputFault = Input
fault_of_reading read.NoMemory = Memory

-- why a journal's bytes aren't taken, as the console tells it: they are in memory, so that no device but memory fails them
abbrev pub fault_of_look : OpenFault → Fault
fault_of_look opening.DeviceFault = Memory
fault_of_look (opening.NotAJournal place) = NotAJournal place
fault_of_look opening.OldVersion = OldVersion
fault_of_look opening.Full = Full
fault_of_look opening.NoMemory = Memory

-- the fault is why these bytes were not taken within these limits, and they are so
pub record WhyUntaken (limits : Limits) (bytes : List ℕ) (fault : Fault) : Type 0 where
  pub reason : OpenFault
  pub is : fault ≡ fault_of_look reason
  pub so : IsUnopened limits bytes reason
