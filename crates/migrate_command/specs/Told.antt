-- How the console tells why a history was not brought into a journal.
use Rattle.console_lines.specs.declared.fault.Fault.{Fault}
use Rattle.console_lines.specs.declared.fault.Fault.TheVariants as fault
use Rattle.migrate_command.specs.declared.fault.MigrateFault.{MigrateFault}
use Rattle.migrate_command.specs.declared.fault.MigrateFault.TheVariants as migrating

-- a migration's fault, as the console tells it
abbrev pub fault_of_migrating : MigrateFault → Fault
fault_of_migrating migrating.DeviceFault = fault.Device
fault_of_migrating (migrating.NotAJournal place) = fault.NotAJournal place
fault_of_migrating migrating.OldVersion = fault.OldVersion
fault_of_migrating migrating.Full = fault.Full
fault_of_migrating migrating.NotPrefix = fault.OtherHistory
fault_of_migrating migrating.NoMemory = fault.Memory
