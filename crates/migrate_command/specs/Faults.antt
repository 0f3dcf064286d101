-- Why a history is not brought into a journal.
use Rattle.commit_journal.specs.declared.fault.JournalFault.{JournalFault}
use Rattle.commit_journal.specs.declared.fault.JournalFault.TheVariants as journal
use Rattle.durable_catalogue.specs.declared.fault.OpenFault.{OpenFault}
use Rattle.durable_catalogue.specs.declared.fault.OpenFault.TheVariants as opening
use Rattle.migrate_command.specs.declared.fault.MigrateFault.{MigrateFault}
use Rattle.migrate_command.specs.declared.fault.MigrateFault.TheVariants.{DeviceFault, NotAJournal, OldVersion, Full, NoMemory}

-- the journal's faults in a migration's words
abbrev pub migrate_fault : JournalFault → MigrateFault
migrate_fault journal.DeviceFault = DeviceFault
migrate_fault (journal.NotAJournal place) = NotAJournal place
migrate_fault journal.NoMemory = NoMemory

-- an opening's faults, in a migration's words
abbrev pub migrate_opening : OpenFault → MigrateFault
migrate_opening opening.DeviceFault = DeviceFault
migrate_opening (opening.NotAJournal place) = NotAJournal place
migrate_opening opening.OldVersion = OldVersion
migrate_opening opening.Full = Full
migrate_opening opening.NoMemory = NoMemory
