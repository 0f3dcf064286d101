-- Why a disk is not opened.
use Rattle.commit_journal.specs.declared.fault.JournalFault.{JournalFault}
use Rattle.commit_journal.specs.declared.fault.JournalFault.TheVariants as journal
use Rattle.durable_catalogue.specs.declared.fault.OpenFault.{OpenFault}
use Rattle.durable_catalogue.specs.declared.fault.OpenFault.TheVariants.{DeviceFault, NotAJournal, NoMemory}

-- the journal's faults in the catalogue's words
abbrev pub open_fault : JournalFault → OpenFault
open_fault journal.DeviceFault = DeviceFault
open_fault (journal.NotAJournal place) = NotAJournal place
open_fault journal.NoMemory = NoMemory
