-- A fault of reading a file of holdings is one of two.
use Rattle.holdings_command.specs.Shelving.{IsFaultOfShelving}
use Rattle.console_lines.specs.declared.fault.Fault.{Fault}
use Rattle.console_lines.specs.declared.fault.Fault.TheVariants.{Usage, Input, Device, NotAJournal, Full, Memory, OldVersion, OtherHistory}

-- what holds of the faults that end the reading holds of each that did
pub unread_is : (P : Fault → Type 0) → P Input → P Memory → (why : Fault) → IsFaultOfShelving why → P why
unread_is P input memory Input is = input
unread_is P input memory Memory is = memory
unread_is P input memory Usage is = absurd is
unread_is P input memory Device is = absurd is
unread_is P input memory (NotAJournal place) is = absurd is
unread_is P input memory Full is = absurd is
unread_is P input memory OldVersion is = absurd is
unread_is P input memory OtherHistory is = absurd is
