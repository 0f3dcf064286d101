-- How the console tells why a journal was not opened.
use Rattle.std.specs.Prelude.{◌≡◌, ℕ, true, List}
use Rattle.outside.specs.Fault.{Rose}
use Rattle.outside.specs.Room.{RoomView}
use Rattle.console_lines.specs.Ends.{Outcome}
use Rattle.console_lines.specs.declared.end.End.TheVariants.{Told}
use Rattle.console_lines.specs.declared.fault.Fault.{Fault}
use Rattle.console_lines.specs.declared.fault.Fault.TheVariants as fault
use Rattle.durable_catalogue.specs.declared.fault.OpenFault.{OpenFault}
use Rattle.durable_catalogue.specs.declared.fault.OpenFault.TheVariants as opening
use Rattle.durable_catalogue.specs.Openings.{IsUnopened}
use Rattle.journal_files.specs.Journals.{journal_limits, log_bytes}

-- an opening's fault, as the console tells it
abbrev pub fault_of_opening : OpenFault → Fault
fault_of_opening opening.DeviceFault = fault.Device
fault_of_opening (opening.NotAJournal place) = fault.NotAJournal place
fault_of_opening opening.OldVersion = fault.OldVersion
fault_of_opening opening.Full = fault.Full
fault_of_opening opening.NoMemory = fault.Memory

-- a device's fault was told, and the count of faults of that name's logs rose
abbrev pub IsDeviceOf : Outcome → List ℕ → Type 0
IsDeviceOf o name = (o.end ≡ Told fault.Device) × Rose (o.old.log_faults name) (o.new.log_faults name)

-- the fault is why the log of that name was not opened; where the room tells its bytes, they are so
pub record WhyUnopened (room : RoomView) (name : List ℕ) (fault : Fault) : Type 0 where
  pub reason : OpenFault
  pub is : fault ≡ fault_of_opening reason
  pub so : room.tells ≡ true → IsUnopened (journal_limits room) (log_bytes room name) reason
