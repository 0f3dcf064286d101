-- An opening's fault, as the console tells it.
use Rattle.std.proofs.Common.{◌≡◌, refl}
use Rattle.durable_catalogue.specs.declared.fault.OpenFault.{OpenFault}
use Rattle.durable_catalogue.specs.declared.fault.OpenFault.TheVariants as opening
use Rattle.console_lines.specs.declared.fault.Fault.TheVariants.{Input, Device}
use Rattle.journal_files.specs.Faults.{fault_of_opening}

-- a device's fault alone is told as one
pub opening_device : (reason : OpenFault) → fault_of_opening reason ≡ Device → reason ≡ opening.DeviceFault
opening_device opening.DeviceFault is = refl
opening_device (opening.NotAJournal place) is = cc
opening_device opening.OldVersion is = cc
opening_device opening.Full is = cc
opening_device opening.NoMemory is = cc

-- and none as one of an input
pub opening_input : (reason : OpenFault) → fault_of_opening reason ≡ Input → ⊥
opening_input opening.DeviceFault is = cc
opening_input (opening.NotAJournal place) is = cc
opening_input opening.OldVersion is = cc
opening_input opening.Full is = cc
opening_input opening.NoMemory is = cc
