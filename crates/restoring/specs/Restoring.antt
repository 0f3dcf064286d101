-- A catalogue that begins with a state that was handed over. The rules are this project's own.
use Rattle.catalogue_rules.specs.State.{State}
use Rattle.kept_rows.specs.Standing.{IsStanding}
use Rattle.restoring.specs.declared.engine.EngineFault.{EngineFault}
use Rattle.restoring.specs.declared.engine.EngineFault.TheVariants.{NotValid, NoMemory}

-- a catalogue can't begin with the state; want of memory says nothing
abbrev pub IsUnfit : State → EngineFault → Type 0
IsUnfit s NotValid = IsStanding s → ⊥
IsUnfit s NoMemory = Unit {0}
