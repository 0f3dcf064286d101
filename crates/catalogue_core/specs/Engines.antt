-- What clauses see of a catalogue's state, and what its type keeps.
use Rattle.catalogue_rules.specs.State.{State, empty_state}
use Rattle.catalogue_rules.specs.Valid.{IsValid}

-- the state, and the one before all steps that can be undone
pub record Engined : Type 0 where
  pub state : State
  pub before : State

-- an engine of no record
abbrev pub empty_engine : Engined
empty_engine = record { state = empty_state; before = empty_state }

-- an engine with no way back behind the state
abbrev pub kept_engine : State → Engined
kept_engine s = record { state = s; before = s }

-- either state is valid
pub record IsEngine (state before : State) : Type 0 where
  pub valid : IsValid state
  pub valid_before : IsValid before
