-- A catalogue that is resumed from a checkpoint, and gone on with by the entries behind it. The rules are this project's own.
use Rattle.std.specs.Prelude.{◌≡◌, ◌⊎◌, ℕ, ◌+◌, ◌≤◌, true, List, [], ◌∷◌, drop, length, take, Option, Some, None, IfSome}
use Rattle.marc_types.specs.declared.entry.Entry.{Entry}
use Rattle.catalogue_rules.specs.State.{State, empty_state}
use Rattle.catalogue_rules.specs.Settle.{step, arrival_of, state_of}
use Rattle.linking_laws.specs.Visits.{touched}
use Rattle.kept_rows.specs.Rows.{state_of_rows, are_in_order}
use Rattle.kept_rows.specs.Standing.{IsStanding}
use Rattle.catalogue_core.specs.Engines.{kept_engine}
use Rattle.checkpoint.specs.Resuming.{resumed}
use Rattle.checkpoint.specs.declared.point.Point.{Point}
use Rattle.restoring.specs.declared.resuming.Restored.{Restored}

-- the state that a checkpoint holds
abbrev pub held_state : Point → State
held_state point = state_of_rows point.rows

-- authorities stand first in a checkpoint, and the keys of each class ascend
abbrev pub IsInOrder : Point → Type 0
IsInOrder point = are_in_order point.rows ≡ true

-- A history of so many entries can take a checkpoint up: it is of some of them, of no more than there are, and a catalogue can begin with
-- its state.
pub record CanBeTaken (count : ℕ) (point : Point) : Type 0 where
  pub some : 1 ≤ point.entries
  pub within : point.entries ≤ count
  pub stands : IsStanding (held_state point)

-- nothing is taken up: the catalogue begins empty
pub record IsBlank (taken : ℕ) (begun : State) : Type 0 where
  pub none : taken ≡ 0
  pub empty : begun ≡ empty_state

-- a checkpoint is taken up: the catalogue begins with its state, behind so many entries
pub record IsTakenUp (point : Point) (taken : ℕ) (begun : State) : Type 0 where
  pub taken_is : taken ≡ point.entries
  pub state_is : begun ≡ held_state point

-- What a history of so many entries begins with: the checkpoint where it can be taken up, and nothing anywhere else.
abbrev pub BeginsWith : ℕ → Option Point → ℕ → State → Type 0
BeginsWith count None taken begun = IsBlank taken begun
BeginsWith count (Some point) taken begun =
    (CanBeTaken count point × IsTakenUp point taken begun) ⊎ ((CanBeTaken count point → ⊥) × IsBlank taken begun)

-- a history is resumed: begun with, and gone on with by the entries behind those that were taken; there is no way back
pub record IsResumed (point : Option Point) (history : List Entry) (restored : Restored) : Type 0 where
  pub begun : State
  pub begins : BeginsWith (length history) point restored.taken begun
  pub engine_is : restored.engine ≡ kept_engine (resumed begun restored.taken history)

-- the checkpoint, if there is one that can be taken up, is of the history: its state is that behind so many of its entries
abbrev pub IsOfHistory : Option Point → List Entry → Type 0
IsOfHistory point history = IfSome point (λ p. CanBeTaken (length history) p → held_state p ≡ state_of (take p.entries history))

-- a checkpoint is of a front of the history: of no more entries, and its state is exactly the one behind so many of them
pub record IsOfFront (history : List Entry) (point : Point) : Type 0 where
  pub within : point.entries ≤ length history
  pub state_is : held_state point ≡ state_of (take point.entries history)

-- whatever the history begins with, all entries of the checkpoint are taken
abbrev pub IsTakenUpBy : List Entry → Point → Type 0
IsTakenUpBy history point = (taken : ℕ) (begun : State) → BeginsWith (length history) (Some point) taken begun → taken ≡ point.entries

-- how many records the commits of entries touch that follow one another from a state
abbrev pub touched_through : State → List Entry → ℕ
touched_through s [] = 0
touched_through s (e ∷ entries) = touched s e + touched_through (step s (arrival_of e)) entries

-- no more records are visited than the entries behind those that were taken touch
abbrev pub VisitsBehind : Option Point → List Entry → ℕ → ℕ → Type 0
VisitsBehind point history before now =
    (taken : ℕ) (begun : State) → BeginsWith (length history) point taken begun → now ≤ before + touched_through begun (drop taken history)
