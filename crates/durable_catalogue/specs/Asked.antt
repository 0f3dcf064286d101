-- What a catalogue over a journal answers. The rules are this project's own.
use Rattle.std.specs.Prelude.{◌≡◌, ◌<◌, ◌≤◌, ℕ, List, take, drop, Option, Some, None, Result, IfOk}
use Rattle.marc_types.specs.declared.entry.Entry.{Entry}
use Rattle.marc_types.specs.declared.key.Place.{Place}
use Rattle.marc_types.specs.declared.copying.NoMemory.{NoMemory}
use Rattle.catalogue_rules.specs.State.{State}
use Rattle.catalogue_rules.specs.Settle.{state_of}
use Rattle.entry_history.specs.Events.{entries_of}
use Rattle.entry_history.specs.declared.event.Event.{Event}
use Rattle.durable_catalogue.specs.Durables.{Opening}
use Rattle.durable_catalogue.specs.Questions.{IsSeenIn}
use Rattle.durable_catalogue.specs.declared.question.Ask.{Ask}
use Rattle.durable_catalogue.specs.declared.question.Ask.TheVariants as ask
use Rattle.durable_catalogue.specs.declared.question.Told.{Told}
use Rattle.durable_catalogue.specs.declared.question.Told.TheVariants.{Status, Since, NotKept}

-- what a catalogue under a lock began with: what its opening left, and from which place on news is kept, where it was asked for
pub record Beginning : Type 0 where
  pub opening : Opening
  pub news : Option ℕ

-- how the field at a place of a state stands
abbrev pub IsToldOf : State → Place → Told → Type 0
IsToldOf s place (Status seen) = IsSeenIn s place seen
IsToldOf s place (Since headings) = ⊥
IsToldOf s place NotKept = ⊥

-- no news is kept of the entries from this place on
abbrev pub IsBefore : Option ℕ → ℕ → Type 0
IsBefore None from = Unit {0}
IsBefore (Some start) from = from < start

-- and it is
abbrev pub IsFrom : Option ℕ → ℕ → Type 0
IsFrom None from = ⊥
IsFrom (Some start) from = start ≤ from

-- The first `most` entries of a history from a place on, or all of them where there are fewer; NotKept exactly where no news of that
-- place is kept.
abbrev pub IsToldSince : Option ℕ → List Entry → ℕ → ℕ → Told → Type 0
IsToldSince start history from most (Status seen) = ⊥
IsToldSince start history from most (Since headings) = IsFrom start from × (headings ≡ take most (drop from history))
IsToldSince start history from most NotKept = IsBefore start from

-- the answer to a question over a history
abbrev pub IsAnswered : Option ℕ → List Event → Ask → Result Told NoMemory → Type 0
IsAnswered start history (ask.Status place) answer = IfOk answer (IsToldOf (state_of (entries_of history)) place)
IsAnswered start history (ask.Since from most) answer = IfOk answer (IsToldSince start (entries_of history) from most)
