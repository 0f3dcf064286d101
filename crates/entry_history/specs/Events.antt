-- What stands in the history of a catalogue that is kept in a journal: entries, and a mark where a device failed.
use Rattle.std.specs.Prelude.{Bool, true, false, List, [], ◌∷◌, map}
use Rattle.std.specs.List.{flat_map, list_any}
use Rattle.marc_types.specs.declared.entry.Entry.{Entry}
use Rattle.entry_history.specs.declared.event.Event.{Event}
use Rattle.entry_history.specs.declared.event.Event.TheVariants.{Committed, Broke}

-- the entry that an event is; none of a mark
abbrev pub committed_entries : Event → List Entry
committed_entries (Committed e) = e ∷ []
committed_entries (Broke entries) = []

-- whether it is a mark
abbrev pub is_mark : Event → Bool
is_mark (Committed e) = false
is_mark (Broke entries) = true

-- the committed entries, without the marks
abbrev pub entries_of : List Event → List Entry
entries_of events = flat_map committed_entries events

-- a device failed
abbrev pub is_broken : List Event → Bool
is_broken events = list_any is_mark events

-- entries as events
abbrev pub committed : List Entry → List Event
committed entries = map (λ e. Committed e) entries
