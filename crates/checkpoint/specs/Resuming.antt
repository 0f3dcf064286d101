-- A history that is gone on with from a state. The rules are this project's own.
use Rattle.std.specs.Prelude.{ℕ, List, drop, map, fold}
use Rattle.marc_types.specs.declared.entry.Entry.{Entry}
use Rattle.catalogue_rules.specs.State.{State}
use Rattle.catalogue_rules.specs.Settle.{step, arrival_of}

-- the state after entries that are committed to a state
abbrev pub gone_on : State → List Entry → State
gone_on s entries = fold step s (map arrival_of entries)

-- a state behind so many entries of a history is gone on with the others
abbrev pub resumed : State → ℕ → List Entry → State
resumed s taken history = gone_on s (drop taken history)
