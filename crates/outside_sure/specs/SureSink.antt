-- What clauses see of a sink in memory that fails for want of room alone.
use Rattle.std.specs.Prelude.{◌≡◌, ◌≢◌, ℕ, List, ◌++◌, length, take}
use Rattle.outside_sure.specs.SureState.{SureState}
use Rattle.outside_sure.specs.declared.sure_sink.SureSink.{SureSink}

-- a sure sink's bytes and faults
abbrev pub sink_state : {room : ℕ} → SureSink room → SureState
sink_state sink = record { bytes = sink.held.buffer.items; faults = sink.faults }

-- a sink with a fault is full
pub full_sink : {room : ℕ} (sink : SureSink room) → (sink_state sink).faults ≢ 0 → length (sink_state sink).bytes ≡ room
full_sink sink = sink.full

-- the bytes after a piece was written, as many as there is room for
abbrev pub sink_after : ℕ → List ℕ → List ℕ → List ℕ
sink_after room bytes piece = take room (bytes ++ piece)
