-- What a gate's bytes say of a walk.
use Rattle.std.specs.Prelude.{◌≡◌, ℕ, ◌+◌, ◌<◌, ◌≤◌, [], ◌∷◌, List, length, take, drop}
use Rattle.commit_journal.specs.Log.{walk, closed_at, lost_at, behind}
use Rattle.journal_verification.specs.declared.gate.Gate.{Gate}
use Rattle.journal_verification.specs.declared.gate.Gate.TheVariants.{Closed, Frame, Lost}

-- how a walk goes on from the gate with which bytes begin
abbrev pub GateSays : List ℕ → Gate → Type 0
GateSays bytes Closed = (place : ℕ) → walk place 0 bytes ≡ closed_at place
GateSays bytes (Frame count) =
    (place : ℕ) → walk place 0 bytes
    ≡ behind (record { gate = place; payload = take count (drop 5 bytes) } ∷ []) (walk (place + (5 + count)) 0 (drop (5 + count) bytes))
GateSays bytes Lost = (place : ℕ) → walk place 0 bytes ≡ lost_at place

-- the gate and its frame are in the window
abbrev pub GateIn : List ℕ → Gate → Type 0
GateIn window Closed = 1 ≤ length window
GateIn window (Frame count) = 5 + count < length window
GateIn window Lost = Unit {0}
