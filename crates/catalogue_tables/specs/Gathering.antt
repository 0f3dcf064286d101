-- Seats and keys from several lists, each once.
use Rattle.std.specs.Prelude.{◌≡◌, Bool, ◌||◌, List}
use Rattle.std.specs.List.{list_any}
use Rattle.marc_types.specs.Order.{same_key}
use Rattle.marc_types.specs.declared.key.Key.{Key}
use Rattle.numbering.specs.Seats.{same_seat}
use Rattle.numbering.specs.declared.seat.Seat.{Seat}

-- the seats that were noted, and those that pass a test
abbrev pub NotesThose : (Seat → Bool) → List Seat → List Seat → Type 0
NotesThose test old new = (s : Seat) → list_any (same_seat s) new ≡ (list_any (same_seat s) old || test s)

-- the keys that were there, and these
abbrev pub AddsKeys : List Key → List Key → List Key → Type 0
AddsKeys old more new = (key : Key) → list_any (same_key key) new ≡ (list_any (same_key key) old || list_any (same_key key) more)
