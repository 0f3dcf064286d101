-- What a file's items make of an empty shelf.
use Rattle.std.specs.Prelude.{◌≡◌, ℕ, true, List, length, IsSomeAnd}
use Rattle.outside.specs.Room.{RoomView}
use Rattle.marc_stream.specs.Pieces.{Item, items}
use Rattle.holdings.specs.declared.holding.Holding.{Holding}
use Rattle.holdings.specs.Shelves.{shelf_of}
use Rattle.file_holdings.specs.Files.{AreHoldings}
use Rattle.console_lines.specs.declared.fault.Fault.{Fault}
use Rattle.console_lines.specs.declared.fault.Fault.TheVariants.{Usage, Input, Device, NotAJournal, Full, Memory, OldVersion, OtherHistory}
use Rattle.holdings_command.specs.declared.shelving.Shelved.{Shelved}

-- the items were judged, and the accepted holdings are on the shelf
pub record IsShelved (library : List ℕ) (items : List Item) (s : Shelved) : Type 0 where
  pub accepted : List Holding
  pub judged : AreHoldings library items accepted s.refused.items
  pub shelf_is : s.shelf ≡ shelf_of accepted
  pub count_is : s.accepted ≡ length accepted

-- the same of the items of the file that a room has under a name, where it tells
abbrev pub IsShelvedIn : RoomView → List ℕ → List ℕ → Shelved → Type 0
IsShelvedIn room name library s = room.tells ≡ true → IsSomeAnd (room.file name) (λ bytes. IsShelved library (items bytes) s)

-- the faults that end the reading of a file
abbrev pub IsFaultOfShelving : Fault → Type 0
IsFaultOfShelving Input = Unit {0}
IsFaultOfShelving Memory = Unit {0}
IsFaultOfShelving Usage = ⊥
IsFaultOfShelving Device = ⊥
IsFaultOfShelving (NotAJournal place) = ⊥
IsFaultOfShelving Full = ⊥
IsFaultOfShelving OldVersion = ⊥
IsFaultOfShelving OtherHistory = ⊥
