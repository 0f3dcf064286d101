-- What a file of holdings comes to, before anything is written.
use Rattle.std.specs.Prelude.{◌≡◌, ℕ, true, List, length, nat_lt, IsSomeAnd, string_bytes}
use Rattle.outside.specs.Room.{RoomView}
use Rattle.marc_stream.specs.Pieces.{items}
use Rattle.catalogue_rules.specs.State.{State}
use Rattle.command_words.specs.declared.library.Library.{Library}
use Rattle.holdings.specs.declared.holding.Holding.{Holding}
use Rattle.holdings.specs.Shelves.{shelf_of}
use Rattle.file_holdings.specs.Files.{AreHoldings}
use Rattle.file_holdings.specs.declared.refused.RefusedHolding.{RefusedHolding}
use Rattle.holdings_command.specs.Lines.{holdings_results}
use Rattle.holdings_command.specs.Shelving.{IsShelved}
use Rattle.holdings_command.specs.declared.shelving.Shelved.{Shelved}
use Rattle.holdings_command.specs.declared.ready.Ready.{Ready}

-- the shelf of the file's accepted holdings, what the console is told of them over a state, and whether something was refused
pub record IsReady (library : Library) (bytes : List ℕ) (s : State) (ready : Ready) : Type 0 where
  pub accepted : List Holding
  pub refused : List RefusedHolding
  pub judged : AreHoldings library.code (items bytes) accepted refused
  pub shelf_is : ready.shelf ≡ shelf_of accepted
  pub text_is : string_bytes ready.text ≡ holdings_results library.file s accepted refused
  pub refused_is : ready.refused ≡ nat_lt 0 (length refused)

-- the same of the file that the room has under its name, where it tells
abbrev pub IsReadyIn : RoomView → Library → State → Ready → Type 0
IsReadyIn room library s ready = room.tells ≡ true → IsSomeAnd (room.file library.file) (λ bytes. IsReady library bytes s ready)

-- it was made of what became of a file's items, whichever the file's bytes are
abbrev pub IsReadyOf : Shelved → Library → State → Ready → Type 0
IsReadyOf shelved library s ready = (bytes : List ℕ) → IsShelved library.code (items bytes) shelved → IsReady library bytes s ready
